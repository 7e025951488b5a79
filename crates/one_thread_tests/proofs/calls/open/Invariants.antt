use Rattle.one_thread_tests.proofs.calls.open.Given as goal

abbrev pub ghosts-open_with : goal.ghosts-open_with
ghosts-open_with a = record { name = a.ledger.name; parts = a.ledger.parts }
