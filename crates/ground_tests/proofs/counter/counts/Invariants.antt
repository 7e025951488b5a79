use Rattle.ground_tests.proofs.counter.counts.Given as goal

abbrev pub ghosts-two_steps : goal.ghosts-two_steps
ghosts-two_steps a = record { name = a.ledger.name; parts = a.ledger.parts }
