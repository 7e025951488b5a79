use Rattle.gconv_tests.proofs.seats.open.Given as goal

abbrev pub ghosts-open_with : goal.ghosts-open_with
ghosts-open_with g a = record { name = a.ledger.name; parts = a.ledger.parts }
