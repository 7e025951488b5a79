use Rattle.two_views.proofs.pair.Given as goal

abbrev pub ghosts-write_rows : goal.ghosts-write_rows
ghosts-write_rows g a = record { name = a.ledger.name; parts = a.ledger.parts }
