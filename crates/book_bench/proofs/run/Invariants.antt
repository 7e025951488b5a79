use Rattle.book_bench.proofs.run.Given as goal

abbrev pub ghosts-measure : goal.ghosts-measure
ghosts-measure a = record { name = a.ledger.name; parts = a.ledger.parts }
