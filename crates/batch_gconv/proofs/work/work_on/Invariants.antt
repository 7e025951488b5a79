use Rattle.batch_gconv.proofs.work.work_on.Given as goal

abbrev pub ghosts-opened : goal.ghosts-opened
ghosts-opened g a = record { name = a.ledger.name; parts = a.ledger.parts }
