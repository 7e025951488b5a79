use Rattle.two_views.proofs.ring.Given as goal

abbrev pub ghosts-on_ring : goal.ghosts-on_ring
ghosts-on_ring g a = record { name = a.ledger.name; parts = a.ledger.parts }
