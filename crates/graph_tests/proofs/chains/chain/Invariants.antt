use Rattle.graph_tests.proofs.chains.chain.Given as goal

abbrev pub ghosts-chain_between : goal.ghosts-chain_between
ghosts-chain_between a = record { name = a.ledger.name; parts = a.ledger.parts }
