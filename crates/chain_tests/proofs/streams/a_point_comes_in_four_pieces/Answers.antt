use Rattle.chain_tests.proofs.streams.a_point_comes_in_four_pieces.Goals as goal

pub gives-requires-clause-ready : goal.gives-requires-clause-ready
gives-requires-clause-ready g c = (tt, c.runner-runner.ensures _)
