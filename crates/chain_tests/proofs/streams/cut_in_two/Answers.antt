use Rattle.chain_tests.proofs.streams.cut_in_two.Goals as goal

pub in_two-requires-clause-ready : goal.in_two-requires-clause-ready
in_two-requires-clause-ready c = (tt, c.runner-runner.ensures _)
