use Rattle.chain_tests.proofs.streams.cut_in_bytes.Goals as goal

pub in_bytes-requires-clause-ready : goal.in_bytes-requires-clause-ready
in_bytes-requires-clause-ready c = (tt, c.runner-runner.ensures _)
