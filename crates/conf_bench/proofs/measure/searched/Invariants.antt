use Rattle.std.proofs.Common.{length}
use Rattle.conf_bench.proofs.Searches.{Counted}
use Rattle.conf_bench.proofs.measure.searched.Given as goal

abbrev pub invariant-loop-search : goal.invariant-loop-search
invariant-loop-search g l = Counted l.found l.search l.fn.steps l.steps (length l.graph.edges)
