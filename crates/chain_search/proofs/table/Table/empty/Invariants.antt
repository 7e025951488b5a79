use Rattle.std.proofs.Common.{◌≡◌, replicate, None}
use Rattle.chain_search.proofs.table.Table.empty.Given as goal

abbrev pub invariant-loop : goal.invariant-loop
invariant-loop l = l.steps.items ≡ replicate l.counter None
