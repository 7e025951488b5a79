use Rattle.std.proofs.Common.{◌≡◌, ◌++◌}
use Rattle.charmap_reader.specs.Mapping.{members}
use Rattle.charmap_reader.proofs.members.push_members.Given as goal

abbrev pub invariant-loop-k : goal.invariant-loop-k
invariant-loop-k l = l.pairs.items ≡ l.fn.pairs.items ++ members l.point l.code l.k
