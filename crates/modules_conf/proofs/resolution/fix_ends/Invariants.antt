use Rattle.std.proofs.Common.{[], take}
use Rattle.names_alias.specs.Lookups.{LooksLike}
use Rattle.modules_conf.specs.Resolution.{ends_of}
use Rattle.modules_conf.proofs.resolution.fix_ends.Given as goal

abbrev pub invariant-loop-edge : goal.invariant-loop-edge
invariant-loop-edge l = LooksLike l.aliases (ends_of (take l.edge-index l.edges)) []
