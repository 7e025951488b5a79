use Rattle.std.proofs.Common.{take, map}
use Rattle.names_alias.specs.Lookups.{LooksLike}
use Rattle.modules_conf.specs.Resolution.{ends_of}
use Rattle.modules_conf.proofs.resolution.aliases_of.Given as goal

abbrev pub invariant-loop-line : goal.invariant-loop-line
invariant-loop-line l = LooksLike l.aliases (ends_of l.conf.edges) (map (λ a. (a.alias, a.original)) (take l.line-index l.lines))
