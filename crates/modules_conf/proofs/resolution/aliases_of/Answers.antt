use Rattle.std.proofs.Common.{◌≡◌, map, take, ◌∙◌, subst}
use Rattle.std.proofs.lemmas.List.{take_all}
use Rattle.names_alias.specs.Lookups.{LooksLike}
use Rattle.names_alias.proofs.LookupLemmas.{caller_name_of-LooksLike}
use Rattle.modules_conf.specs.Resolution.{ends_of}
use Rattle.modules_conf.specs.declared.lines.AliasLine.{AliasLine}
use Rattle.modules_conf.proofs.ResolutionLemmas.{LooksLike-line}
use Rattle.modules_conf.proofs.resolution.aliases_of.Goals as goal

pub loop-line-preserved : goal.loop-line-preserved
loop-line-preserved c =
    LooksLike-line c.loop-line.aliases c.add.new.self (ends_of c.args.conf.now.edges) c.as_slice-lines.result.now c.loop-line.line-index c.line-item.result c.loop-line-test.true c.line-item.is
    c.loop-line.invariant c.in_ok-add.ensures.ok

pub returns-clause-callers : goal.returns-clause-callers
returns-clause-callers c =
    let whole : take c.loop-line.line-index c.as_slice-lines.result.now ≡ c.args.conf.now.aliases =
    take_all c.loop-line.line-index c.as_slice-lines.result.now c.loop-line-test.false ∙ c.as_slice-lines.ensures in
    let like : LooksLike c.loop-line.aliases (ends_of c.args.conf.now.edges) (map (λ (a : AliasLine). (a.alias, a.original)) c.args.conf.now.aliases) =
    subst (λ lines. LooksLike c.loop-line.aliases (ends_of c.args.conf.now.edges) (map (λ (a : AliasLine). (a.alias, a.original)) lines)) whole c.loop-line.invariant in
    λ text. caller_name_of-LooksLike c.loop-line.aliases (ends_of c.args.conf.now.edges) (map (λ (a : AliasLine). (a.alias, a.original)) c.args.conf.now.aliases) text like
