use Rattle.std.proofs.Common.{sym, ◌∙◌}
use Rattle.names_alias.proofs.AliasLemmas.{with_pair-absent}
use Rattle.names_alias.proofs.aliases.Aliases.add.Goals as goal

pub returns-in_ok-insert-clause-ok : goal.returns-in_ok-insert-clause-ok
returns-in_ok-insert-clause-ok c =
    with_pair-absent c.self.inside.fixed.keys c.self.inside.originals.entries c.insert.new.self.entries c.args.self.now c.args.alias.now c.args.original.now c.self.view_is
    (sym c.contains_key.ensures ∙ c.if-not-contains_key.true) (cc (c.in_ok-insert.ensures.entries, c.copied.ensures, c.copied-then-not-contains_key.ensures))
