use Rattle.std.proofs.Common.{subst, sym, ap, ◌∙◌, take, drop, ℕ, List}
use Rattle.history_core.specs.Tokens.{filled}
use Rattle.module_counts.specs.Stocks.{Once}
use Rattle.runtime_room.specs.Puts.{IsPut, KeepsElse}
use Rattle.runtime_room.proofs.Putting.{once_apart, once_cut, keeps}
use Rattle.runtime_room.proofs.filling.put_next.Goals as goal

pub put_table-requires-clause-apart : goal.put_table-requires-clause-apart
put_table-requires-clause-apart g c = once_apart c.split_at.result.0.now
    (subst Once (sym c.split_at.ensures.front) (once_cut c.pages.result c.args.pages.now c.requires.free.once).0)

pub returns-clause-put : goal.returns-clause-put
returns-clause-put g c =
    subst (λ (p : List ℕ). IsPut (filled c.put_table.new.turn.pass.now) (record { table = c.args.table.now; pages = p }))
    (c.split_at.ensures.front ∙ ap (λ (n : ℕ). take n c.args.pages.now) c.pages.ensures) c.put_table.ensures.filled

pub returns-clause-others : goal.returns-clause-others
returns-clause-others g c =
    subst (λ (p : List ℕ). KeepsElse p (filled c.args.turn.now.pass.now) (filled c.put_table.new.turn.pass.now))
    (c.split_at.ensures.front ∙ ap (λ (n : ℕ). take n c.args.pages.now) c.pages.ensures)
    (keeps c.split_at.result.0.now (filled c.args.turn.now.pass.now) (filled c.put_table.new.turn.pass.now) c.put_table.ensures.others)

pub returns-clause-rest : goal.returns-clause-rest
returns-clause-rest g c = c.split_at.ensures.back ∙ ap (λ (n : ℕ). drop n c.args.pages.now) c.pages.ensures
