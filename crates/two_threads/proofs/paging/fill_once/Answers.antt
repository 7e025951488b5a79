use Rattle.std.proofs.Common.{◌<◌, ◌∙◌, ap, sym, subst, inl, inr, length}
use Rattle.std.specs.Prelude.{slice_index}
use Rattle.code_table.specs.Images.{page_count}
use Rattle.history_core.specs.Tokens.{front, filled, words_of}
use Rattle.page_store.specs.Holdings.{AreApart, AreFilled, IsWithin, side}
use Rattle.two_threads.specs.ShelfLaws.{length-pages}
use Rattle.two_threads.specs.Shelves.{table_of}
use Rattle.two_threads.proofs.ShelfLaws.{pages_apart, page_within, none_pinned}
use Rattle.two_threads.proofs.paging.fill_once.Goals as goal

pub put_table-requires-clause-count : goal.put_table-requires-clause-count
put_table-requires-clause-count c = ap length c.requires.pages ∙ length-pages c.args.table.now

pub put_table-requires-clause-apart : goal.put_table-requires-clause-apart
put_table-requires-clause-apart c = subst AreApart (sym c.requires.pages)
    (pages_apart c.args.table.now)

pub put_table-requires-clause-inside : goal.put_table-requires-clause-inside
put_table-requires-clause-inside c k few = let t = c.args.table.now in
    subst (λ ps. IsWithin (words_of c.args.turn.now.hall.now) (slice_index ps k))
    (sym c.requires.pages)
    (page_within t (words_of c.args.turn.now.hall.now) k c.requires.hall.room
    (subst (λ ps. k < length ps) c.requires.pages few))

pub put_table-requires-clause-free : goal.put_table-requires-clause-free
put_table-requires-clause-free c k place few small n =
    none_pinned (table_of c.args.turn.now.hall.now) (front c.args.turn.now.pass.now) n
    (side c.args.pages.now k place) (sym c.requires.shelf
    ∙ (ap (λ s. s.filled) (sym c.value.ensures.now) ∙ c.if-not-was.true))

pub returns-then-not-was-clause-there : goal.returns-then-not-was-clause-there
returns-then-not-was-clause-there c = inr
    (subst (λ ps. AreFilled c.args.table.now ps (page_count c.args.table.now)
    (filled c.put_table.new.turn.pass.now)) c.requires.pages c.put_table.ensures.filled)

pub returns-else-not-was-clause-there : goal.returns-else-not-was-clause-there
returns-else-not-was-clause-there c = inl
    (sym c.requires.shelf ∙ (ap (λ s. s.filled) (sym c.value.ensures.now) ∙ c.if-not-was.false))
