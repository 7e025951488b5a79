use Rattle.std.proofs.Common.{rules, ◌∙◌, ap, sym, subst}
use Rattle.code_pairs.specs.Tables.{Table}
use Rattle.history_core.specs.History.{History}
use Rattle.history_core.specs.Tokens.{number, front, filled}
use Rattle.two_threads.specs.Shelves.{table_of, IsThere}
use Rattle.two_threads.specs.declared.shelf.Taken.{Taken}
use Rattle.two_threads.proofs.ShelfLaws.{covered, some_taken, taken_after}
use Rattle.two_threads.proofs.paging.take.Goals as goal

pub commit-requires-clause-stands : goal.commit-requires-clause-stands
commit-requires-clause-stands g c =
    let now = c.fill_once.new.turn.pass.now in
    sym (some_taken (front now) (number now, record {}))

pub commit-requires-clause-covered : goal.commit-requires-clause-covered
commit-requires-clause-covered g c =
    let now = c.fill_once.new.turn.pass.now in
    let f = c.fill_once.ensures in
    let q = ap (λ h. table_of h.now) f.same.1
    ∙ (ap table_of c.turn-turn.ensures.same.1 ∙ c.requires.hall.same) in
    covered (table_of c.fill_once.new.turn.hall.now) (front now) (number now) (record {})
    (filled now)
    (subst (λ (x : Table × History Taken). IsThere x.0 x.1 (filled now))
    (λ i. (sym q i, sym f.pass.1 i)) f.there)

pub returns-clause-taken : goal.returns-clause-taken
returns-clause-taken g c = let now = c.fill_once.new.turn.pass.now in
    let ready = taken_after (number now) (front now) (record {}) in search (rules, ready)
