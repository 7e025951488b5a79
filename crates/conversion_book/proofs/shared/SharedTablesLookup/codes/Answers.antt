use Rattle.std.proofs.Common.{◌≡◌, ◌∙◌, ◌<◌, ℕ, length, get_or, sym, ap, subst, arith, rules}
use Rattle.std.proofs.lemmas.List.{length-map}
use Rattle.std.specs.Arc.{arc_value}
use Rattle.code_pairs.specs.Tables.{Table, Tables, table_at}
use Rattle.code_table.specs.Eights.{GivesCodes}
use Rattle.conversion_book.proofs.Sharing.{shared_at}
use Rattle.conversion_book.proofs.shared.SharedTablesLookup.codes.Goals as goal

pub returns-clause-codes : goal.returns-clause-codes
returns-clause-codes c =
    let k : ℕ = c.args.table in
    let xs = c.self.inside.list.items in
    let same : length xs ≡ length c.args.self.now = sym (length-map xs arc_value) ∙ ap (λ (z : Tables). length z) c.self.view_is in
    let within : k < length xs = (let w = c.requires.within in omega (arith, same, w)) in
    let at : get_or xs k c.index.result.now ≡ c.index.result.now = search rules in
    let is : table_at c.args.self.now k ≡ c.deref.result.now = ap (λ (z : Tables). table_at z k) (sym c.self.view_is) ∙ (shared_at xs k c.index.result.now within ∙ (ap arc_value at ∙ sym c.deref.ensures)) in
    subst (λ (t : Table). GivesCodes t c.args.points.now c.codes.result) (sym is) c.codes.ensures
