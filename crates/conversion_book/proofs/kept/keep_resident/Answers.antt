use Rattle.std.proofs.Common.{rules, ◌≡◌, ◌∙◌, ap, length, map, ℕ}
use Rattle.std.specs.Prelude.{nat_lt, ◌&&◌}
use Rattle.std.specs.List.{filter}
use Rattle.std.proofs.lemmas.Fn.{filter_same}
use Rattle.runtime_histories.specs.Deeds.{Deeds, marks}
use Rattle.runtime_histories.specs.Entries.{deeds}
use Rattle.runtime_histories.specs.Residence.{resident}
use Rattle.conversion_book.specs.Descriptors.{kept_as}
use Rattle.conversion_book.specs.declared.kept.Kept.{Kept}
use Rattle.conversion_book.proofs.Loading.{kept_still}
use Rattle.conversion_book.proofs.kept.keep_resident.Goals as goal

pub returns-clause-items : goal.returns-clause-items
returns-clause-items c =
    let n : ℕ = length c.args.counts.now.graph.kinds in
    let log : Deeds = deeds c.args.counts.now.journal in
    let is : c.retain.new.self.items ≡ filter (λ (k : Kept). nat_lt k.«module» n && resident (marks log) k.«module») c.args.kept.now.items =
    filter_same _ _ _ (λ x b f' k. let q : f'.0 ≡ c.args.graph = search rules in let w : f'.1 ≡ c.args.counts = search rules in (search rules, λ j. (q j, w j))) _ _ c.retain.ensures.filtered in
    ap (map kept_as) is ∙ kept_still n log c.args.kept.now.items
