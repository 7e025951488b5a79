use Rattle.std.proofs.Common.{◌≡◌, ◌+◌, ◌<◌, ◌++◌, ◌∷◌, [], List, length, map, drop, ap, sym, ◌∙◌, arith, append_assoc}
use Rattle.std.proofs.lemmas.Grind.{common_steps}
use Rattle.std.proofs.lemmas.List.{drop_more}
use Rattle.code_pairs.specs.Tables.{Table}
use Rattle.code_table.specs.declared.layout.Layout.{Layout}
use Rattle.code_table.specs.Layouts.{layout_of}
use Rattle.desk_openings.proofs.layouts.all_parts.Goals as goal

pub loop-table-preserved : goal.loop-table-preserved
loop-table-preserved c =
    let i = c.loop-table.table-index in
    let ts = c.args.tables.now in
    let lt : i < length ts = omega arith in
    let made : c.push.new.self.items ≡ c.loop-table.list.items ++ c.layout.result ∷ [] = grind (arith, common_steps) in
    let rest : List Layout = map layout_of (drop (i + 1) ts) in
    record {
      made = ap (λ (z : List Layout). z ++ rest) made
          ∙ (append_assoc c.loop-table.list.items (c.layout.result ∷ []) rest
          ∙ (ap (λ (z : Layout). c.loop-table.list.items ++ z ∷ rest) (c.layout.ensures ∙ ap layout_of c.table-item.is)
          ∙ (ap (λ (z : List Table). c.loop-table.list.items ++ map layout_of z) (sym (drop_more ts i c.table-item.result lt)) ∙ c.loop-table.invariant.made)));
    }
