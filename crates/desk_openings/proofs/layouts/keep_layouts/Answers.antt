use Rattle.std.proofs.Common.{get_or, ◌≡◌, ◌<◌, ◌∙◌, ap, length, map, arith}
use Rattle.runtime_histories.specs.declared.loads.Load.{Load}
use Rattle.runtime_histories.specs.Entries.{loaded_of}
use Rattle.code_table.specs.Layouts.{layout_of}
use Rattle.desk_openings.proofs.Keeping.{keeping_next, keeping_others, keeps_all, loaded_at, tables_at, length-loaded}
use Rattle.desk_openings.proofs.layouts.keep_layouts.Goals as goal

pub returns-in_err-keep_parts-clause-others : goal.returns-in_err-keep_parts-clause-others
returns-in_err-keep_parts-clause-others c =
    let loads = c.args.loads.now in
    let k = c.loop-place.place in
    let x : Load = get_or loads k c.index-loads-place.result in
    let x_is : x ≡ get_or loads k x = ap (λ (z : Load). get_or loads k z) c.index-loads-place.is in
    let n = length-loaded loads in
    let lt : k < length (map loaded_of loads) = (let z = c.loop-place-test.true in omega arith) in
    keeps_all c.args.layouts.now.items c.keep_parts.new.layouts.items (map loaded_of loads) _
    (keeping_others c.args.layouts.now.items c.loop-place.layouts.items c.keep_parts.new.layouts.items (map loaded_of loads) k (loaded_of x) lt (loaded_at loads k x x_is)
    c.loop-place.invariant c.keep_parts.ensures.others)

pub loop-place-preserved : goal.loop-place-preserved
loop-place-preserved c =
    let loads = c.args.loads.now in
    let k = c.loop-place.place in
    let x : Load = get_or loads k c.index-loads-place.result in
    let x_is : x ≡ get_or loads k x = ap (λ (z : Load). get_or loads k z) c.index-loads-place.is in
    let n = length-loaded loads in
    let lt : k < length (map loaded_of loads) = (let z = c.loop-place-test.true in omega arith) in
    let is = loaded_at loads k x x_is in
    keeping_next c.args.layouts.now.items c.loop-place.layouts.items c.keep_parts.new.layouts.items (map loaded_of loads) k (loaded_of x) lt is
    c.loop-place.invariant c.keep_parts.ensures.others c.requires.once
    (c.in_ok-keep_parts.ensures.own ∙ ap (map layout_of) (tables_at (map loaded_of loads) c.args.all.now k (loaded_of x) c.index-all-place.result c.requires.tables lt is c.index-all-place.is))
