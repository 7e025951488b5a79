use Rattle.std.proofs.Common.{map, ◌∙◌, sym, ap, subst, refl, length, List, ℕ}
use Rattle.std.specs.List.{AllByRecursion}
use Rattle.std.specs.declared.vec.Vec.{Vec}
use Rattle.std.specs.declared.alloc.Global.{Global}
use Rattle.code_pairs.specs.Tables.{HasPoints}
use Rattle.code_table.specs.declared.layout.Layout.{Layout}
use Rattle.module_counts.specs.Stocks.{lists}
use Rattle.runtime_histories.specs.declared.loads.Load.{Load}
use Rattle.runtime_histories.specs.Entries.{deeds, loaded_of}
use Rattle.runtime_histories.specs.Legal.{loaded_modules}
use Rattle.runtime_histories.specs.Places.{places}
use Rattle.runtime_room.specs.Desks.{layouts_at}
use Rattle.desk_openings.specs.Layouts.{AreKept, KeepsLayouts}
use Rattle.desk_openings.specs.Parts.{parts_for}
use Rattle.desk_openings.specs.Pinning.{CanPin, pins_for, chosen_pages}
use Rattle.desk_openings.specs.Preparing.{all_places, loads_of}
use Rattle.desk_openings.proofs.Pinned.{all_pinned, can_pins, pinned_pins, pins_are, same_lengths, length-lists}
use Rattle.desk_openings.proofs.preparing.prepare.Goals as goal

pub chain_pins-requires-clause-same : goal.chain_pins-requires-clause-same
chain_pins-requires-clause-same g c = let k = c.requires.can in
    ap length c.as_slice-5.ensures.value
    ∙ (same_lengths c.args.desk.now.counts.pages (places c.args.desk.now.counts.pages (deeds c.args.desk.now.counts.journal)) c.args.begun.opening.loads.items c.args.begun.opening.places.items k.placed
    ∙ ap length (sym c.as_slice-4.ensures.value))

pub chain_pins-requires-clause-can : goal.chain_pins-requires-clause-can
chain_pins-requires-clause-can g c =
    let k = c.requires.can in
    let o = c.args.begun.opening in
    let b = c.args.desk.now.counts in
    let new = c.keep_layouts.new.layouts.items in
    let held = places b.pages (deeds b.journal) in
    let same = same_lengths b.pages held o.loads.items o.places.items k.placed in
    let kept : AreKept new (loads_of o) = subst (λ (z : List Load). AreKept new (map loaded_of z)) c.as_slice-loads.ensures.value c.in_ok-keep_layouts.ensures.kept in
    let pinned = all_pinned b.pages held o.loads.items (lists o.places.items) c.args.desk.now.layouts.items new k.placed k.absent k.fits k.laid kept
    (subst (λ (z : List Load). KeepsLayouts c.args.desk.now.layouts.items new (loaded_modules (map loaded_of z))) c.as_slice-loads.ensures.value c.keep_layouts.ensures.others)
    o.modules k.there in
    let can = can_pins new b o.loads.items (lists o.places.items) (all_places b.pages b.journal o) o.modules
    (length-lists o.places.items ∙ same) k.resident pinned in
    subst (λ (ls : List (Vec Layout Global)). AllByRecursion (CanPin ls b c.as_slice-4.result.now (lists c.as_slice-5.result.now)) c.as_slice-6.result.now) (sym c.as_slice-3.ensures.value)
    (subst (λ (lo : List Load). AllByRecursion (CanPin new b lo (lists c.as_slice-5.result.now)) c.as_slice-6.result.now) (sym c.as_slice-4.ensures.value)
    (subst (λ (ps : List (Vec ℕ Global)). AllByRecursion (CanPin new b o.loads.items (lists ps)) c.as_slice-6.result.now) (sym c.as_slice-5.ensures.value)
    (subst (λ (ms : List ℕ). AllByRecursion (CanPin new b o.loads.items (lists o.places.items)) ms) (sym c.as_slice-6.ensures) can)))

pub returns-clause-ok : goal.returns-clause-ok
returns-clause-ok g c =
    let k = c.requires.can in
    let o = c.args.begun.opening in
    let b = c.args.desk.now.counts in
    let new = c.keep_layouts.new.layouts.items in
    let held = places b.pages (deeds b.journal) in
    let kept : AreKept new (loads_of o) = subst (λ (z : List Load). AreKept new (map loaded_of z)) c.as_slice-loads.ensures.value c.in_ok-keep_layouts.ensures.kept in
    let pinned = all_pinned b.pages held o.loads.items (lists o.places.items) c.args.desk.now.layouts.items new k.placed k.absent k.fits k.laid kept
    (subst (λ (z : List Load). KeepsLayouts c.args.desk.now.layouts.items new (loaded_modules (map loaded_of z))) c.as_slice-loads.ensures.value c.keep_layouts.ensures.others)
    o.modules k.there in
    record {
      from = refl;
      to = refl;
      opening = refl;
      pins = pins_are (parts_for (all_places b.pages b.journal o) o.modules) c.in_ok-pins.pins.items
          (c.in_ok-pins.ensures
          ∙ ((λ i. pins_for (layouts_at (c.as_slice-3.ensures.value i)) (chosen_pages b (c.as_slice-4.ensures.value i) (lists (c.as_slice-5.ensures.value i))) (c.as_slice-6.ensures i))
          ∙ pinned_pins new (chosen_pages b o.loads.items (lists o.places.items)) (all_places b.pages b.journal o) o.modules pinned));
      recipe = c.in_ok-recipe.ensures;
      kept = kept;
      points = subst (AllByRecursion (AllByRecursion HasPoints)) c.as_slice.ensures.value c.see_points.ensures;
      published = c.in_ok-publish.ensures;
    }
