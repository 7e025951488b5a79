use Rattle.std.proofs.Common.{◌≡◌, ◌≤◌, ◌+◌, ◌-◌, ℕ, List, [], ◌∷◌, ◌++◌, min, length, vec_capacity, sym, subst, ap, ◌∙◌, arith}
use Rattle.std.proofs.lemmas.Grind.{common_steps}
use Rattle.std.proofs.lemmas.List.{length-map}
use Rattle.module_graph.specs.Graph.{Shape}
use Rattle.runtime_histories.specs.declared.entries.Entry.{Entry}
use Rattle.runtime_histories.specs.Deeds.{act, live}
use Rattle.runtime_histories.specs.Entries.{deeds, deed_of}
use Rattle.module_counts.specs.Stocks.{lists}
use Rattle.module_counts.specs.Admitting.{success_of, CanTake, AreStepped}
use Rattle.module_counts.specs.Counting.{Booked, Follows, IsStock, shown}
use Rattle.runtime_histories.proofs.Legality.{deeds-snoc}
use Rattle.module_counts.proofs.Booking.{can_take, steps_taken, spare_less, spare_within}
use Rattle.module_counts.proofs.counts.Counts.admit.Goals as goal

pub take_in-requires-clause-can : goal.take_in-requires-clause-can
take_in-requires-clause-can c =
    let f : Follows _ c.args.entry (lists c.args.places.items) = subst (λ (z : Booked). Follows z c.args.entry (lists c.args.places.items)) (sym c.self.view_is) c.requires.next in
    let g : c.args.graph.now ≡ c.self.inside.graph.value = c.requires.graph ∙ ap (λ (z : Booked). z.graph) (sym c.self.view_is) in
    let js : c.as_slice.result.now ≡ c.self.inside.journal.items = c.as_slice.ensures.value in
    subst (λ (z : Shape). CanTake z c.self.inside.stock.pages (deeds c.as_slice.result.now) (success_of c.args.entry.event) (lists c.args.places.items)) (sym g)
    (subst (λ (z : List Entry). CanTake c.self.inside.graph.value c.self.inside.stock.pages (deeds z) (success_of c.args.entry.event) (lists c.args.places.items)) (sym js) (can_take _ c.args.entry (lists c.args.places.items) f))

pub take_in-requires-clause-room : goal.take_in-requires-clause-room
take_in-requires-clause-room c =
    let b = c.self.inside.journal.items in let old = c.self.inside.stock.live in
    let room : length (live (deeds b)) + 2 ≤ min (min (c.self.inside.limit - length b) (vec_capacity c.self.inside.journal - length b)) (min old.left (length old.items + 1 + old.fresh)) =
    subst (λ (z : Booked). length (live (deeds z.journal)) + 2 ≤ z.spare) (sym c.self.view_is) c.requires.room in
    let lives : length old.items ≡ length (live (deeds b)) = ap length c.self.invariant.stock.live_is ∙ length-map (live (deeds b)) shown in
    (omega arith, omega arith)

pub invariant_of-self : goal.invariant_of-self
invariant_of-self c =
    let b = c.self.inside.journal.items in let e = c.args.entry in let ps = lists c.args.places.items in let inv = c.self.invariant in
    let f : Follows _ e ps = subst (λ (z : Booked). Follows z e ps) (sym c.self.view_is) c.requires.next in
    let can = can_take _ e ps f in
    let g : c.args.graph.now ≡ c.self.inside.graph.value = c.requires.graph ∙ ap (λ (z : Booked). z.graph) (sym c.self.view_is) in
    let js : c.as_slice.result.now ≡ b = c.as_slice.ensures.value in
    let more : c.push_within.new.items.items ≡ b ++ e ∷ [] = c.push_within.ensures.items in
    let log : deeds c.as_slice.result.now ++ act e.caller (deed_of e.event) ∷ [] ≡ deeds c.push_within.new.items.items = ap (λ (z : List Entry). deeds z ++ act e.caller (deed_of e.event) ∷ []) js ∙ (sym (deeds-snoc b e) ∙ ap deeds (sym more)) in
    let stock : IsStock c.self.inside.graph.value c.take_in.new.self (deeds c.push_within.new.items.items) =
    subst (λ (z : Shape). IsStock z c.take_in.new.self (deeds c.push_within.new.items.items)) g (subst (IsStock c.args.graph.now c.take_in.new.self) log c.take_in.ensures.stock) in
    let len : length c.push_within.new.items.items ≡ length b + 1 = grind (arith, common_steps) in
    let old = c.self.inside.stock.live in let next = c.take_in.new.self.live in
    let cap = vec_capacity c.self.inside.journal in let cap' = vec_capacity c.push_within.new.items in
    let room : length (live (deeds b)) + 2 ≤ min (min (c.self.inside.limit - length b) (cap - length b)) (min old.left (length old.items + 1 + old.fresh)) =
    subst (λ (z : Booked). length (live (deeds z.journal)) + 2 ≤ z.spare) (sym c.self.view_is) c.requires.room in
    let kept = c.take_in.ensures.room in
    let less = spare_less c.self.inside.limit (length b) cap old.left (length old.items + 1 + old.fresh) cap' next.left (length next.items + 1 + next.fresh) c.push_within.ensures.room kept.0 (let k = kept.1 in omega arith) in
    let lives : length old.items ≡ length (live (deeds b)) = ap length inv.stock.live_is ∙ length-map (live (deeds b)) shown in
    let grew = c.take_in.ensures.len in
    let spare = min (min (c.self.inside.limit - (length b + 1)) (cap' - (length b + 1))) (min next.left (length next.items + 1 + next.fresh)) in
    let within : (length b + 1) + spare ≤ c.self.inside.limit = spare_within c.self.inside.limit (length b + 1) cap' next.left (length next.items + 1 + next.fresh) (omega arith) in
    let at : min (min (c.self.inside.limit - length c.push_within.new.items.items) (cap' - length c.push_within.new.items.items)) (min next.left (length next.items + 1 + next.fresh)) ≡ spare =
    ap (λ (n : ℕ). min (min (c.self.inside.limit - n) (cap' - n)) (min next.left (length next.items + 1 + next.fresh))) len in
    record {
      stock = stock;
      steps = subst (AreStepped c.self.inside.graph.value) (sym more) (steps_taken c.self.inside.graph.value c.self.inside.stock.pages b e ps inv.steps can);
      few = subst (λ (n : ℕ). length c.push_within.new.items.items + n ≤ c.self.inside.limit) (sym at) (subst (λ (n : ℕ). n + spare ≤ c.self.inside.limit) (sym len) within);
      closable = subst (λ (n : ℕ). length next.items ≤ n) (sym at) (omega arith);
      modules = c.take_in.ensures.modules ∙ inv.modules;
    }
