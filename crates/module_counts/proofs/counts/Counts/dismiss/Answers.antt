use Rattle.std.proofs.Common.{◌≡◌, ◌≤◌, ◌+◌, ◌-◌, ℕ, List, [], ◌∷◌, ◌++◌, min, length, map, vec_capacity, sym, subst, ap, ◌∙◌, arith}
use Rattle.std.proofs.lemmas.Grind.{common_steps}
use Rattle.module_graph.specs.Graph.{Shape}
use Rattle.runtime_histories.specs.declared.entries.Entry.{Entry}
use Rattle.runtime_histories.specs.declared.entries.Event.TheVariants.{Closing}
use Rattle.runtime_histories.specs.Deeds.{act, closes, live, IsLive}
use Rattle.runtime_histories.specs.Entries.{deeds}
use Rattle.module_counts.specs.Admitting.{AreStepped}
use Rattle.module_counts.specs.Counting.{Booked, IsStock, shown}
use Rattle.runtime_histories.proofs.Legality.{deeds-snoc}
use Rattle.module_counts.proofs.Entering.{one_less}
use Rattle.module_counts.proofs.Booking.{steps_closed, spare_less, spare_within}
use Rattle.module_counts.proofs.counts.Counts.dismiss.Goals as goal

pub let_go-requires-clause-room : goal.let_go-requires-clause-room
let_go-requires-clause-room c =
    let b = c.self.inside.journal.items in let old = c.self.inside.stock.live in let inv = c.self.invariant in
    let a = one_less (deeds b) c.args.caller c.args.number (subst (λ (z : Booked). IsLive (deeds z.journal) c.args.caller c.args.number) (sym c.self.view_is) c.requires.live) in
    let d : length old.items ≡ length (map shown (live (deeds b))) = ap length inv.stock.live_is in
    let closable : length old.items ≤ min (min (c.self.inside.limit - length b) (vec_capacity c.self.inside.journal - length b)) (min old.left (length old.items + 1 + old.fresh)) = inv.closable in
    omega arith

pub invariant_of-self : goal.invariant_of-self
invariant_of-self c =
    let b = c.self.inside.journal.items in let e : Entry = record { caller = c.args.caller; event = Closing c.args.number } in let inv = c.self.invariant in
    let g : c.args.graph.now ≡ c.self.inside.graph.value = c.requires.graph ∙ ap (λ (z : Booked). z.graph) (sym c.self.view_is) in
    let js : c.as_slice.result.now ≡ b = c.as_slice.ensures.value in
    let more : c.push_within.new.items.items ≡ b ++ e ∷ [] = c.push_within.ensures.items in
    let log : deeds c.as_slice.result.now ++ act c.args.caller (closes c.args.number) ∷ [] ≡ deeds c.push_within.new.items.items = ap (λ (z : List Entry). deeds z ++ act c.args.caller (closes c.args.number) ∷ []) js ∙ (sym (deeds-snoc b e) ∙ ap deeds (sym more)) in
    let stock : IsStock c.self.inside.graph.value c.let_go.new.self (deeds c.push_within.new.items.items) =
    subst (λ (z : Shape). IsStock z c.let_go.new.self (deeds c.push_within.new.items.items)) g (subst (IsStock c.args.graph.now c.let_go.new.self) log c.let_go.ensures.stock) in
    let len : length c.push_within.new.items.items ≡ length b + 1 = grind (arith, common_steps) in
    let old = c.self.inside.stock.live in let next = c.let_go.new.self.live in
    let cap = vec_capacity c.self.inside.journal in let cap' = vec_capacity c.push_within.new.items in
    let kept = c.let_go.ensures.room in
    let shrank = c.let_go.ensures.len in
    let closable : length old.items ≤ min (min (c.self.inside.limit - length b) (cap - length b)) (min old.left (length old.items + 1 + old.fresh)) = inv.closable in let few = inv.few in
    let less = spare_less c.self.inside.limit (length b) cap old.left (length old.items + 1 + old.fresh) cap' next.left (length next.items + 1 + next.fresh) c.push_within.ensures.room kept.0 (let k = kept.1 in omega arith) in
    let spare = min (min (c.self.inside.limit - (length b + 1)) (cap' - (length b + 1))) (min next.left (length next.items + 1 + next.fresh)) in
    let within : (length b + 1) + spare ≤ c.self.inside.limit = spare_within c.self.inside.limit (length b + 1) cap' next.left (length next.items + 1 + next.fresh) (omega arith) in
    let at : min (min (c.self.inside.limit - length c.push_within.new.items.items) (cap' - length c.push_within.new.items.items)) (min next.left (length next.items + 1 + next.fresh)) ≡ spare =
    ap (λ (n : ℕ). min (min (c.self.inside.limit - n) (cap' - n)) (min next.left (length next.items + 1 + next.fresh))) len in
    record {
      stock = stock;
      steps = subst (AreStepped c.self.inside.graph.value) (sym more) (steps_closed c.self.inside.graph.value b c.args.caller c.args.number inv.steps);
      few = subst (λ (n : ℕ). length c.push_within.new.items.items + n ≤ c.self.inside.limit) (sym at) (subst (λ (n : ℕ). n + spare ≤ c.self.inside.limit) (sym len) within);
      closable = subst (λ (n : ℕ). length next.items ≤ n) (sym at) (omega arith);
      modules = c.let_go.ensures.modules ∙ inv.modules;
    }
