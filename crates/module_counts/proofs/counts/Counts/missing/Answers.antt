use Rattle.std.proofs.Common.{◌≡◌, ◌∙◌, [], eqb, not, ℕ, List, Result, IfOk, sym, ap, subst}
use Rattle.std.specs.List.{filter}
use Rattle.std.specs.declared.vec.Vec.{Vec}
use Rattle.std.specs.declared.alloc.Global.{Global}
use Rattle.std.specs.declared.alloc.AllocError.{AllocError}
use Rattle.module_graph.specs.Graph.{Shape}
use Rattle.module_graph.specs.Numbers.{with_new}
use Rattle.runtime_histories.specs.Entries.{deeds}
use Rattle.runtime_histories.specs.Settings.{modules_of}
use Rattle.runtime_histories.specs.Legal.{absent_among}
use Rattle.module_counts.specs.Tracking.{is_kept}
use Rattle.module_counts.specs.Counting.{Booked}
use Rattle.module_counts.proofs.Asking.{absent_is}
use Rattle.module_counts.proofs.counts.Counts.missing.Goals as goal

along : (r : Result (Vec ℕ Global) AllocError) (xs ys : List ℕ) → xs ≡ ys → IfOk r (λ v. v.items ≡ xs) → IfOk r (λ v. v.items ≡ ys)
along r xs ys e h = subst (λ (z : List ℕ). IfOk r (λ v. v.items ≡ z)) e h

pub returns : goal.returns
returns c =
    let os = c.args.chain.now.ordinals in let b = c.self.inside.journal.items in
    let g : c.args.graph.now ≡ c.self.inside.graph.value = c.requires.graph ∙ ap (λ (z : Booked). z.graph) (sym c.self.view_is) in
    let is = absent_is c.self.inside.graph.value c.self.inside.stock (deeds b) c.self.invariant.stock os in
    let all : with_new (λ m k. eqb m k) [] (filter (λ m. not (is_kept c.self.inside.stock.ages m)) (modules_of c.args.graph.now.edges c.as_slice.result.now)) ≡ absent_among (deeds c.args.self.now.journal) (modules_of c.args.graph.now.edges os) =
    ap (λ (z : List ℕ). with_new (λ m k. eqb m k) [] (filter (λ m. not (is_kept c.self.inside.stock.ages m)) (modules_of c.args.graph.now.edges z))) c.as_slice.ensures
    ∙ (ap (λ (z : Shape). with_new (λ m k. eqb m k) [] (filter (λ m. not (is_kept c.self.inside.stock.ages m)) (modules_of z.edges os))) g
    ∙ (is ∙ (ap (λ (z : Booked). absent_among (deeds z.journal) (modules_of c.self.inside.graph.value.edges os)) c.self.view_is ∙ ap (λ (z : Shape). absent_among (deeds c.args.self.now.journal) (modules_of z.edges os)) (sym g)))) in
    along c.missing_of.result _ _ all c.missing_of.ensures
