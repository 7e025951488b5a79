use Rattle.std.proofs.Common.{◌≡◌, [], ℕ, List, Bool, false, length, take, replicate, get_or, Result, IfOk, sym, ap, ◌∙◌, subst, arith}
use Rattle.std.proofs.lemmas.Grind.{common_steps}
use Rattle.std.specs.declared.vec.Vec.{Vec}
use Rattle.std.specs.declared.alloc.Global.{Global}
use Rattle.std.specs.declared.alloc.AllocError.{AllocError}
use Rattle.runtime_histories.specs.Places.{lowest}
use Rattle.module_counts.specs.Stocks.{IsMap, seat_pages, kept_seats, unset}
use Rattle.module_counts.proofs.Storing.{unset-free}
use Rattle.module_counts.proofs.store.lowest_free.Goals as goal

cleared : (n k : ℕ) → get_or (replicate n false) k false ≡ false
cleared n k = grind (arith, common_steps)

no_map : (bits : List Bool) (n : ℕ) → bits ≡ replicate n false → IsMap bits []
no_map bits n e = λ k lt. ap (λ (z : List Bool). get_or z k false) e ∙ cleared n k

along : (r : Result (Vec ℕ Global) AllocError) (xs ys : List ℕ) → xs ≡ ys → IfOk r (λ v. v.items ≡ xs) → IfOk r (λ v. v.items ≡ ys)
along r xs ys e h = subst (λ (z : List ℕ). IfOk r (λ v. v.items ≡ z)) e h

pub returns : goal.returns
returns c =
    let all = seat_pages (kept_seats c.args.ages.now c.args.homes.now) in
    let first : IsMap c.as_mut_slice.result.now [] = no_map c.as_mut_slice.result.now c.args.pages (c.as_mut_slice.ensures.value ∙ c.in_ok-bits.ensures) in
    let set : IsMap c.set_all.new.bits all = c.set_all.ensures.map [] first in
    let same : c.as_slice.result.now ≡ c.set_all.new.bits = grind (arith, common_steps) in
    let bits : IsMap c.as_slice.result.now all = subst (λ (z : List Bool). IsMap z all) (sym same) set in
    let len : length c.as_slice.result.now ≡ c.args.pages = grind (arith, common_steps) in
    along c.lowest_unset.result (take c.args.need (unset c.as_slice.result.now c.args.pages)) (lowest c.args.pages all c.args.need)
    (ap (take c.args.need) (unset-free c.as_slice.result.now c.args.pages all len bits)) c.lowest_unset.ensures
