use Rattle.std.proofs.Common.{◌≡◌, ℕ, Bool, List, refl, arith, Some}
use Rattle.std.specs.Ordering.{nat_cmp, is_le, is_some_and}
use Rattle.std.specs.Cmp.Lexicographic.{slice_partial_cmp}
use Rattle.std.proofs.lemmas.Bool.Decides.{nat_tests}
use Rattle.std.proofs.lemmas.Cmp.{same_from_slice_cmp_tested}
use Rattle.trie.specs.Overlaps.{at_most}
use Rattle.trie.proofs.overlap.is_at_most.Goals as goal

tested : (xs ys : List ℕ) (r : Bool) →
    r ≡ is_some_and is_le (slice_partial_cmp (λ x y. Some (nat_cmp x y)) xs ys) → r ≡ at_most xs ys
tested = same_from_slice_cmp_tested nat_cmp is_le at_most refl (λ _ _. refl) (λ _ _. refl)
    (λ x y xs ys o h. grind (arith, nat_tests))

pub returns : goal.returns
returns c = tested c.args.first.now c.args.second.now c.le.result c.le.ensures
