use Rattle.std.proofs.Common.{◌≡◌, ◌<◌, ◌≤◌, ◌∙◌, ℕ, Bool, true, false, eqb, ◌&&◌, List, [], ◌∷◌, length, take, refl, ap, arith}
use Rattle.std.specs.Cmp.Lexicographic.{pointwise}
use Rattle.std.proofs.lemmas.Bool.{le-ltb}
use Rattle.trie.specs.Fronts.{is_proper_prefix}
use Rattle.trie.proofs.overlap.is_proper_prefix.Goals as goal

-- A longer string goes on from one exactly where it begins with it.
longer : (xs ys : List ℕ) → length xs < length ys →
    pointwise eqb xs (take (length xs) ys) ≡ is_proper_prefix xs ys
longer [] [] lt = absurd (omega arith)
longer [] (y ∷ ys) lt = refl
longer (x ∷ xs) [] lt = absurd (omega arith)
longer (x ∷ xs) (y ∷ ys) lt = ap (λ b. eqb x y && b) (longer xs ys (omega arith))

-- No string goes on from one that is as long.
no_longer : (xs ys : List ℕ) → length ys ≤ length xs → false ≡ is_proper_prefix xs ys
no_longer [] [] le = refl
no_longer [] (y ∷ ys) le = absurd (omega arith)
no_longer (x ∷ xs) [] le = refl
no_longer (x ∷ xs) (y ∷ ys) le = and_false (eqb x y) ∙ ap (λ b. eqb x y && b) (no_longer xs ys (omega arith))
  where
    and_false : (b : Bool) → false ≡ (b && false)
    and_false true = refl
    and_false false = refl

pub returns-then-first-second : goal.returns-then-first-second
returns-then-first-second c = c.starts_with.ensures.value
    ∙ longer c.args.first.now c.args.second.now c.if-first-second.true

pub returns-else-first-second : goal.returns-else-first-second
returns-else-first-second c =
    le-ltb (length c.args.first.now) (length c.args.second.now) c.if-first-second.false
    ∙ no_longer c.args.first.now c.args.second.now c.if-first-second.false
