-- What is left of a range of numbers, and of points.
use Rattle.std.proofs.Common.{◌≡◌, ℕ, suc, ◌+◌, ◌-◌, ◌<◌, ◌≤◌, List, [], ◌∷◌, ◌++◌, ◌∙◌, map, ap, sym, arith, append_assoc, append-nil}
use Rattle.std.specs.List.{concat, range_with_len}
use Rattle.batch_jobs.specs.Generated.{points, point_at, next_seed}

-- The first number of a range, and the others.
pub map_range_first : {X : Type 0} (f : ℕ → X) (a b : ℕ) → a < b
    → map f (range_with_len a (b - a)) ≡ f a ∷ map f (range_with_len (a + 1) (b - (a + 1)))
map_range_first f a b lt =
    let more : b - a ≡ suc (b - (a + 1)) = omega arith in ap (λ n. map f (range_with_len a n)) more

-- At its end nothing is left.
pub map_range_none : {X : Type 0} (f : ℕ → X) (a b : ℕ) → b ≤ a → map f (range_with_len a (b - a)) ≡ []
map_range_none f a b le = let none_left : b - a ≡ 0 = omega arith in ap (λ n. map f (range_with_len a n)) none_left

-- The first of some points, and the others.
pub points_first : (seed i n : ℕ) → i < n
    → points seed (n - i) ≡ point_at (next_seed seed) ∷ points (next_seed seed) (n - (i + 1))
unfolding points
points_first seed i n lt = let more : n - i ≡ suc (n - (i + 1)) = omega arith in ap (points seed) more

-- No point is left at the end.
pub points_none : (seed i n : ℕ) → n ≤ i → points seed (n - i) ≡ []
unfolding points
points_none seed i n le = let none_left : n - i ≡ 0 = omega arith in ap (points seed) none_left

-- A whole of which a piece was done: it is what was done, the piece and the rest.
pub longer : {X : Type 0} (whole done piece new left rest : List X) → whole ≡ done ++ left → left ≡ piece ++ rest
    → new ≡ done ++ piece → whole ≡ new ++ rest
longer whole done piece new left rest is cut made =
    is ∙ ap (λ l. done ++ l) cut ∙ sym (append_assoc done piece rest) ∙ ap (λ d. d ++ rest) (sym made)

-- A whole of which nothing is left is done.
pub finished : {X : Type 0} (whole done left : List X) → whole ≡ done ++ left → left ≡ [] → done ≡ whole
finished whole done left is none_left = sym (is ∙ ap (λ l. done ++ l) none_left ∙ append-nil done)

-- The texts of the numbers of a range: that of the first, and the others.
pub texts_first : (f : ℕ → List ℕ) (a b : ℕ) → a < b
    → concat (map f (range_with_len a (b - a))) ≡ f a ++ concat (map f (range_with_len (a + 1) (b - (a + 1))))
texts_first f a b lt = ap concat (map_range_first f a b lt)

-- At its end no text is left.
pub texts_none : (f : ℕ → List ℕ) (a b : ℕ) → b ≤ a → concat (map f (range_with_len a (b - a))) ≡ []
texts_none f a b le = ap concat (map_range_none f a b le)
