-- What stands on a board, and what was drawn from it.
use Rattle.std.proofs.Common.{◌≡◌, ◌∙◌, ◌≤◌, ◌<◌, ◌+◌, ℕ, zero, suc, Bool, true, false, ◌||◌, List, [], ◌∷◌, ◌++◌, length, map, take, slice_index_or, None, ap, sym, refl, arith, add-one}
use Rattle.std.proofs.lemmas.List.{map-append, length-map}
use Rattle.job_board.specs.Numbers.{weight}
use Rattle.job_board.specs.Drawers.{Leaves, drawn_by, is_drained, numbers_of}
use Rattle.job_board.specs.declared.board.Drawer.{Drawer}
use Rattle.batch_runs.specs.Takings.{Taking, Got, Missed}
use Rattle.batch_alone.specs.declared.inputs.Input.{Input}
use Rattle.batch_alone.specs.Readings.{taking_of}
use Rattle.batch_alone.proofs.Snoc.{take_next}
use Rattle.batch_workers.specs.Toils.{taken_places}
use Rattle.batch_workers.specs.Stints.{Stint}
use Rattle.batch_workers.specs.Teams.{Draws, HasJoined, drawn_in, no_pieces}
use Rattle.batch_workers.proofs.Ending.{weight-append}

-- the place of an input behind so many others, where it was taken
abbrev taken_one : ℕ → Taking → List ℕ
taken_one n (Got x) = n ∷ []
taken_one n (Missed miss) = []

one-suc : (n : ℕ) (t : Taking) → map suc (taken_one n t) ≡ taken_one (suc n) t
one-suc n (Got x) = refl
one-suc n (Missed miss) = refl

taken-snoc : (ts : List Taking) (t : Taking) → taken_places (ts ++ t ∷ []) ≡ taken_places ts ++ taken_one (length ts) t
taken-snoc [] (Got x) = refl
taken-snoc [] (Missed miss) = refl
taken-snoc (Got y ∷ ts) t =
    ap (λ ps. zero ∷ map suc ps) (taken-snoc ts t) ∙ ap (λ ps. zero ∷ ps) (map-append suc (taken_places ts) (taken_one (length ts) t) ∙ ap (λ ps. map suc (taken_places ts) ++ ps) (one-suc (length ts) t))
taken-snoc (Missed miss ∷ ts) t =
    ap (map suc) (taken-snoc ts t) ∙ map-append suc (taken_places ts) (taken_one (length ts) t) ∙ ap (λ ps. map suc (taken_places ts) ++ ps) (one-suc (length ts) t)

length-front : {A : Type 0} (i : ℕ) (xs : List A) → i ≤ length xs → length (take i xs) ≡ i
length-front zero xs le = refl
length-front (suc i) [] le = absurd (omega (arith, le))
length-front (suc i) (x ∷ xs) le = let k = length-front i xs (omega (arith, le)) in omega (arith, k)

taken-next : (inputs : List Input) (i : ℕ) (t : Input) → i < length inputs → t ≡ slice_index_or inputs i t
    → taken_places (map taking_of (take (i + 1) inputs)) ≡ taken_places (map taking_of (take i inputs)) ++ taken_one i (taking_of t)
taken-next inputs i t lt is =
    let long : length (map taking_of (take i inputs)) ≡ i = length-map (take i inputs) taking_of ∙ length-front i inputs (omega (arith, lt)) in
    ap (λ xs. taken_places (map taking_of xs)) (take_next inputs i t lt is) ∙ ap taken_places (map-append taking_of (take i inputs) (t ∷ []))
    ∙ taken-snoc (map taking_of (take i inputs)) (taking_of t) ∙ ap (λ n. taken_places (map taking_of (take i inputs)) ++ taken_one n (taking_of t)) long

-- one input more, by what was taken
pub places-next : (inputs : List Input) (i : ℕ) (t : Input) (u : Taking) (ps more : List ℕ) → i < length inputs → t ≡ slice_index_or inputs i t → taking_of t ≡ u
    → ps ≡ taken_places (map taking_of (take i inputs)) → more ≡ ps ++ taken_one i u → more ≡ taken_places (map taking_of (take (i + 1) inputs))
places-next inputs i t u ps more lt is kind before after =
    after ∙ ap (λ qs. qs ++ taken_one i u) before ∙ ap (λ v. taken_places (map taking_of (take i inputs)) ++ taken_one i v) (sym kind) ∙ sym (taken-next inputs i t lt is)

pub none-next : (n : ℕ) → no_pieces n ++ None ∷ [] ≡ no_pieces (n + 1)
none-next n = go n ∙ ap no_pieces (sym (add-one n))
  where
    go : (k : ℕ) → no_pieces k ++ None ∷ [] ≡ no_pieces (suc k)
    go zero = refl
    go (suc k) = ap (λ os. None ∷ os) (go k)

pub taken-few : (ts : List Taking) → length (taken_places ts) ≤ length ts
taken-few [] = omega arith
taken-few (Got x ∷ ts) = let i = taken-few ts in let m = length-map (taken_places ts) suc in omega (arith, i, m)
taken-few (Missed miss ∷ ts) = let i = taken-few ts in let m = length-map (taken_places ts) suc in omega (arith, i, m)

no-items : (xs : List ℕ) → length xs ≡ 0 → xs ≡ []
no-items [] h = refl
no-items (x ∷ xs) h = absurd (omega (arith, h))

or-true : (a b : Bool) → b ≡ true → a || b ≡ true
or-true true b h = refl
or-true false b h = h

-- what workers drew, once their drawers were joined and the board was ended
pub draws-of : (old new : Drawer) (ds : List Stint) (drained : Bool) (left : ℕ) → drawn_by old ≡ [] → HasJoined old new ds
    → is_drained new ≡ is_drained old || drained → Leaves (numbers_of new) (drawn_by new) left → (is_drained new ≡ true → left ≡ 0)
    → Draws (numbers_of old) ds drained
draws-of old new ds drained left none joined both leaves dry =
    let sum : (of : ℕ → ℕ) → weight of (numbers_of old) ≡ weight of (drawn_in ds) + weight of leaves.left =
    (λ of.
    let a = ap (weight of) joined.numbers in
    let b = leaves.same of in
    let c = weight-append of (drawn_by new) leaves.left in
    let d = joined.drawn of in
    let e = ap (λ xs. weight of (xs ++ drawn_in ds)) none in
    omega (arith, a, b, c, d, e)) in
    record {
      some = λ of. let k = sum of in omega (arith, k);
      all = λ is of.
          let zero_left = dry (both ∙ or-true (is_drained old) drained is) in
          let empty = no-items leaves.left (leaves.many ∙ zero_left) in
          let k = sum of in
          let n = ap (weight of) empty in
          omega (arith, k, n);
    }
