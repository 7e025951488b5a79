-- Which piece stands in a slot.
use Rattle.std.proofs.Common.{◌≡◌, ◌∙◌, ◌⊎◌, inl, inr, ◌≤◌, ◌<◌, ℕ, zero, suc, List, [], ◌∷◌, length, map, Option, Some, None, refl, arith}
use Rattle.std.specs.List.{AllByRecursion}
use Rattle.job_board.specs.Numbers.{weight}
use Rattle.batch_workers.specs.Teams.{filled, slot_set}
use Rattle.batch_workers.specs.declared.piece.Piece.{Piece}
use Rattle.batch_workers.proofs.Filling.{length-filled}
use Rattle.batch_workers.proofs.Counting.{same, same-cases, same-self, same-sym}

abbrev pub slot_at : List (Option Piece) → ℕ → Option Piece
slot_at [] place = None
slot_at (o ∷ os) zero = o
slot_at (o ∷ os) (suc place) = slot_at os place

abbrev pub places_in : List Piece → List ℕ
places_in ds = map (λ (d : Piece). d.place) ds

slot_at-set : (os : List (Option Piece)) (place : ℕ) (d : Piece) → place < length os → slot_at (slot_set os place d) place ≡ Some d
slot_at-set [] place d lt = absurd (omega (arith, lt))
slot_at-set (o ∷ os) zero d lt = refl
slot_at-set (o ∷ os) (suc place) d lt = slot_at-set os place d (omega (arith, lt))

slot_at-other : (os : List (Option Piece)) (p q : ℕ) (d : Piece) → same p q ≡ 0 → slot_at (slot_set os p d) q ≡ slot_at os q
slot_at-other [] p q d none = refl
slot_at-other (o ∷ os) zero zero d none = absurd (omega (arith, none))
slot_at-other (o ∷ os) zero (suc q) d none = refl
slot_at-other (o ∷ os) (suc p) zero d none = refl
slot_at-other (o ∷ os) (suc p) (suc q) d none = slot_at-other os p q d none

module _ {A : Type 0} where
  pub each-map : (P Q : A → Type 0) (xs : List A) → ((x : A) → P x → Q x) → AllByRecursion P xs → AllByRecursion Q xs
  each-map P Q [] f h = tt
  each-map P Q (x ∷ xs) f h = (f x h.0, each-map P Q xs f h.1)

  pub each-both : (P Q R : A → Type 0) (xs : List A) → ((x : A) → P x → Q x → R x) → AllByRecursion P xs → AllByRecursion Q xs → AllByRecursion R xs
  each-both P Q R [] f h k = tt
  each-both P Q R (x ∷ xs) f h k = (f x h.0 k.0, each-both P Q R xs f h.1 k.1)

-- each piece's place is among the places
weighs-in : (ds : List Piece) → AllByRecursion (λ (e : Piece). 1 ≤ weight (same e.place) (places_in ds)) ds
weighs-in [] = tt
weighs-in (d ∷ ds) = (
  (let s = same-self d.place in omega (arith, s)),
  each-map (λ (e : Piece). 1 ≤ weight (same e.place) (places_in ds)) (λ (e : Piece). 1 ≤ weight (same e.place) (places_in (d ∷ ds))) ds (λ e h. omega (arith, h)) (weighs-in ds),
)

-- where no place stands twice, each piece stands in its slot
pub pieces-stand : (os : List (Option Piece)) (ds : List Piece) → ((n : ℕ) → weight (same n) (places_in ds) ≤ 1) → AllByRecursion (λ (d : Piece). d.place < length os) ds
    → AllByRecursion (λ (d : Piece). slot_at (filled os ds) d.place ≡ Some d) ds
pieces-stand os [] once low = tt
pieces-stand os (d ∷ ds) once low =
    let long = length-filled os ds in
    let here = low.0 in (
      slot_at-set (filled os ds) d.place d (omega (arith, long, here)),
      each-both (λ (e : Piece). 1 ≤ weight (same e.place) (places_in ds)) (λ (e : Piece). slot_at (filled os ds) e.place ≡ Some e)
          (λ (e : Piece). slot_at (filled os (d ∷ ds)) e.place ≡ Some e) ds
          (λ e some is.
          let k = once e.place in
          let t = same-sym d.place e.place in
          slot_at-other (filled os ds) d.place e.place d (omega (arith, some, k, t)) ∙ is)
          (weighs-in ds) (pieces-stand os ds (λ n. let k = once n in omega (arith, k)) low.1),
    )

-- a place that is among the places is that of a piece
pub piece-found : (Q : Piece → Type 0) (n : ℕ) (ds : List Piece) → 1 ≤ weight (same n) (places_in ds) → AllByRecursion Q ds → (e : Piece) × (e.place ≡ n) × Q e
piece-found Q n [] some h = absurd (omega (arith, some))
piece-found Q n (d ∷ ds) some h = go (same-cases n d.place)
    (λ none. piece-found Q n ds (let z = none in omega (arith, some, z)) h.1)
  where
    go : (same n d.place ≡ 0) ⊎ (d.place ≡ n) → (same n d.place ≡ 0 → (e : Piece) × (e.place ≡ n) × Q e) → (e : Piece) × (e.place ≡ n) × Q e
    go (inl none) rest = rest none
    go (inr one) rest = (d, one, h.0)
