-- Pieces in their slots.
use Rattle.std.proofs.Common.{◌≡◌, ◌∙◌, ◌≤◌, ◌<◌, ℕ, zero, suc, List, [], ◌∷◌, ◌++◌, length, Option, Some, slice_set, ap, sym, refl, arith}
use Rattle.batch_workers.specs.Teams.{filled, slot_set}
use Rattle.batch_workers.specs.declared.piece.Piece.{Piece}

pub slot_set-set : (slots : List (Option Piece)) (place : ℕ) (d : Piece) → place < length slots → slot_set slots place d ≡ slice_set slots place (Some d)
slot_set-set [] place d lt = absurd (omega (arith, lt))
slot_set-set (o ∷ os) zero d lt = refl
slot_set-set (o ∷ os) (suc place) d lt = ap (λ xs. o ∷ xs) (slot_set-set os place d (omega (arith, lt)))

pub slot_set-out : (slots : List (Option Piece)) (place : ℕ) (d : Piece) → length slots ≤ place → slot_set slots place d ≡ slots
slot_set-out [] place d le = refl
slot_set-out (o ∷ os) zero d le = absurd (omega (arith, le))
slot_set-out (o ∷ os) (suc place) d le = ap (λ xs. o ∷ xs) (slot_set-out os place d (omega (arith, le)))

pub filled-append : (slots : List (Option Piece)) (xs ys : List Piece) → filled (filled slots ys) xs ≡ filled slots (xs ++ ys)
filled-append slots [] ys = refl
filled-append slots (x ∷ xs) ys = ap (λ os. slot_set os x.place x) (filled-append slots xs ys)

-- the last piece first
pub filled-last : (slots next : List (Option Piece)) (all rest : List Piece) (d : Piece) → all ≡ rest ++ d ∷ [] → next ≡ slot_set slots d.place d
    → filled next rest ≡ filled slots all
filled-last slots next all rest d is set =
    ap (λ os. filled os rest) set ∙ filled-append slots rest (d ∷ []) ∙ ap (filled slots) (sym is)

pub length-slot_set : (slots : List (Option Piece)) (place : ℕ) (d : Piece) → length (slot_set slots place d) ≡ length slots
length-slot_set [] place d = refl
length-slot_set (o ∷ os) zero d = refl
length-slot_set (o ∷ os) (suc place) d = let i = length-slot_set os place d in omega (arith, i)

pub length-filled : (slots : List (Option Piece)) (ds : List Piece) → length (filled slots ds) ≡ length slots
length-filled slots [] = refl
length-filled slots (d ∷ ds) = length-slot_set (filled slots ds) d.place d ∙ length-filled slots ds
