-- The first line of a text.
use Rattle.std.proofs.Common.{◌≡◌, ℕ, suc, ◌+◌, ◌<◌, ◌≤◌, cond, Bool, true, false, eqb, List, [], ◌∷◌, length, take, drop, refl, ap, ◌∙◌, get_or, arith}
use Rattle.std.specs.List.{slice_split, onto_first, position_or_len}
use Rattle.std.proofs.lemmas.List.{get_or_default}
use Rattle.std.proofs.lemmas.List.Splits.{slice_split_none, slice_split_first, length-slice_split}
use Rattle.std.proofs.lemmas.List.Sums.{position_or_len_is}
use Rattle.std.proofs.lemmas.Bool.{ne_eqb}
use Rattle.memchr.specs.Find.{Nowhere, Passes, is_byte}
use Rattle.text_lines.specs.Lines.{lines, without_empty_end}

abbrev is_newline : ℕ → Bool
is_newline byte = eqb byte 10

failed : (b : Bool) → (b ≡ true → ⊥) → b ≡ false
failed true wrong = absurd (wrong refl)
failed false wrong = refl

-- The byte at a place where memchr found nothing is no newline, whatever stands for a missing byte.
plain_at : (text : List ℕ) (k d : ℕ) → k < length text → (Passes (is_byte 10) text k → ⊥) → is_newline (get_or text k d) ≡ false
plain_at text k d lt other = ap is_newline (get_or_default text k d 0 lt) ∙ failed (is_newline (get_or text k 0)) other

-- A text without a newline is one line.
pub lines-one : (text : List ℕ) → (length text ≡ 0 → ⊥) → Nowhere (Passes (is_byte 10) text) 0 (length text) → lines text ≡ text ∷ []
lines-one text some nowhere =
    ap without_empty_end (slice_split_none is_newline text (λ k d lt. plain_at text k d lt (nowhere k (omega arith) lt)))
    ∙ rw (ne_eqb (length text) 0 some) refl

before_more : (part : List ℕ) (parts : List (List ℕ)) → 0 < length parts → without_empty_end (part ∷ parts) ≡ part ∷ without_empty_end parts
before_more part [] some = absurd (omega arith)
before_more part (next ∷ more) some = refl

-- The first newline ends the first line.
pub lines-first : (text : List ℕ) (at : ℕ) → at < length text → Nowhere (Passes (is_byte 10) text) 0 at → Passes (is_byte 10) text at
    → lines text ≡ take at text ∷ lines (drop (at + 1) text)
lines-first text at lt nowhere here =
    let is : position_or_len is_newline text ≡ at = position_or_len_is is_newline text at 0 (omega arith) (λ k below. failed (is_newline (get_or text k 0)) (nowhere k (omega arith) below)) (λ _. here) in
    let cut : slice_split is_newline text ≡ take at text ∷ slice_split is_newline (drop (at + 1) text) =
    slice_split_first is_newline text 0 (omega (arith, is)) ∙ ap (λ n. take n text ∷ slice_split is_newline (drop (n + 1) text)) is in
    ap without_empty_end cut
    ∙ before_more (take at text) (slice_split is_newline (drop (at + 1) text)) (omega (arith, length-slice_split is_newline (drop (at + 1) text)))

onto_more : (x : ℕ) (parts : List (List ℕ)) (n : ℕ) → length (without_empty_end parts) ≤ n → length (without_empty_end (onto_first x parts)) ≤ suc n
onto_more x [] n le = omega arith
onto_more x (part ∷ []) n le = let one : length (without_empty_end (onto_first x (part ∷ []))) ≡ 1 = rw (ne_eqb (length (x ∷ part)) 0 (λ none. omega arith)) refl in omega arith
onto_more x (part ∷ next ∷ more) n le = omega (arith, le)

split_more : (text : List ℕ) → length (without_empty_end (slice_split is_newline text)) ≤ length text
split_more [] = omega arith
split_more (x ∷ xs) = elim (is_newline x) as (λ b. length (without_empty_end (cond b ([] ∷ slice_split is_newline xs) (onto_first x (slice_split is_newline xs)))) ≤ suc (length xs)) [
  | true ↦ rw (before_more [] (slice_split is_newline xs) (omega (arith, length-slice_split is_newline xs))) (omega (arith, split_more xs))
  | false ↦ onto_more x (slice_split is_newline xs) (length xs) (split_more xs)
]

-- A text has at most as many lines as bytes.
pub length-lines : (text : List ℕ) → length (lines text) ≤ length text
length-lines text = split_more text
