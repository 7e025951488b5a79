-- The first word of a line.
use Rattle.std.proofs.Common.{◌++◌, map, append_assoc, ◌≡◌, ℕ, suc, ◌+◌, ◌-◌, ◌<◌, ◌≤◌, true, false, ltb, List, [], ◌∷◌, length, take, drop, filter, refl, sym, ap, subst, ◌∙◌, inl, inr, ◌⊎◌, get_or, arith, add-one, drop-cons, nat_lt}
use Rattle.std.specs.List.{slice_split, position_or_len}
use Rattle.std.proofs.lemmas.List.{map-append, length-take-le, length-drop, get_or_default, get_or-drop, take_rest}
use Rattle.std.proofs.Math.Seq.{take-length, drop-length}
use Rattle.std.proofs.lemmas.List.Splits.{slice_split_none, slice_split_first}
use Rattle.std.proofs.lemmas.List.Sums.{position_or_len_is}
use Rattle.std.proofs.lemmas.Bool.{cases_Bool, lt-ltb, ltb-true, ltb-false}
use Rattle.text_lines.specs.Words.{words, is_blank}

blank_first : (x : ℕ) (xs : List ℕ) → is_blank x ≡ true → words (x ∷ xs) ≡ words xs
blank_first x xs blank = rw blank refl

-- A blank that is passed over changes no word.
pub words-drop : (s : List ℕ) (i : ℕ) → i < length s → is_blank (get_or s i 0) ≡ true → words (drop (i + 1) s) ≡ words (drop i s)
words-drop s i lt blank = ap (λ n. words (drop n s)) (add-one i) ∙ sym (ap words (drop-cons s i 0 lt) ∙ blank_first (get_or s i 0) (drop (suc i) s) blank)

kept_word : (w : List ℕ) (ws : List (List ℕ)) → 0 < length w → filter (λ v. nat_lt 0 (length v)) (w ∷ ws) ≡ w ∷ filter (λ v. nat_lt 0 (length v)) ws
kept_word w ws some = rw (lt-ltb 0 (length w) some) refl

below_or : (a b : ℕ) → (a < b) ⊎ (b ≤ a)
below_or a b = elim (cases_Bool (ltb a b)) [ inl t ↦ inl (ltb-true a b t) | inr f ↦ inr (ltb-false a b f) ]

-- What stands before the first blank is the first word.
pub words-front : (s : List ℕ) (n : ℕ) → 0 < n → n ≤ length s → ((k : ℕ) → k < n → is_blank (get_or s k 0) ≡ false)
    → (n < length s → is_blank (get_or s n 0) ≡ true) → words s ≡ take n s ∷ words (drop n s)
words-front s n pos le each stops =
    let at : position_or_len is_blank s ≡ n = position_or_len_is is_blank s n 0 le each stops in
    elim (below_or n (length s)) [
      | inl lt ↦
          let cut : slice_split is_blank s ≡ take n s ∷ slice_split is_blank (drop (n + 1) s) =
          slice_split_first is_blank s 0 (omega arith) ∙ ap (λ m. take m s ∷ slice_split is_blank (drop (m + 1) s)) at in
          ap (filter (λ w. nat_lt 0 (length w))) cut
          ∙ kept_word (take n s) (slice_split is_blank (drop (n + 1) s)) (omega (arith, length-take-le n s le))
          ∙ ap (λ ws. take n s ∷ ws) (words-drop s n lt (stops lt))
      | inr ge ↦
          let e : n ≡ length s = omega arith in
          let all : take n s ≡ s = ap (λ m. take m s) e ∙ take-length s in
          let none : drop n s ≡ [] = ap (λ m. drop m s) e ∙ drop-length s in
          ap (filter (λ w. nat_lt 0 (length w))) (slice_split_none is_blank s (λ k d lt. ap is_blank (get_or_default s k d 0 lt) ∙ each k (omega arith)))
          ∙ kept_word s [] (omega arith)
          ∙ ap (λ w. w ∷ []) (sym all) ∙ ap (λ r. take n s ∷ words r) (sym none)
    ]

starts_word : (s : List ℕ) (start n : ℕ) → start < length s → is_blank (get_or s start 0) ≡ false
    → (n < length (drop start s) → is_blank (get_or (drop start s) n 0) ≡ true) → 0 < n
starts_word s start n lt word stops = elim (below_or 0 n) [
  | inl pos ↦ pos
  | inr le ↦
      let zero_is : n ≡ 0 = omega arith in
      let at : is_blank (get_or s start 0) ≡ true =
      ap is_blank (sym (ap (λ k. get_or (drop start s) k 0) zero_is ∙ get_or-drop start s 0 0 ∙ ap (λ k. get_or s k 0) (omega arith)))
      ∙ stops (omega (arith, length-drop start s)) in
      absurd (cc)
]

-- The same where only blanks stand before the word.
pub words-next : (s rest : List ℕ) (start n : ℕ) → rest ≡ take (length s - start) (drop start s) → words (drop start s) ≡ words s
    → start ≤ length s → (start < length s → is_blank (get_or s start 0) ≡ false) → (length rest ≡ 0 → ⊥)
    → n ≤ length rest → ((k : ℕ) → k < n → is_blank (get_or rest k 0) ≡ false) → (n < length rest → is_blank (get_or rest n 0) ≡ true)
    → words s ≡ take n rest ∷ words (take (length rest - n) (drop n rest))
words-next s rest start n is same within word some le each stops =
    let e : rest ≡ drop start s = is ∙ take_rest s start in
    let lt : start < length s = omega (arith, ap length e, length-drop start s) in
    let pos : 0 < n = starts_word s start n lt (word lt) (subst (λ r. n < length r → is_blank (get_or r n 0) ≡ true) e stops) in
    sym same ∙ ap words (sym e) ∙ words-front rest n pos le each stops ∙ ap (λ r. take n rest ∷ words r) (sym (take_rest rest n))

-- A text that is empty behind its blanks has no words.
pub words-none : (s : List ℕ) (start : ℕ) → words (drop start s) ≡ words s → start ≤ length s
    → length (take (length s - start) (drop start s)) ≡ 0 → words s ≡ []
words-none s start same within none =
    let at : start ≡ length s = omega (arith, ap length (take_rest s start), length-drop start s) in
    sym same ∙ ap words (ap (λ k. drop k s) at ∙ drop-length s)

-- One more element of a list that is taken from the front of another.
pub map-front : {X Y : Type 0} (f : X → Y) (found : List X) (x : X) (ys rest : List Y) (n i : ℕ) → i < n → ys ≡ f x ∷ rest
    → map f (found ++ x ∷ []) ++ take (n - (i + 1)) rest ≡ map f found ++ take (n - i) ys
map-front f found x ys rest n i lt e =
    let one : take (n - i) (f x ∷ rest) ≡ f x ∷ take (n - (i + 1)) rest = ap (λ k. take k (f x ∷ rest)) (left_suc n i lt) in
    ap (λ front. front ++ take (n - (i + 1)) rest) (map-append f found (x ∷ []))
    ∙ append_assoc (map f found) (f x ∷ []) (take (n - (i + 1)) rest)
    ∙ ap (λ later. map f found ++ later) (sym (ap (take (n - i)) e ∙ one))
  where
    left_suc : (n i : ℕ) → i < n → n - i ≡ suc (n - (i + 1))
    left_suc n i lt = omega arith
