-- A walk finds what the leaves say.
use Rattle.std.proofs.Common.{◌≡◌, ℕ, zero, suc, ◌+◌, ◌<◌, ◌≤◌, Bool, true, false, cond, List, [], ◌∷◌, ◌++◌, length, take, Option, Some, None, refl, sym, ap, ◌∙◌, inl, inr, arith, append_assoc, append-nil, length-append}
use Rattle.std.specs.List.{filter_map, range_with_len}
use Rattle.std.specs.Prelude.{slice_get, unwrap_or}
use Rattle.std.specs.Option.{option_map}
use Rattle.std.specs.Str.{bytes_eq}
use Rattle.std.proofs.lemmas.Bool.{cases_Bool}
use Rattle.std.proofs.lemmas.List.{length-take-le}
use Rattle.std.proofs.Math.Seq.{take-append-add}
use Rattle.trie.proofs.Walks.{walk_on, step}
use Rattle.trie.specs.Fronts.{word_at, is_proper_prefix, is_front}
use Rattle.trie.specs.Look.{found, look_of}
use Rattle.trie.specs.Leaf.{Leaf}
use Rattle.trie.specs.declared.walk.Walk.{Walk}
use Rattle.trie.specs.declared.walk.Walk.TheVariants.{Word, Inside, Outside}
use Rattle.trie.proofs.Places.{begins_front, bytes_equal, goes_on_whole}
use Rattle.trie.proofs.Fronts.{true_false}

-- where no path goes on, no longer string is a path
no_longer : (leaves : List Leaf) (q : List ℕ) (b : ℕ) (bs : List ℕ) → is_front leaves q ≡ false →
    word_at leaves (q ++ b ∷ bs) ≡ None
no_longer [] q b bs f = refl
no_longer (l ∷ ls) q b bs f = elim (cases_Bool (bytes_eq l.path (q ++ b ∷ bs))) [
  | inl same ↦
      let goes : is_proper_prefix q l.path ≡ true =
      ap (is_proper_prefix q) (bytes_equal l.path (q ++ b ∷ bs) same) ∙ goes_on_whole q b bs in
      absurd (true_false (rw goes at f))
  | inr n ↦ rw n (no_longer ls q b bs
      (elim (cases_Bool (is_proper_prefix q l.path))
      [ inl g ↦ absurd (true_false (rw g at f)) | inr g ↦ rw g at f ]))
]

-- a word that is found at a length
abbrev at_word : ℕ → Option ℕ → Option Walk
at_word used o = option_map (λ word. Word word used) o

-- the answer that is found, else whether a path goes on
abbrev look_or : Option Walk → Bool → Walk
look_or o t = unwrap_or o (cond t Inside Outside)

-- what the first bytes of a text lead to
abbrev finds : List Leaf → List ℕ → ℕ → Option Walk
finds leaves text n = found leaves text n

-- behind a string that nothing goes on from, nothing is found
nothing : (leaves : List Leaf) (q bs : List ℕ) (k n : ℕ) → is_front leaves q ≡ false → 0 < k →
    k + n ≤ length bs + 1 → filter_map (finds leaves (q ++ bs)) (range_with_len (length q + k) n) ≡ []
nothing leaves q bs k zero f pos room = refl
nothing leaves q bs k (suc n) f pos room =
    let none : word_at leaves (take (length q + k) (q ++ bs)) ≡ None =
    ap (word_at leaves) (take-append-add q bs k)
    ∙ longer leaves q (take k bs) f (omega (arith, length-take-le k bs (omega arith))) in
    skip (finds leaves (q ++ bs)) (length q + k) (range_with_len (length q + k + 1) n)
    (ap (at_word (length q + k)) none)
    ∙ ap (λ m. filter_map (finds leaves (q ++ bs)) (range_with_len m n))
    (let e : length q + k + 1 ≡ length q + (k + 1) = omega arith in e)
    ∙ nothing leaves q bs (k + 1) n f (omega arith) (omega arith)
  where
    skip : (g : ℕ → Option Walk) (x : ℕ) (xs : List ℕ) → g x ≡ None → filter_map g (x ∷ xs) ≡ filter_map g xs
    skip g x xs e = rw e refl

    longer : (leaves : List Leaf) (q r : List ℕ) → is_front leaves q ≡ false → 0 < length r →
        word_at leaves (q ++ r) ≡ None
    longer leaves q [] f lt = absurd (omega arith)
    longer leaves q (b ∷ bs) f lt = no_longer leaves q b bs f

-- what is found behind a front
abbrev behind : List Leaf → List ℕ → List ℕ → Walk
behind leaves q bs = look_or
    (slice_get (filter_map (finds leaves (q ++ bs)) (range_with_len (length q + 1) (length bs))) 0)
    (is_front leaves (q ++ bs))

front_false : (leaves : List Leaf) (q r : List ℕ) → is_front leaves q ≡ false →
    is_front leaves (q ++ r) ≡ false
front_false leaves q r f =
    elim (cases_Bool (is_front leaves (q ++ r)))
    [ inl t ↦ absurd (true_false (sym (begins_front leaves q r t) ∙ f)) | inr g ↦ g ]

first_found : (g : ℕ → Option Walk) (x : ℕ) (xs : List ℕ) (w : Walk) (b : Bool) → g x ≡ Some w →
    look_or (slice_get (filter_map g (x ∷ xs)) 0) b ≡ w
first_found g x xs w b e = rw e refl

skipped : (g : ℕ → Option Walk) (x : ℕ) (xs : List ℕ) → g x ≡ None → filter_map g (x ∷ xs) ≡ filter_map g xs
skipped g x xs e = rw e refl

one_byte : (leaves : List Leaf) (q : List ℕ) (b : ℕ) (bs : List ℕ) (o : Option ℕ) (t : Bool) →
    word_at leaves (q ++ b ∷ []) ≡ o → is_front leaves (q ++ b ∷ []) ≡ t
    → (t ≡ true → walk_on leaves (q ++ b ∷ []) bs ≡ behind leaves (q ++ b ∷ []) bs) →
    step o t (length q + 1) (walk_on leaves (q ++ b ∷ []) bs) ≡ behind leaves q (b ∷ bs)
one_byte leaves q b bs (Some w) t e f later =
    sym (first_found (finds leaves (q ++ b ∷ bs)) (length q + 1)
    (range_with_len (length q + 1 + 1) (length bs)) (Word w (length q + 1))
    (is_front leaves (q ++ b ∷ bs))
    (ap (at_word (length q + 1)) (ap (word_at leaves) (take-append-add q (b ∷ bs) 1) ∙ e)))
one_byte leaves q b bs None true e f later =
    let cut : (q ++ b ∷ []) ++ bs ≡ q ++ b ∷ bs = append_assoc q (b ∷ []) bs in
    let size : length (q ++ b ∷ []) + 1 ≡ length q + 1 + 1 = omega (arith, length-append q (b ∷ [])) in
    later refl
    ∙ ap (λ x. look_or (slice_get
    (filter_map (finds leaves x) (range_with_len (length (q ++ b ∷ []) + 1) (length bs))) 0)
    (is_front leaves x)) cut
    ∙ ap (λ n. look_or (slice_get (filter_map (finds leaves (q ++ b ∷ bs)) (range_with_len n (length bs))) 0)
    (is_front leaves (q ++ b ∷ bs))) size
    ∙ ap (λ xs. look_or (slice_get xs 0) (is_front leaves (q ++ b ∷ bs)))
    (sym (skipped (finds leaves (q ++ b ∷ bs)) (length q + 1)
    (range_with_len (length q + 1 + 1) (length bs))
    (ap (at_word (length q + 1)) (ap (word_at leaves) (take-append-add q (b ∷ bs) 1) ∙ e))))
one_byte leaves q b bs None false e f later =
    let cut : (q ++ b ∷ []) ++ bs ≡ q ++ b ∷ bs = append_assoc q (b ∷ []) bs in
    let size : length (q ++ b ∷ []) + 1 ≡ length q + 1 + 1 = omega (arith, length-append q (b ∷ [])) in
    let none : filter_map (finds leaves (q ++ b ∷ bs)) (range_with_len (length q + 1 + 1) (length bs)) ≡ [] =
    ap (λ x. filter_map (finds leaves x) (range_with_len (length q + 1 + 1) (length bs))) (sym cut)
    ∙ ap (λ n. filter_map (finds leaves ((q ++ b ∷ []) ++ bs)) (range_with_len n (length bs))) (sym size)
    ∙ nothing leaves (q ++ b ∷ []) bs 1 (length bs) f (omega arith) (omega arith) in
    let whole : filter_map (finds leaves (q ++ b ∷ bs))
    (range_with_len (length q + 1) (length (b ∷ bs))) ≡ [] =
    skipped (finds leaves (q ++ b ∷ bs)) (length q + 1) (range_with_len (length q + 1 + 1) (length bs))
    (ap (at_word (length q + 1)) (ap (word_at leaves) (take-append-add q (b ∷ bs) 1) ∙ e)) ∙ none in
    sym (ap (λ xs. look_or (slice_get xs 0) (is_front leaves (q ++ b ∷ bs))) whole
    ∙ ap (look_or None) (ap (is_front leaves) (sym cut) ∙ front_false leaves (q ++ b ∷ []) bs f))

walks_behind : (leaves : List Leaf) (bs q : List ℕ) → (length bs ≡ 0 → is_front leaves q ≡ true) →
    walk_on leaves q bs ≡ behind leaves q bs
walks_behind leaves [] q h = sym (ap (look_or None) (ap (is_front leaves) (append-nil q) ∙ h refl))
walks_behind leaves (b ∷ bs) q h =
    one_byte leaves q b bs (word_at leaves (q ++ b ∷ [])) (is_front leaves (q ++ b ∷ [])) refl refl
    (λ t. walks_behind leaves bs (q ++ b ∷ []) (λ _. t))

-- a walk along some bytes finds the shortest front that is a path
pub looks : (leaves : List Leaf) (bytes : List ℕ) → 0 < length bytes →
    walk_on leaves [] bytes ≡ look_of leaves bytes
looks leaves bytes lt = walks_behind leaves bytes [] (λ e. absurd (omega arith))
