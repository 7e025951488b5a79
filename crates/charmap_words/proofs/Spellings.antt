-- Words whose bytes are spelled one after another.
use Rattle.std.proofs.Common.{◌≡◌, ℕ, zero, suc, ◌+◌, ◌*◌, ◌/◌, ◌%◌, ◌<◌, ◌≤◌, Bool, true, false, cond, eqb, ltb, ◌&&◌, List, [], ◌∷◌, ◌++◌, length, drop, Option, Some, None, Result, Ok, Err, refl, sym, ap, ◌∙◌, subst, inl, inr, arith, append_assoc, append-nil, add-zero, zero-add, length-drop}
use Rattle.std.specs.List.{fold}
use Rattle.std.proofs.lemmas.List.{nil_from_length}
use Rattle.std.proofs.lemmas.Bool.{cases_Bool, ltb-true, ltb-false, ne_eqb}
use Rattle.code_pairs.specs.Bytes.{big_endian, value_of, AreBytes}
use Rattle.charmap_words.specs.Digits.{is_octal, is_decimal, is_hex, number}
use Rattle.charmap_words.specs.Spelling.{two_digits, two_taken, three_taken, byte_of, byte_behind, byte_at, with_byte, byte_and_rest, bytes_within, spelled, code_of_bytes, code_spelled}
use Rattle.charmap_words.specs.declared.codes.CodeFault.{CodeFault}
use Rattle.charmap_words.specs.declared.codes.CodeFault.TheVariants.{BadCode, CodeLength}

-- A byte, and bytes of a word that spell it.
pub record IsTaken (text : List ℕ) (p : ℕ × ℕ) : Type 0 where
  pub byte : p.0 < 256
  pub some : 0 < p.1
  pub within : p.1 ≤ length text

length-two_digits : (p : ℕ → Bool) (a b : ℕ) → length (two_digits p a b) ≤ 2
length-two_digits p a b =
    elim (cases_Bool (p a && p b)) [ inl t ↦ rw t (omega arith) | inr f ↦ rw f (omega arith) ]

length-two_taken : (p : ℕ → Bool) (ds : List ℕ) → length (two_taken p ds) ≤ length ds
length-two_taken p [] = omega arith
length-two_taken p (a ∷ []) = omega arith
length-two_taken p (a ∷ b ∷ more) = omega (arith, length-two_digits p a b)

length-three_taken : (p : ℕ → Bool) (ds : List ℕ) → length (three_taken p ds) ≤ length ds
length-three_taken p [] = omega arith
length-three_taken p (a ∷ []) = omega arith
length-three_taken p (a ∷ b ∷ []) = omega (arith, length-two_digits p a b)
length-three_taken p (a ∷ b ∷ c ∷ more) = elim (cases_Bool (p a && p b && p c)) [
  | inl t ↦ rw t (omega arith)
  | inr f ↦ rw f (omega (arith, length-two_digits p a b))
]

-- What is known of a byte of some digits.
IsTaken-byte_of : (base before : ℕ) (ds text : List ℕ) (p : ℕ × ℕ) →
    before + length ds ≤ length text → byte_of base before ds ≡ Some p → IsTaken text p
IsTaken-byte_of base before [] text p le e = absurd (none_some e)
  where
    none_some : {q : ℕ × ℕ} → None ≡ Some q → ⊥
    none_some h = cc
IsTaken-byte_of base before (d ∷ ds) text p le e =
    elim (cases_Bool (ltb (number base (d ∷ ds)) 256)) [
      | inl t ↦ at (some_some
          (ap (λ b. cond b (Some (number base (d ∷ ds), before + length (d ∷ ds))) None) (sym t) ∙ e))
          (ltb-true (number base (d ∷ ds)) 256 t)
      | inr f ↦ absurd (none_some
          (ap (λ b. cond b (Some (number base (d ∷ ds), before + length (d ∷ ds))) None) (sym f) ∙ e))
    ]
  where
    none_some : {q : ℕ × ℕ} → None ≡ Some q → ⊥
    none_some h = cc

    some_some : {q r : ℕ × ℕ} → Some q ≡ Some r → q ≡ r
    some_some h = cc

    at : (number base (d ∷ ds), before + length (d ∷ ds)) ≡ p → number base (d ∷ ds) < 256 →
        IsTaken text p
    at h small = subst (λ q. IsTaken text q) h
        (record { byte = small; some = omega arith; within = le })

-- A fact of each of two answers is one of their choice.
two_ways : {P : Type 0} (t : Bool) (o r : Option (ℕ × ℕ)) (p : ℕ × ℕ) → (o ≡ Some p → P) →
    (r ≡ Some p → P) → cond t o r ≡ Some p → P
two_ways true o r p f g e = f e
two_ways false o r p f g e = g e

none_some : {P : Type 0} {p : ℕ × ℕ} → None ≡ Some p → P
none_some e = cc

IsTaken-byte_behind : (e : ℕ) (ds : List ℕ) (p : ℕ × ℕ) → byte_behind ds ≡ Some p →
    IsTaken (e ∷ ds) p
IsTaken-byte_behind e [] p h = none_some h
IsTaken-byte_behind e (f ∷ fs) p h =
    two_ways (eqb f 120) (byte_of 16 2 (two_taken is_hex fs))
    (cond (eqb f 100) (byte_of 10 2 (three_taken is_decimal fs))
    (byte_of 8 1 (three_taken is_octal (f ∷ fs)))) p
    (λ k. IsTaken-byte_of 16 2 (two_taken is_hex fs) (e ∷ f ∷ fs) p
    (omega (arith, length-two_taken is_hex fs)) k)
    (λ k. two_ways (eqb f 100) (byte_of 10 2 (three_taken is_decimal fs))
    (byte_of 8 1 (three_taken is_octal (f ∷ fs))) p
    (λ m. IsTaken-byte_of 10 2 (three_taken is_decimal fs) (e ∷ f ∷ fs) p
    (omega (arith, length-three_taken is_decimal fs)) m)
    (λ m. IsTaken-byte_of 8 1 (three_taken is_octal (f ∷ fs)) (e ∷ f ∷ fs) p
    (omega (arith, length-three_taken is_octal (f ∷ fs))) m) k) h

-- What is known of a byte at the front of a word.
pub IsTaken-byte_at : (escape : ℕ) (text : List ℕ) (p : ℕ × ℕ) → byte_at escape text ≡ Some p →
    IsTaken text p
IsTaken-byte_at escape [] p h = none_some h
IsTaken-byte_at escape (e ∷ es) p h =
    two_ways (eqb e escape) (byte_behind es) None p (λ k. IsTaken-byte_behind e es p k)
    (λ k. none_some k) h

same_rest : (o : Option (ℕ × ℕ)) (text : List ℕ) (f g : List ℕ → Option (List ℕ)) →
    ((p : ℕ × ℕ) → o ≡ Some p → f (drop p.1 text) ≡ g (drop p.1 text)) →
    byte_and_rest o text f ≡ byte_and_rest o text g
same_rest None text f g each = refl
same_rest (Some p) text f g each = ap (with_byte p.0) (each p refl)

-- A greater bound on the number of bytes changes nothing.
enough : (escape n m : ℕ) (text : List ℕ) → length text ≤ n → length text ≤ m →
    bytes_within n escape text ≡ bytes_within m escape text
enough escape n m [] a b = refl
enough escape zero m (x ∷ xs) a b = absurd (omega arith)
enough escape (suc n) zero (x ∷ xs) a b = absurd (omega arith)
enough escape (suc n) (suc m) (x ∷ xs) a b =
    same_rest (byte_at escape (x ∷ xs)) (x ∷ xs) (bytes_within n escape) (bytes_within m escape)
    (λ p e. let k = IsTaken-byte_at escape (x ∷ xs) p e in
    enough escape n m (drop p.1 (x ∷ xs))
    (omega (arith, length-drop p.1 (x ∷ xs), k.some, k.within))
    (omega (arith, length-drop p.1 (x ∷ xs), k.some, k.within)))

-- A word spells the byte at its front, and then what the rest spells.
spelled_front : (escape : ℕ) (text : List ℕ) (b n : ℕ) → byte_at escape text ≡ Some (b, n) →
    spelled escape text ≡ with_byte b (spelled escape (drop n text))
spelled_front escape [] b n e = none_some e
spelled_front escape (x ∷ xs) b n e =
    let k = IsTaken-byte_at escape (x ∷ xs) (b, n) e in
    ap (λ o. byte_and_rest o (x ∷ xs) (bytes_within (length xs) escape)) e
    ∙ ap (with_byte b) (enough escape (length xs) (length (drop n (x ∷ xs))) (drop n (x ∷ xs))
    (omega (arith, length-drop n (x ∷ xs), k.some, k.within)) (omega arith))

-- A word at whose front no byte is spelled is no code.
pub spelled_none : (escape : ℕ) (text : List ℕ) → 0 < length text → byte_at escape text ≡ None →
    spelled escape text ≡ None
spelled_none escape [] some e = absurd (omega arith)
spelled_none escape (x ∷ xs) some e =
    ap (λ o. byte_and_rest o (x ∷ xs) (bytes_within (length xs) escape)) e

-- What comes of some bytes behind so many that have this value.
abbrev pub shown : ℕ → ℕ → Option (List ℕ) → Result (ℕ × ℕ) CodeFault
shown count value None = Err BadCode
shown count value (Some bs) =
    cond (ltb 4 (count + length bs)) (Err CodeLength)
    (Ok (count + length bs, fold (λ a b. 256 * a + b) value bs))

shown_step : (count value byte value2 : ℕ) (o : Option (List ℕ)) →
    (count < 4 → value2 ≡ 256 * value + byte) →
    shown (count + 1) value2 o ≡ shown count value (with_byte byte o)
shown_step count value byte value2 None h = refl
shown_step count value byte value2 (Some bs) h =
    let many : count + 1 + length bs ≡ count + length (byte ∷ bs) = omega arith in
    ap (λ n. cond (ltb 4 n) (Err CodeLength) (Ok (n, fold (λ a b. 256 * a + b) value2 bs))) many
    ∙ elim (cases_Bool (ltb 4 (count + length (byte ∷ bs)))) [
      | inl t ↦ rw t refl
      | inr f ↦ rw f (ap (λ v. Ok (count + length (byte ∷ bs), fold (λ a b. 256 * a + b) v bs))
          (h (let l = ltb-false 4 (count + length (byte ∷ bs)) f in omega arith)))
    ]

-- One byte more.
pub code_step : (escape : ℕ) (text rest : List ℕ) (count value byte value2 n : ℕ) →
    byte_at escape text ≡ Some (byte, n) → rest ≡ drop n text →
    (count < 4 → value2 ≡ 256 * value + byte) →
    shown (count + 1) value2 (spelled escape rest) ≡ shown count value (spelled escape text)
code_step escape text rest count value byte value2 n e cut h =
    ap (λ r. shown (count + 1) value2 (spelled escape r)) cut
    ∙ shown_step count value byte value2 (spelled escape (drop n text)) h
    ∙ ap (shown count value) (sym (spelled_front escape text byte n e))

AreBytes-then : (o : Option (ℕ × ℕ)) (text : List ℕ) (f : List ℕ → Option (List ℕ)) (bs : List ℕ) →
    ((p : ℕ × ℕ) → o ≡ Some p → p.0 < 256) →
    ((t cs : List ℕ) → f t ≡ Some cs → AreBytes cs) → byte_and_rest o text f ≡ Some bs → AreBytes bs
AreBytes-then None text f bs one more e = no e
  where
    no : {cs : List ℕ} → None ≡ Some cs → AreBytes bs
    no h = cc
AreBytes-then (Some p) text f bs one more e = go (f (drop p.1 text)) refl e
  where
    go : (r : Option (List ℕ)) → f (drop p.1 text) ≡ r → with_byte p.0 r ≡ Some bs → AreBytes bs
    go None h k = no k
      where
        no : {cs : List ℕ} → None ≡ Some cs → AreBytes bs
        no m = cc
    go (Some cs) h k = subst (λ x. AreBytes x) (same k) (one p refl, more (drop p.1 text) cs h)
      where
        same : {x y : List ℕ} → Some x ≡ Some y → x ≡ y
        same m = cc

AreBytes-within : (n escape : ℕ) (text bs : List ℕ) → bytes_within n escape text ≡ Some bs →
    AreBytes bs
AreBytes-within n escape [] bs e = subst (λ x. AreBytes x) (same e) tt
  where
    same : {x y : List ℕ} → Some x ≡ Some y → x ≡ y
    same m = cc
AreBytes-within zero escape (c ∷ cs) bs e = no e
  where
    no : {x : List ℕ} → None ≡ Some x → AreBytes bs
    no h = cc
AreBytes-within (suc n) escape (c ∷ cs) bs e =
    AreBytes-then (byte_at escape (c ∷ cs)) (c ∷ cs) (bytes_within n escape) bs
    (λ p h. (IsTaken-byte_at escape (c ∷ cs) p h).byte)
    (λ t ds h. AreBytes-within n escape t ds h) e

pushed : (k : ℕ) (bs : List ℕ) (value : ℕ) → AreBytes bs →
    big_endian (k + length bs) (fold (λ a b. 256 * a + b) value bs) ≡ big_endian k value ++ bs
pushed k [] value all = ap (λ n. big_endian n value) (add-zero k)
    ∙ sym (append-nil (big_endian k value))
pushed k (b ∷ bs) value all =
    let many : k + length (b ∷ bs) ≡ suc k + length bs = omega arith in
    let high : (256 * value + b) / 256 ≡ value = omega (arith, all.0) in
    let low : (256 * value + b) % 256 ≡ b = omega (arith, all.0) in
    ap (λ n. big_endian n (fold (λ a b. 256 * a + b) value (b ∷ bs))) many
    ∙ pushed (suc k) bs (256 * value + b) all.1
    ∙ append_assoc (big_endian k ((256 * value + b) / 256)) ((256 * value + b) % 256 ∷ []) bs
    ∙ ap (λ v. big_endian k v ++ (256 * value + b) % 256 ∷ bs) high
    ∙ ap (λ d. big_endian k value ++ d ∷ bs) low

-- Bytes come back from how many they are and the number that they stand for.
pub big_endian-value_of : (bs : List ℕ) → AreBytes bs → big_endian (length bs) (value_of bs) ≡ bs
big_endian-value_of bs all = ap (λ n. big_endian n (value_of bs)) (sym (zero-add (length bs)))
    ∙ pushed 0 bs 0 all

-- The code of so many bytes with this value.
abbrev pub coded : Result (ℕ × ℕ) CodeFault → Result (List ℕ) CodeFault
coded (Err f) = Err f
coded (Ok p) = cond (eqb p.0 0) (Err BadCode) (Ok (big_endian p.0 p.1))

coded_bytes : (o : Option (List ℕ)) → ((bs : List ℕ) → o ≡ Some bs → AreBytes bs) →
    code_of_bytes o ≡ coded (shown 0 0 o)
coded_bytes None all = refl
coded_bytes (Some []) all = refl
coded_bytes (Some (b ∷ bs)) all = elim (cases_Bool (ltb 4 (length (b ∷ bs)))) [
  | inl t ↦ rw (zero-add (suc (length bs)), t) refl
  | inr f ↦
      let some : eqb (suc (length bs)) 0 ≡ false =
      ne_eqb (suc (length bs)) 0 (λ e. omega (arith, e)) in
      rw (zero-add (suc (length bs)), f, some)
      (ap Ok (sym (big_endian-value_of (b ∷ bs) (all (b ∷ bs) refl))))
]

-- The code that a word spells, by the count and the value of its bytes.
pub code_spelled_is : (escape : ℕ) (word : List ℕ) →
    code_spelled escape word ≡ coded (shown 0 0 (spelled escape word))
code_spelled_is escape word =
    coded_bytes (spelled escape word) (λ bs e. AreBytes-within (length word) escape word bs e)

-- At the end of a word its code is told by the count and the value of its bytes.
pub coded_at_end : (escape count value : ℕ) (rest word : List ℕ) → length rest ≡ 0 →
    shown count value (spelled escape rest) ≡ shown 0 0 (spelled escape word) →
    coded (cond (ltb 4 count) (Err CodeLength) (Ok (count, value))) ≡ code_spelled escape word
coded_at_end escape count value rest word none told =
    let nothing : rest ≡ [] = nil_from_length rest none in
    ap (λ n. coded (cond (ltb 4 n) (Err CodeLength) (Ok (n, value)))) (sym (add-zero count))
    ∙ ap (λ r. coded (shown count value (spelled escape r))) (sym nothing)
    ∙ ap coded told ∙ sym (code_spelled_is escape word)

-- A word at which no byte is spelled is no code.
pub coded_at_fault : (escape count value : ℕ) (rest word : List ℕ) → 0 < length rest →
    byte_at escape rest ≡ None →
    shown count value (spelled escape rest) ≡ shown 0 0 (spelled escape word) →
    Err BadCode ≡ code_spelled escape word
coded_at_fault escape count value rest word some none told =
    ap (λ o. coded (shown count value o)) (sym (spelled_none escape rest some none))
    ∙ ap coded told ∙ sym (code_spelled_is escape word)
