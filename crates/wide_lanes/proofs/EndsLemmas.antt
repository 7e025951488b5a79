-- Units of UTF-8 told by where they end: byte by byte.
use Rattle.std.proofs.Common.{subst, ◌≡◌, ℕ, zero, suc, ◌+◌, ◌-◌, ◌*◌, ◌/◌, ◌%◌, ◌≤◌, ◌<◌, Bool, true, false, ◌&&◌, ◌||◌, List, [], ◌∷◌, ◌++◌, map, length, take, refl, sym, ap, ◌∙◌, arith, inl, inr, ◌⊎◌, w8, Fits, append_assoc, length-append}
use Rattle.std.specs.Prelude.{nat_lt, nat_le}
use Rattle.std.specs.List.{AllByRecursion, flat_map}
use Rattle.std.proofs.lemmas.Bool.Decides.{nat_tests}
use Rattle.std.proofs.lemmas.Bool.{cases_lt}
use Rattle.std.proofs.lemmas.List.{append-nil, take_at}
use lib.Lanes.{Each1, mask_l}
use Rattle.step_unicode.specs.Utf8.{utf8}
use Rattle.wide_lanes.specs.Wide.{IsWide, AreWide}
use Rattle.wide_lanes.specs.Ends.{Window, windows, is_in, either, is_wrong, ends, point_at, whole_of}
use Rattle.wide_lanes.proofs.WindowLemmas.{kept}

abbrev pub at_window : ℕ → ℕ → ℕ → Window
at_window a b c = record { two = a; one = b; here = c }

or_no : (s t : Bool) → (s || t) ≡ false → (s ≡ false) × (t ≡ false)
or_no true t e = absurd (let h : true ≡ false = e in grind arith)
or_no false t e = (refl, e)

-- what it is that a byte can stand there
pub record Fine (a b c : ℕ) : Type 0 where
  pub tails : either (is_in 0x80 0x40 c) (is_in 0xC2 0x2E b || is_in 0xE0 0x10 a) ≡ false
  pub none : is_in 0xC0 2 c ≡ false
  pub four : is_in 0xF0 0x10 c ≡ false
  pub least : (is_in 0xE0 1 b && is_in 0 0xA0 c) ≡ false
  pub last : (is_in 0xED 1 b && is_in 0xA0 0x60 c) ≡ false

fine_of : (a b c : ℕ) → is_wrong (at_window a b c) ≡ false → Fine a b c
fine_of a b c e =
    let one = or_no _ _ e in
    let two = or_no _ _ one.1 in
    let three = or_no _ _ two.1 in
    let four = or_no _ _ three.1 in
    record { tails = one.0; none = two.0; four = three.0; least = four.0; last = four.1 }

-- what is open behind two bytes: nothing, a first byte of two, one of three, or one of three and its second byte
abbrev pub Open : ℕ → ℕ → ℕ → Type 0
Open zero a b = (a < 0xE0) × (b < 0xC0)
Open (suc zero) a b = (a < 0xC0) × (0xC2 ≤ b) × (b < 0xE0)
Open (suc (suc zero)) a b = (a < 0xC0) × (0xE0 ≤ b) × (b < 0xF0)
Open (suc (suc (suc zero))) a b = (0xE0 ≤ a) × (a < 0xF0) × (0x80 ≤ b) × (b < 0xC0) × (a ≡ 0xE0 → 0xA0 ≤ b) × (a ≡ 0xED → b < 0xA0)
Open _ a b = ⊥

abbrev pub open_bytes : ℕ → ℕ → ℕ → List ℕ
open_bytes zero a b = []
open_bytes (suc zero) a b = b ∷ []
open_bytes (suc (suc zero)) a b = b ∷ []
open_bytes _ a b = a ∷ b ∷ []

-- a byte more ends a unit, or leaves one open
pub record Ended (k a b c : ℕ) : Type 0 where
  pub ends : ends (at_window a b c) ≡ true
  pub unit : utf8 (point_at (at_window a b c)) ≡ open_bytes k a b ++ c ∷ []
  pub wide : IsWide (point_at (at_window a b c))
  pub left : Open 0 b c

pub record Left (k a b c : ℕ) : Type 0 where
  pub ends : ends (at_window a b c) ≡ false
  pub to : ℕ
  pub left : Open to b c
  pub bytes : open_bytes to b c ≡ open_bytes k a b ++ c ∷ []

tail_is : (a b c : ℕ) → Fine a b c → 0x80 ≤ c → c < 0xC0 → (is_in 0xC2 0x2E b || is_in 0xE0 0x10 a) ≡ true
tail_is a b c fine low high = let yes : is_in 0x80 0x40 c ≡ true = grind (arith, nat_tests, low, high) in go (is_in 0xC2 0x2E b || is_in 0xE0 0x10 a) (rw yes at fine.tails)
  where
    go : (t : Bool) → either true t ≡ false → t ≡ true
    go true e = refl
    go false e = absurd (let h : true ≡ false = e in grind arith)

-- a later byte must stand behind such bytes
tail_must : (a b c : ℕ) → Fine a b c → (is_in 0xC2 0x2E b || is_in 0xE0 0x10 a) ≡ true → is_in 0x80 0x40 c ≡ true
tail_must a b c fine holds = go (is_in 0x80 0x40 c) (rw holds at fine.tails)
  where
    go : (t : Bool) → either t true ≡ false → t ≡ true
    go true e = refl
    go false e = absurd (let h : true ≡ false = e in grind arith)

in_range : (from count b : ℕ) → is_in from count b ≡ true → (from ≤ b) × (b < from + count)
in_range from count b holds = elim (cases_lt b from) [
  | inl lt ↦ absurd (let no : nat_le from b ≡ false = grind (arith, nat_tests, lt) in let h : false ≡ true = rw no at holds in grind arith)
  | inr ge ↦ elim (cases_lt b (from + count)) [
    | inl lt ↦ (ge, lt)
    | inr more ↦ absurd (
        let y : nat_le from b ≡ true = grind (arith, nat_tests, ge) in
        let no : nat_lt b (from + count) ≡ false = grind (arith, nat_tests, more) in
        let h : false ≡ true = rw (y, no) at holds in grind arith
        )
  ]
]

is_inside : (from count b : ℕ) → from ≤ b → b < from + count → is_in from count b ≡ true
is_inside from count b low high =
    let y : nat_le from b ≡ true = grind (arith, nat_tests, low) in
    let z : nat_lt b (from + count) ≡ true = grind (arith, nat_tests, high) in
    rw (y, z) refl

not_below : (from count b : ℕ) → b < from → is_in from count b ≡ false
not_below from count b lt = let n : nat_le from b ≡ false = grind (arith, nat_tests, lt) in rw n refl

not_above : (from count b : ℕ) → from + count ≤ b → is_in from count b ≡ false
not_above from count b ge =
    let n : nat_lt b (from + count) ≡ false = grind (arith, nat_tests, ge) in
    let y : nat_le from b ≡ true = grind (arith, nat_tests, ge) in
    rw (y, n) refl

no_and : (s t : Bool) → (s && t) ≡ false → s ≡ true → t ≡ false
no_and true t e holds = e
no_and false t e holds = absurd (let h : false ≡ true = holds in grind arith)

-- where a byte isn't one of these that lie below 100 hex
out_of : (from count b : ℕ) → is_in from count b ≡ false → from ≤ b → from + count ≤ b
out_of from count b fails ge = elim (cases_lt b (from + count)) [
  | inl lt ↦ absurd (let h : true ≡ false = sym (is_inside from count b ge lt) ∙ fails in grind arith)
  | inr more ↦ more
]

-- where no later byte is asked for, none stands there
no_tail : (a b c : ℕ) → Fine a b c → is_in 0xC2 0x2E b ≡ false → is_in 0xE0 0x10 a ≡ false → is_in 0x80 0x40 c ≡ false
no_tail a b c fine one two = go (is_in 0x80 0x40 c) (rw (one, two) at fine.tails)
  where
    go : (t : Bool) → either t false ≡ false → t ≡ false
    go true e = e
    go false e = refl

abbrev pub Stepped : ℕ → ℕ → ℕ → ℕ → Type 0
Stepped k a b c = Ended k a b c ⊎ Left k a b c

-- the first byte of a unit, where nothing is open
first_byte : (a b c : ℕ) → Fine a b c → c < 256 → Open 0 a b → Stepped 0 a b c
first_byte a b c fine small left =
    let no1 : is_in 0xC2 0x2E b ≡ false = not_below 0xC2 0x2E b (omega (arith, left.1)) in
    let no1' : is_in 0xC2 0x1E b ≡ false = not_below 0xC2 0x1E b (omega (arith, left.1)) in
    let no2 : is_in 0xE0 0x10 a ≡ false = not_below 0xE0 0x10 a left.0 in
    let head = no_tail a b c fine no1 no2 in
    elim (cases_lt c 0x80) [
      | inl lt ↦
          let is1 : is_in 0 0x80 c ≡ true = is_inside 0 0x80 c (omega arith) lt in
          let low : nat_lt c 0x80 ≡ true = grind (arith, nat_tests, lt) in
          let notail : is_in 0x80 0x40 c ≡ false = not_below 0x80 0x40 c lt in
          let is : point_at (at_window a b c) ≡ c = rw (notail, no2) (let e : (((c + (256 - 0)) % 256 + 0 * 64 % 65536) % 65536 + 0 * 4096 % 65536) % 65536 ≡ c = omega (arith, lt) in e) in
          let wide : IsWide c = (omega (arith, lt), (omega (arith, lt), λ h. omega (arith, lt, h))) in
          inl (record { ends = rw is1 refl; unit = ap utf8 is ∙ rw low refl; wide = subst IsWide (sym is) wide; left = (omega (arith, left.1), omega (arith, lt)) })
      | inr ge ↦
          let far : 0xC0 ≤ c = out_of 0x80 0x40 c head ge in
          let lead : 0xC2 ≤ c = out_of 0xC0 2 c fine.none far in
          let none : is_in 0 0x80 c ≡ false = not_above 0 0x80 c ge in
          let few : c < 0xF0 = elim (cases_lt c 0xF0) [ inl lt ↦ lt | inr more ↦ absurd (let h : 0x100 ≤ c = out_of 0xF0 0x10 c fine.four more in omega (arith, h, small)) ] in
          elim (cases_lt c 0xE0) [
            | inl lt ↦ inr (record { ends = rw (none, no1', no2) refl; to = 1; left = (left.1, lead, lt); bytes = refl })
            | inr more ↦ inr (record { ends = rw (none, no1', no2) refl; to = 2; left = (left.1, more, few); bytes = refl })
          ]
    ]

-- the second byte of two
second_of_two : (a b c : ℕ) → Fine a b c → Open 1 a b → Stepped 1 a b c
second_of_two a b c fine left =
    let yes1 : is_in 0xC2 0x2E b ≡ true = is_inside 0xC2 0x2E b left.1 (omega (arith, left.2)) in
    let yes2 : is_in 0xC2 0x1E b ≡ true = is_inside 0xC2 0x1E b left.1 (omega (arith, left.2)) in
    let tail = in_range 0x80 0x40 c (tail_must a b c fine (rw yes1 refl)) in
    let low : 0x80 ≤ c = tail.0 in
    let high : c < 0xC0 = tail.1 in
    let b1 : 0xC2 ≤ b = left.1 in
    let b2 : b < 0xE0 = left.2 in
    let none : is_in 0 0x80 c ≡ false = not_above 0 0x80 c low in
    let a1 : a < 0xE0 = omega (arith, left.0) in
    let here : is_in 0x80 0x40 c ≡ true = is_inside 0x80 0x40 c low high in
    let before : is_in 0xE0 0x10 a ≡ false = not_below 0xE0 0x10 a a1 in
    let q = (b - 0xC0) * 64 + (c - 0x80) in
    let is : point_at (at_window a b c) ≡ q =
    rw (here, before) (let e : (((c + (256 - 0x80)) % 256 + b % 64 * 64 % 65536) % 65536 + 0 * 4096 % 65536) % 65536 ≡ q = omega (arith, low, high, b1, b2) in e) in
    let no4 : nat_lt q 0x80 ≡ false = let h : 0x80 ≤ q = omega (arith, low, b1) in grind (arith, nat_tests, h) in
    let few : q < 0x800 = omega (arith, high, b2) in
    let yes5 : nat_lt q 0x800 ≡ true = grind (arith, nat_tests, few) in
    let one : 0xC0 + q / 64 ≡ b = omega (arith, low, high, b1) in
    let two : 0x80 + q % 64 ≡ c = omega (arith, low, high, b1) in
    let wide : IsWide q = (omega (arith, few), (omega (arith, few), λ h. omega (arith, few, h))) in
    inl (record {
      ends = rw (none, yes2) refl;
      unit = ap utf8 is ∙ rw (no4, yes5) (λ i. one i ∷ two i ∷ []);
      wide = subst IsWide (sym is) wide;
      left = (b2, high);
    })

-- the second byte of three
second_of_three : (a b c : ℕ) → Fine a b c → Open 2 a b → Stepped 2 a b c
second_of_three a b c fine left =
    let b1 : 0xE0 ≤ b = left.1 in
    let b2 : b < 0xF0 = left.2 in
    let yes1 : is_in 0xC2 0x2E b ≡ true = is_inside 0xC2 0x2E b (omega (arith, b1)) (omega (arith, b2)) in
    let no1 : is_in 0xC2 0x1E b ≡ false = not_above 0xC2 0x1E b b1 in
    let no2 : is_in 0xE0 0x10 a ≡ false = not_below 0xE0 0x10 a (omega (arith, left.0)) in
    let tail = in_range 0x80 0x40 c (tail_must a b c fine (rw yes1 refl)) in
    let none : is_in 0 0x80 c ≡ false = not_above 0 0x80 c tail.0 in
    let least : b ≡ 0xE0 → 0xA0 ≤ c = λ e. out_of 0 0xA0 c (no_and _ _ fine.least (is_inside 0xE0 1 b (omega (arith, e)) (omega (arith, e)))) (omega arith) in
    let last : b ≡ 0xED → c < 0xA0 = λ e. elim (cases_lt c 0xA0) [
      | inl lt ↦ lt
      | inr ge ↦ absurd (
          let h : 0x100 ≤ c = out_of 0xA0 0x60 c (no_and _ _ fine.last (is_inside 0xED 1 b (omega (arith, e)) (omega (arith, e)))) ge in
          let high : c < 0xC0 = tail.1 in omega (arith, h, high)
          )
    ] in
    inr (record { ends = rw (none, no1, no2) refl; to = 3; left = (b1, b2, tail.0, tail.1, least, last); bytes = refl })

-- the last byte of three
third_byte : (a b c : ℕ) → Fine a b c → Open 3 a b → Stepped 3 a b c
third_byte a b c fine left =
    let a1 : 0xE0 ≤ a = left.0 in
    let a2 : a < 0xF0 = left.1 in
    let b1 : 0x80 ≤ b = left.2 in
    let b2 : b < 0xC0 = left.3 in
    let least : a ≡ 0xE0 → 0xA0 ≤ b = left.4 in
    let last : a ≡ 0xED → b < 0xA0 = left.5 in
    let yes1 : is_in 0xE0 0x10 a ≡ true = is_inside 0xE0 0x10 a a1 (omega (arith, a2)) in
    let no1 : is_in 0xC2 0x2E b ≡ false = not_below 0xC2 0x2E b (omega (arith, b2)) in
    let no2 : is_in 0xC2 0x1E b ≡ false = not_below 0xC2 0x1E b (omega (arith, b2)) in
    let tail = in_range 0x80 0x40 c (tail_must a b c fine (rw (no1, yes1) refl)) in
    let low : 0x80 ≤ c = tail.0 in
    let high : c < 0xC0 = tail.1 in
    let none : is_in 0 0x80 c ≡ false = not_above 0 0x80 c low in
    let here : is_in 0x80 0x40 c ≡ true = is_inside 0x80 0x40 c low high in
    let q = (a - 0xE0) * 4096 + (b - 0x80) * 64 + (c - 0x80) in
    let is : point_at (at_window a b c) ≡ q =
    rw (here, yes1) (let e : (((c + (256 - 0x80)) % 256 + b % 64 * 64 % 65536) % 65536 + a % 16 * 4096 % 65536) % 65536 ≡ q = omega (arith, a1, a2, b1, b2, low, high) in e) in
    let ge : 0x800 ≤ q = elim (cases_lt a 0xE1) [
      | inl lt ↦ let e : a ≡ 0xE0 = omega (arith, a1, lt) in let more : 0xA0 ≤ b = least e in omega (arith, e, more, low)
      | inr more ↦ omega (arith, more)
    ] in
    let few : q < 0x10000 = omega (arith, a2, b2, high) in
    let point : 0xD800 ≤ q → 0xDFFF < q = λ h. elim (cases_lt a 0xED) [
      | inl lt ↦ absurd (omega (arith, lt, a1, b1, b2, high, h))
      | inr more ↦ elim (cases_lt a 0xEE) [
        | inl lt ↦ let e : a ≡ 0xED = omega (arith, more, lt) in let less : b < 0xA0 = last e in absurd (omega (arith, e, less, b1, high, h))
        | inr far ↦ omega (arith, far)
      ]
    ] in
    let no5 : nat_lt q 0x80 ≡ false = grind (arith, nat_tests, ge) in
    let no6 : nat_lt q 0x800 ≡ false = grind (arith, nat_tests, ge) in
    let yes7 : nat_lt q 0x10000 ≡ true = grind (arith, nat_tests, few) in
    let one : 0xE0 + q / 4096 ≡ a = omega (arith, a1, b1, b2, low, high) in
    let two : 0x80 + q / 64 % 64 ≡ b = omega (arith, a1, b1, b2, low, high) in
    let three : 0x80 + q % 64 ≡ c = omega (arith, a1, b1, b2, low, high) in
    let wide : IsWide q = (few, (omega (arith, few), point)) in
    inl (record {
      ends = rw (none, no2, yes1) refl;
      unit = ap utf8 is ∙ rw (no5, no6, yes7) (λ i. one i ∷ two i ∷ three i ∷ []);
      wide = subst IsWide (sym is) wide;
      left = (omega (arith, b2), high);
    })

step : (k a b c : ℕ) → Fine a b c → c < 256 → Open k a b → Stepped k a b c
step zero a b c fine small left = first_byte a b c fine small left
step (suc zero) a b c fine small left = second_of_two a b c fine left
step (suc (suc zero)) a b c fine small left = second_of_three a b c fine left
step (suc (suc (suc zero))) a b c fine small left = third_byte a b c fine left
step (suc (suc (suc (suc k)))) a b c fine small left = absurd left

-- the last two bytes of a text behind two others
abbrev pub last_one : ℕ → ℕ → List ℕ → ℕ
last_one a b [] = b
last_one a b (c ∷ bytes) = last_one b c bytes

abbrev pub last_two : ℕ → ℕ → List ℕ → ℕ
last_two a b [] = a
last_two a b (c ∷ bytes) = last_two b c bytes

-- a text is the units that end in it and what is left open
pub record Cut (u : List ℕ) (a b : ℕ) (bytes : List ℕ) : Type 0 where
  pub to : ℕ
  pub left : Open to (last_two a b bytes) (last_one a b bytes)
  pub same : u ++ bytes ≡ flat_map utf8 (kept ends point_at (windows a b bytes)) ++ open_bytes to (last_two a b bytes) (last_one a b bytes)
  pub wide : AreWide (kept ends point_at (windows a b bytes))

pub cut : (k a b : ℕ) (bytes : List ℕ) → Open k a b → Each1 (Fits w8) bytes → AllByRecursion (λ (w : Window). is_wrong w ≡ false) (windows a b bytes) → Cut (open_bytes k a b) a b bytes
cut k a b [] left each fine = record { to = k; left = left; same = append-nil (open_bytes k a b); wide = tt }
cut k a b (c ∷ bytes) left each fine = go (λ m l. cut m b c bytes l each.1 fine.1) (step k a b c (fine_of a b c fine.0) each.0.fits left)
  where
    go : ((m : ℕ) → Open m b c → Cut (open_bytes m b c) b c bytes) → Stepped k a b c → Cut (open_bytes k a b) a b (c ∷ bytes)
    go more (inl is) =
        let r = more 0 is.left in
        let ending = is.ends in
        record {
          to = r.to;
          left = r.left;
          same = rw ending (
              sym (append_assoc (open_bytes k a b) (c ∷ []) bytes) ∙ ap (λ z. z ++ bytes) (sym is.unit) ∙ ap (λ z. utf8 (point_at (at_window a b c)) ++ z) r.same
              ∙ sym (append_assoc (utf8 (point_at (at_window a b c))) (flat_map utf8 (kept ends point_at (windows b c bytes))) (open_bytes r.to (last_two b c bytes) (last_one b c bytes)))
              );
          wide = rw ending (is.wide, r.wide);
        }
    go more (inr is) =
        let r = more is.to is.left in
        let ending = is.ends in
        record {
          to = r.to;
          left = r.left;
          same = rw ending (sym (append_assoc (open_bytes k a b) (c ∷ []) bytes) ∙ ap (λ z. z ++ bytes) (sym is.bytes) ∙ r.same);
          wide = rw ending r.wide;
        }

-- how many bytes are left open
open_length : (k a b : ℕ) → Open k a b → length (open_bytes k a b) + whole_of a b ≡ 16
open_length zero a b left = let x : nat_le 0xC2 b ≡ false = (let h : b < 0xC2 = omega (arith, left.1) in grind (arith, nat_tests, h)) in let y : nat_le 0xE0 a ≡ false = (let h : a < 0xE0 = left.0 in grind (arith, nat_tests, h)) in rw (x, y) refl
open_length (suc zero) a b left = let x : nat_le 0xC2 b ≡ true = (let h : 0xC2 ≤ b = left.1 in grind (arith, nat_tests, h)) in rw x refl
open_length (suc (suc zero)) a b left = let b1 : 0xE0 ≤ b = left.1 in let x : nat_le 0xC2 b ≡ true = (let h : 0xC2 ≤ b = omega (arith, b1) in grind (arith, nat_tests, h)) in rw x refl
open_length (suc (suc (suc zero))) a b left =
    let x : nat_le 0xC2 b ≡ false = (let h : b < 0xC2 = omega (arith, left.3) in grind (arith, nat_tests, h)) in
    let y : nat_le 0xE0 a ≡ true = (let h : 0xE0 ≤ a = left.0 in grind (arith, nat_tests, h)) in
    rw (x, y) refl
open_length (suc (suc (suc (suc k)))) a b left = absurd left

-- so many bytes of sixteen are the units
pub units_whole : (v : List ℕ) → length v ≡ 16 → Cut [] 0 0 v → take (whole_of (last_two 0 0 v) (last_one 0 0 v)) v ≡ flat_map utf8 (kept ends point_at (windows 0 0 v))
units_whole v long r =
    let w = flat_map utf8 (kept ends point_at (windows 0 0 v)) in
    let rest = open_bytes r.to (last_two 0 0 v) (last_one 0 0 v) in
    let size : length w + length rest ≡ 16 = sym (length-append w rest) ∙ sym (ap length r.same) ∙ long in
    let open_size : length rest + whole_of (last_two 0 0 v) (last_one 0 0 v) ≡ 16 = open_length r.to _ _ r.left in
    ap (take (whole_of (last_two 0 0 v) (last_one 0 0 v))) r.same ∙ take_at w rest (whole_of (last_two 0 0 v) (last_one 0 0 v)) (omega (arith, size, open_size))

-- where no byte is wrong
pub none_wrong : (t : Window → Bool) (ws : List Window) → mask_l (map t ws) ≡ 0 → AllByRecursion (λ w. t w ≡ false) ws
none_wrong t [] none = tt
none_wrong t (w ∷ ws) none = go (none_wrong t ws) (t w) refl
  where
    go : (mask_l (map t ws) ≡ 0 → AllByRecursion (λ w. t w ≡ false) ws) → (b : Bool) → t w ≡ b → AllByRecursion (λ w. t w ≡ false) (w ∷ ws)
    go rest true e = absurd (let h : 1 + 2 * mask_l (map t ws) ≡ 0 = rw e at none in omega arith)
    go rest false e =
        let h : 0 + 2 * mask_l (map t ws) ≡ 0 = rw e at none in
        (e, rest (omega arith))
