-- Points written in UTF-8 one behind the other, four bytes each.
use Rattle.std.proofs.Common.{◌≡◌, ℕ, zero, suc, ◌+◌, ◌-◌, ◌*◌, ◌/◌, ◌%◌, ◌≤◌, ◌<◌, true, false, List, [], ◌∷◌, ◌++◌, map, length, take, drop, get_or, refl, sym, ap, ◌∙◌, arith, inl, inr, append_assoc, length-append}
use Rattle.std.specs.Prelude.{nat_lt}
use Rattle.std.specs.List.{flat_map}
use Rattle.std.proofs.lemmas.Bool.Decides.{nat_tests}
use Rattle.std.proofs.lemmas.Bool.{cases_lt}
use Rattle.std.proofs.lemmas.List.{append-nil, drop-drop, take-take, take_at, drop_at, take-append-drop, length-take-le}
use Rattle.step_unicode.specs.Utf8.{utf8}
use Rattle.wide_lanes.specs.Wide.{AreWide}
use Rattle.wide_lanes.specs.Words.{count_of, last_byte, front_two, front_three, front, slot}

-- how four bytes begin with a point's, and how many those are
pub record IsSlot (p : ℕ) : Type 0 where
  pub bytes : take (count_of p) (slot p) ≡ utf8 p
  pub count : length (utf8 p) ≡ count_of p
  pub some : 1 ≤ count_of p
  pub few : count_of p ≤ 3

pub slot_of : (p : ℕ) → p < 65536 → IsSlot p
slot_of p small = elim (cases_lt p 128) [
  | inl lt ↦ one lt
  | inr ge ↦ elim (cases_lt p 2048) [
    | inl lt ↦ two ge lt
    | inr more ↦ three more
  ]
]
  where
    one : p < 128 → IsSlot p
    one lt =
        let yes1 : nat_lt p 128 ≡ true = grind (arith, nat_tests, lt) in
        let low : p % 256 ≡ p = omega (arith, lt) in
        record {
          bytes = rw yes1 (ap (λ b. b ∷ []) low);
          count = rw yes1 refl;
          some = rw yes1 (omega arith);
          few = rw yes1 (omega arith);
        }

    two : 128 ≤ p → p < 2048 → IsSlot p
    two ge lt =
        let no1 : nat_lt p 128 ≡ false = grind (arith, nat_tests, ge) in
        let yes2 : nat_lt p 2048 ≡ true = grind (arith, nat_tests, lt) in
        let low : front_two p % 256 ≡ 0xC0 + p / 64 = omega (arith, lt) in
        let high : front_two p / 256 ≡ 0x80 + p % 64 = omega (arith, lt) in
        record {
          bytes = rw (no1, yes2) (ap (λ b. b ∷ (front_two p / 256) ∷ []) low ∙ ap (λ b. (0xC0 + p / 64) ∷ b ∷ []) high);
          count = rw (no1, yes2) refl;
          some = rw (no1, yes2) (omega arith);
          few = rw (no1, yes2) (omega arith);
        }

    three : 2048 ≤ p → IsSlot p
    three ge =
        let no1 : nat_lt p 128 ≡ false = grind (arith, nat_tests, ge) in
        let no2 : nat_lt p 2048 ≡ false = grind (arith, nat_tests, ge) in
        let yes3 : nat_lt p 65536 ≡ true = grind (arith, nat_tests, small) in
        let low : front_three p % 256 ≡ 0xE0 + p / 4096 = omega (arith, small) in
        let high : front_three p / 256 ≡ 0x80 + p / 64 % 64 = omega (arith, small) in
        let last : last_byte p % 256 ≡ 0x80 + p % 64 = omega (arith, small) in
        record {
          bytes = rw (no1, no2, yes3) (
              ap (λ b. b ∷ (front_three p / 256) ∷ (last_byte p % 256) ∷ []) low
              ∙ ap (λ b. (0xE0 + p / 4096) ∷ b ∷ (last_byte p % 256) ∷ []) high
              ∙ ap (λ b. (0xE0 + p / 4096) ∷ (0x80 + p / 64 % 64) ∷ b ∷ []) last
              );
          count = rw (no1, no2, yes3) refl;
          some = rw (no1, no2) (omega arith);
          few = rw (no1, no2) (omega arith);
        }

-- the point at a place, and what stands there of sizes, bytes and slots
pub record Next (q : List ℕ) (i : ℕ) : Type 0 where
  pub point : ℕ
  pub slotted : IsSlot point
  pub size : get_or (map count_of q) i 0 ≡ count_of point
  pub grown : flat_map utf8 (take (suc i) q) ≡ flat_map utf8 (take i q) ++ utf8 point
  pub four : take 4 (drop (4 * i) (flat_map slot q)) ≡ slot point

pub next_of : (q : List ℕ) (i : ℕ) → AreWide q → i < length q → Next q i
next_of [] i wide lt = absurd (omega arith)
next_of (p ∷ q) zero wide lt = record {
  point = p;
  slotted = slot_of p wide.0.0;
  size = refl;
  grown = append-nil (utf8 p);
  four = refl;
}
next_of (p ∷ q) (suc i) wide lt =
    let r = next_of q i wide.1 (omega arith) in
    record {
      point = r.point;
      slotted = r.slotted;
      size = r.size;
      grown = ap (λ z. utf8 p ++ z) r.grown ∙ sym (append_assoc (utf8 p) (flat_map utf8 (take i q)) (utf8 r.point));
      four = ap (λ k. take 4 (drop k (slot p ++ flat_map slot q))) (let e : 4 * suc i ≡ suc (suc (suc (suc (4 * i)))) = omega arith in e) ∙ r.four;
    }

-- the front of two lists behind the first
take_past : (a b : List ℕ) (n : ℕ) → take (length a + n) (a ++ b) ≡ a ++ take n b
take_past [] b n = ap (λ k. take k b) (let e : 0 + n ≡ n = omega arith in e)
take_past (x ∷ a) b n =
    ap (λ k. take k (x ∷ (a ++ b))) (let e : suc (length a) + n ≡ suc (length a + n) = omega arith in e) ∙ ap (λ z. x ∷ z) (take_past a b n)

-- so many bytes of four are put: what counts stands behind w, and up to three more were changed
pub record IsLaid (old new : List ℕ) (at end : ℕ) (w : List ℕ) : Type 0 where
  pub place : end ≡ at + length w
  pub front : take end new ≡ take at old ++ w
  pub rest : drop (end + 3) new ≡ drop (end + 3) old

pub laid_none : (old : List ℕ) (at : ℕ) → IsLaid old old at at []
laid_none old at = record { place = omega arith; front = sym (append-nil (take at old)); rest = refl }

pub laid_more : (old mid new w : List ℕ) (at end p : ℕ) → IsSlot p → end + 4 ≤ length mid → IsLaid old mid at end w →
    take (end + 4) new ≡ take end mid ++ slot p → drop (end + 4) new ≡ drop (end + 4) mid → IsLaid old new at (end + count_of p) (w ++ utf8 p)
laid_more old mid new w at end p is room laid front rest =
    let c = count_of p in
    let some : 1 ≤ c = is.some in
    let few : c ≤ 3 = is.few in
    let size : length (take end mid) ≡ end = length-take-le end mid (omega (arith, room)) in
    let fits : end + c ≤ end + 4 = omega (arith, few) in
    let there : end + 4 + (c - 1) ≡ end + c + 3 = omega (arith, some) in
    let here : end + 3 + c ≡ end + c + 3 = omega arith in
    record {
      place = omega (arith, laid.place, length-append w (utf8 p), is.count);
      front = sym (take-take (end + c) (end + 4) new fits) ∙ ap (take (end + c)) front
          ∙ ap (λ k. take (k + c) (take end mid ++ slot p)) (sym size) ∙ take_past (take end mid) (slot p) c
          ∙ ap (λ z. take end mid ++ z) is.bytes ∙ ap (λ z. z ++ utf8 p) laid.front ∙ append_assoc (take at old) w (utf8 p);
      rest = ap (λ k. drop k new) (sym there) ∙ sym (drop-drop (c - 1) (end + 4) new) ∙ ap (drop (c - 1)) rest ∙ drop-drop (c - 1) (end + 4) mid
          ∙ ap (λ k. drop k mid) (there ∙ sym here) ∙ sym (drop-drop c (end + 3) mid) ∙ ap (drop c) laid.rest ∙ drop-drop c (end + 3) old ∙ ap (λ k. drop k old) here;
    }

-- what stood behind is put back
pub put_back : (old mid new kept w : List ℕ) (at end : ℕ) → end + 4 ≤ length mid → IsLaid old mid at end w → kept ≡ take 4 (drop end old) →
    take (end + 4) new ≡ take end mid ++ kept → drop (end + 4) new ≡ drop (end + 4) mid → (take end new ≡ take at old ++ w) × (drop end new ≡ drop end old)
put_back old mid new kept w at end room laid was front rest =
    let size : length (take end mid) ≡ end = length-take-le end mid (omega (arith, room)) in
    let far : drop (end + 4) mid ≡ drop 4 (drop end old) =
    ap (λ k. drop k mid) (let e : end + 4 ≡ end + 3 + 1 = omega arith in e) ∙ sym (drop-drop 1 (end + 3) mid) ∙ ap (drop 1) laid.rest
    ∙ drop-drop 1 (end + 3) old ∙ ap (λ k. drop k old) (let e : end + 3 + 1 ≡ end + 4 = omega arith in e) ∙ sym (drop-drop 4 end old) in
    let whole : new ≡ take end mid ++ (kept ++ drop (end + 4) mid) =
    sym (take-append-drop (end + 4) new) ∙ ap (λ z. z ++ drop (end + 4) new) front ∙ ap (λ z. (take end mid ++ kept) ++ z) rest
    ∙ append_assoc (take end mid) kept (drop (end + 4) mid) in (
      ap (take end) whole ∙ take_at (take end mid) (kept ++ drop (end + 4) mid) end size ∙ laid.front,
      ap (drop end) whole ∙ drop_at (take end mid) (kept ++ drop (end + 4) mid) end size ∙ ap (λ z. z ++ drop (end + 4) mid) was
          ∙ ap (λ z. take 4 (drop end old) ++ z) far ∙ take-append-drop 4 (drop end old),
    )
