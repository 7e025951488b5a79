use Rattle.std.proofs.Common.{◌≡◌, ◌≤◌, ℕ, Bool, true, false, List, [], ◌∷◌, map, length, take, get_or, refl, sym, ap, ◌∙◌, subst, arith, w8}
use Rattle.std.specs.List.{flat_map}
use Rattle.std.specs.Prelude.{nat_le, if◌then◌else◌}
use Rattle.std.proofs.lemmas.List.{take-take}
use Rattle.std.proofs.lemmas.Simd.{chunk-fits, length-chunk, get_or-chunk}
use lib.Lanes.{mask_l}
use Rattle.step_unicode.specs.Utf8.{utf8}
use Rattle.wide_lanes.specs.Wide.{AreWide}
use Rattle.wide_lanes.specs.Ends.{windows, AreBytes, is_wrong, ends, point_at, picked, whole_of}
use Rattle.wide_lanes.proofs.WindowLemmas.{bytes_shown, picked_are, kept, spelled}
use Rattle.wide_lanes.proofs.EndsLemmas.{Cut, cut, units_whole, none_wrong, last_one, last_two}
use Rattle.wide_lanes.proofs.ends.load_ends.Goals as goal

-- the first sixteen bytes
abbrev front : goal.After-whole → List ℕ
front c = take 16 c.args.input.now

lasts : (v : List ℕ) → length v ≡ 16 → (last_two 0 0 v ≡ get_or v 14 0) × (last_one 0 0 v ≡ get_or v 15 0)
lasts = spelled (λ v. (last_two 0 0 v ≡ get_or v 14 0) × (last_one 0 0 v ≡ get_or v 15 0)) 16 (λ f. (refl, refl))

record Read (c : goal.After-whole) : Type 0 where
  long : length (front c) ≡ 16
  kept : picked c.set_bits-2.result c.points.result ≡ kept ends point_at (windows 0 0 (front c))
  cut : Cut [] 0 0 (front c)

read : (c : goal.After-whole) → Read c
read c =
    let x = c.args.input.now in
    let v = front c in
    let ws = windows 0 0 v in
    let long : length v ≡ 16 = length-chunk 0 16 x c.requires in
    let one : c.before-one.result ≡ 0 ∷ take 15 v = c.before-one.ensures.value in
    let two : c.before-two.result ≡ 0 ∷ take 15 (0 ∷ take 15 v) = c.before-two.ensures.value ∙ ap (λ z. 0 ∷ take 15 z) one in
    let plain = bytes_shown v long in
    let are : AreBytes ws c.before-two.result c.before-one.result v = record { two = two ∙ plain.two; one = one ∙ plain.one; here = plain.here } in
    let bad : c.set_bits.result ≡ mask_l (map is_wrong ws) = c.set_bits.ensures ws is_wrong (c.wrong.ensures ws are) in
    let none : c.set_bits.result ≡ 0 = c.if-set_bits-ne0.false in
    record {
      long = long;
      kept = ap (λ m. picked m c.points.result) (c.set_bits-2.ensures ws ends (c.ended.ensures ws are)) ∙ ap (picked (mask_l (map ends ws))) (c.points.ensures ws are) ∙ picked_are ends point_at ws;
      cut = cut 0 0 0 v (omega arith, omega arith) (chunk-fits w8 0 16 x c.type_inv.input) (none_wrong is_wrong ws (sym bad ∙ none));
    }

whole_few : (a b : ℕ) → whole_of a b ≤ 16
whole_few a b = go (nat_le 0xC2 b) (nat_le 0xE0 a)
  where
    go : (s t : Bool) → (if s then 15 else if t then 14 else 16) ≤ 16
    go true t = omega arith
    go false true = omega arith
    go false false = omega arith

pub returns-clause-points : goal.returns-clause-points
returns-clause-points c = let r = read c in subst AreWide (sym r.kept) r.cut.wide

pub returns-clause-value : goal.returns-clause-value
returns-clause-value c =
    let r = read c in
    let x = c.args.input.now in
    let v = front c in
    let ends_there = lasts v r.long in
    let two : last_two 0 0 v ≡ get_or x 14 0 = ends_there.0 ∙ get_or-chunk 0 16 x 14 0 (omega arith) in
    let one : last_one 0 0 v ≡ get_or x 15 0 = ends_there.1 ∙ get_or-chunk 0 16 x 15 0 (omega arith) in
    let size : whole_of (last_two 0 0 v) (last_one 0 0 v) ≡ c.whole.result = ap (λ a. whole_of a (last_one 0 0 v)) two ∙ ap (whole_of (get_or x 14 0)) one ∙ sym c.whole.ensures in
    let few : c.whole.result ≤ 16 = subst (λ n. n ≤ 16) (sym c.whole.ensures) (whole_few (get_or x 14 0) (get_or x 15 0)) in
    sym (take-take c.whole.result 16 x few) ∙ ap (λ k. take k v) (sym size) ∙ units_whole v r.long r.cut ∙ ap (flat_map utf8) (sym r.kept)
