-- Points read from UTF-8: what the tests of lanes tell.
use Rattle.std.proofs.Common.{◌≡◌, ℕ, ◌+◌, ◌-◌, ◌*◌, ◌%◌, ◌^◌, ◌≤◌, ◌<◌, Bool, true, false, not, cond, leb, eqb, eqb-true, List, [], ◌∷◌, ◌++◌, map, length, take, drop, get_or, refl, sym, ap, ◌∙◌, subst, arith, inl, inr, append_assoc}
use Rattle.std.specs.Prelude.{nat_lt}
use Rattle.std.specs.List.{AllByRecursion, flat_map}
use Rattle.std.proofs.Math.Seq.{take-add}
use Rattle.std.proofs.lemmas.Bool.{cases_lt}
use Rattle.std.proofs.lemmas.Bool.Decides.{nat_tests}
use Rattle.std.proofs.lemmas.List.{drop-drop, drop_at, take-take, take-append-le, length-take-le, length-drop}
use Rattle.std.proofs.lemmas.Simd.{tops_compared, mask_l-mod, length-zip2}
use lib.Lanes.{zip2, mask_l, top, sel_l}
use mir.Syntax.{Width}
use mir.Val.{bits, hbits}
use Rattle.step_unicode.specs.Utf8.{utf8}
use Rattle.wide_lanes.specs.Wide.{IsWide, AreWide}
use Rattle.wide_lanes.specs.Words.{count_of, slot, keep}
use Rattle.wide_lanes.specs.Read.{shifted, Follow, Shows}
use Rattle.wide_lanes.proofs.Utf8Lemmas.{slot_of}

abbrev pub differ : ℕ → ℕ → Bool
differ x y = not (eqb x y)

same_lanes : (a b : List ℕ) → length a ≡ length b → mask_l (zip2 differ a b) ≡ 0 → a ≡ b
same_lanes [] [] long none = refl
same_lanes [] (y ∷ b) long none = absurd (omega arith)
same_lanes (x ∷ a) [] long none = absurd (omega arith)
same_lanes (x ∷ a) (y ∷ b) long none = go (same_lanes a b) (eqb x y) refl
  where
    go : (length a ≡ length b → mask_l (zip2 differ a b) ≡ 0 → a ≡ b) → (c : Bool) → eqb x y ≡ c → x ∷ a ≡ y ∷ b
    go rest true e =
        let h : 0 + 2 * mask_l (zip2 differ a b) ≡ 0 = rw e at none in
        let head : x ≡ y = eqb-true x y e in
        let tail : a ≡ b = rest (omega arith) (omega arith) in
        ap (λ z. z ∷ a) head ∙ ap (λ z. y ∷ z) tail
    go rest false e = absurd (let h : 1 + 2 * mask_l (zip2 differ a b) ≡ 0 = rw e at none in omega arith)

-- `simd_ne` sets no bit
pub none_differ : (w : Width) (n : ℕ) → n ≤ 64 → (a b : List ℕ) → length a ≡ n → length b ≡ n →
    mask_l (map (top (hbits w)) (zip2 (λ x y. cond (differ x y) (2 ^ bits w - 1) 0) a b)) % 2 ^ 64 ≡ 0 → a ≡ b
none_differ w n few a b long other none =
    let same : mask_l (map (top (hbits w)) (zip2 (λ x y. cond (differ x y) (2 ^ bits w - 1) 0) a b)) % 2 ^ 64 ≡ mask_l (zip2 differ a b) =
    ap (λ ms. mask_l ms % 2 ^ 64) (tops_compared w differ a b)
    ∙ mask_l-mod (zip2 differ a b) 64 (omega (arith, few, long, length-zip2 differ a b (long ∙ sym other))) in
    same_lanes a b (long ∙ sym other) (sym same ∙ none)

head_same : (x y : ℕ) (a b : List ℕ) → x ∷ a ≡ y ∷ b → x ≡ y
head_same x y a b e = ap (λ l. get_or l 0 0) e

tail_same : (x y : ℕ) (a b : List ℕ) → x ∷ a ≡ y ∷ b → a ≡ b
tail_same x y a b e = ap (λ l. drop 1 l) e

-- a place as far behind another as a point has bytes
one_on : (s e c : ℕ) → s ≤ 64 → e ≤ 64 → c ≤ 3 → (e + (2 ^ 16 - s)) % 2 ^ 16 ≡ c → e ≡ s + c
one_on s e c small next few same = let h : (e + (65536 - s)) % 65536 ≡ c = same in omega (arith, small, next, few, h)

-- where the differences of places are the sizes of points, they follow each other
pub follow_on : (s : ℕ) (ends q : List ℕ) → s ≤ 64 → AllByRecursion (λ e. e ≤ 64) ends → AreWide q →
    zip2 (λ a b. (a + (2 ^ 16 - b)) % 2 ^ 16) ends (shifted s ends) ≡ map count_of q → Follow s ends q
follow_on s [] [] small all wide same = tt
follow_on s [] (p ∷ q) small all wide same = absurd (let h : 0 ≡ length (map count_of (p ∷ q)) = ap length same in omega (arith, h))
follow_on s (e ∷ ends) [] small all wide same = absurd (let h : length (zip2 (λ a b. (a + (2 ^ 16 - b)) % 2 ^ 16) (e ∷ ends) (shifted s (e ∷ ends))) ≡ 0 = ap length same in omega (arith, h))
follow_on s (e ∷ ends) (p ∷ q) small all wide same =
    let is = slot_of p wide.0.0 in (
      one_on s e (count_of p) small all.0 is.few (head_same _ _ (zip2 (λ a b. (a + (2 ^ 16 - b)) % 2 ^ 16) ends (shifted e ends)) (map count_of q) same),
      follow_on e ends q all.0 all.1 wide.1 (tail_same _ _ (zip2 (λ a b. (a + (2 ^ 16 - b)) % 2 ^ 16) ends (shifted e ends)) (map count_of q) same),
    )

-- the lanes that are kept
abbrev pub kept : List ℕ → List Bool
kept v = map (λ x. leb 128 x) v

-- four lanes, of which those that are kept stay as they were
pub show_one : (p a b c d : ℕ) → IsWide p → (rest made : List ℕ) (ms : List Bool) →
    sel_l (kept (keep p) ++ ms) (a ∷ b ∷ c ∷ d ∷ rest) (slot p ++ made) ≡ slot p ++ made →
    (take (count_of p) (a ∷ b ∷ c ∷ d ∷ []) ≡ take (count_of p) (slot p)) × (sel_l ms rest made ≡ made)
show_one p a b c d wide rest made ms same = elim (cases_lt p 128) [
  | inl lt ↦ one lt
  | inr ge ↦ elim (cases_lt p 2048) [
    | inl lt ↦ two ge lt
    | inr more ↦ three ge more
  ]
]
  where
    one : p < 128 → (take (count_of p) (a ∷ b ∷ c ∷ d ∷ []) ≡ take (count_of p) (slot p)) × (sel_l ms rest made ≡ made)
    one lt =
        let yes1 : nat_lt p 128 ≡ true = grind (arith, nat_tests, lt) in
        let all = rw yes1 at same in
        rw yes1 (ap (λ l. get_or l 0 0 ∷ []) all, ap (drop 4) all)

    two : 128 ≤ p → p < 2048 → (take (count_of p) (a ∷ b ∷ c ∷ d ∷ []) ≡ take (count_of p) (slot p)) × (sel_l ms rest made ≡ made)
    two ge lt =
        let no1 : nat_lt p 128 ≡ false = grind (arith, nat_tests, ge) in
        let yes2 : nat_lt p 2048 ≡ true = grind (arith, nat_tests, lt) in
        let all = rw (no1, yes2) at same in
        rw (no1, yes2) (ap (λ l. get_or l 0 0 ∷ get_or l 1 0 ∷ []) all, ap (drop 4) all)

    three : 128 ≤ p → 2048 ≤ p → (take (count_of p) (a ∷ b ∷ c ∷ d ∷ []) ≡ take (count_of p) (slot p)) × (sel_l ms rest made ≡ made)
    three ge more =
        let no1 : nat_lt p 128 ≡ false = grind (arith, nat_tests, ge) in
        let no2 : nat_lt p 2048 ≡ false = grind (arith, nat_tests, more) in
        let all = rw (no1, no2) at same in
        rw (no1, no2) (ap (λ l. get_or l 0 0 ∷ get_or l 1 0 ∷ get_or l 2 0 ∷ []) all, ap (drop 4) all)

-- where the lanes that are kept are those of the slots, each four bytes begin with a point's
pub shown : (q v : List ℕ) → AreWide q → length v ≡ 4 * length q → sel_l (kept (flat_map keep q)) v (flat_map slot q) ≡ flat_map slot q → Shows q v
shown [] v wide long same = tt
shown (p ∷ q) [] wide long same = absurd (omega arith)
shown (p ∷ q) (a ∷ []) wide long same = absurd (omega arith)
shown (p ∷ q) (a ∷ b ∷ []) wide long same = absurd (omega arith)
shown (p ∷ q) (a ∷ b ∷ c ∷ []) wide long same = absurd (omega arith)
shown (p ∷ q) (a ∷ b ∷ c ∷ d ∷ v) wide long same =
    let is = slot_of p wide.0.0 in
    let few : count_of p ≤ 3 = is.few in
    let two = show_one p a b c d wide.0 v (flat_map slot q) (kept (flat_map keep q)) same in
    (take-append-le (count_of p) (a ∷ b ∷ c ∷ d ∷ []) v (omega (arith, few)) ∙ two.0 ∙ is.bytes, shown q v wide.1 (omega arith) two.1)

-- where the last one ends
abbrev pub last_end : ℕ → List ℕ → ℕ
last_end s [] = s
last_end s (e ∷ ends) = last_end e ends

-- four bytes at each of the places
abbrev pub gathered : List ℕ → List ℕ → List ℕ
gathered x [] = []
gathered x (s ∷ starts) = take 4 (drop s x) ++ gathered x starts

-- the bytes from s up to the last end are the UTF-8 of the points
pub record IsRead (x : List ℕ) (s : ℕ) (ends q : List ℕ) : Type 0 where
  pub size : ℕ
  pub end : last_end s ends ≡ s + size
  pub bytes : take size (drop s x) ≡ flat_map utf8 q

pub read_on : (x : List ℕ) (s : ℕ) (ends q : List ℕ) → 68 ≤ length x → s ≤ 64 → AllByRecursion (λ e. e ≤ 64) ends → AreWide q →
    Follow s ends q → Shows q (gathered x (shifted s ends)) → IsRead x s ends q
read_on x s [] [] room small all wide follow shows = record { size = 0; end = omega arith; bytes = refl }
read_on x s [] (p ∷ q) room small all wide follow shows = absurd follow
read_on x s (e ∷ ends) [] room small all wide follow shows = absurd follow
read_on x s (e ∷ ends) (p ∷ q) room small all wide follow shows =
    let c = count_of p in
    let is = slot_of p wide.0.0 in
    let few : c ≤ 3 = is.few in
    let here : e ≡ s + c = follow.0 in
    let four = take 4 (drop s x) in
    let behind = gathered x (shifted e ends) in
    let long : length four ≡ 4 = length-take-le 4 (drop s x) (omega (arith, room, small, length-drop s x)) in
    let next : Shows q behind = subst (λ v. Shows q v) (drop_at four behind 4 long) shows.1 in
    let r = read_on x e ends q room all.0 all.1 wide.1 follow.1 next in
    let end : last_end e ends ≡ e + r.size = r.end in
    let unit : take c (drop s x) ≡ utf8 p =
    sym (take-take c 4 (drop s x) (omega (arith, few))) ∙ sym (take-append-le c four behind (omega (arith, few, long))) ∙ shows.0 in
    let rest : drop c (drop s x) ≡ drop e x = drop-drop c s x ∙ ap (λ k. drop k x) (sym here) in
    record {
      size = c + r.size;
      end = omega (arith, end, here);
      bytes = take-add c r.size (drop s x) ∙ ap (λ z. z ++ take r.size (drop c (drop s x))) unit ∙ ap (λ z. utf8 p ++ take r.size z) rest ∙ ap (λ z. utf8 p ++ z) r.bytes;
    }

-- four lists, joined two and two
pub joined : (a b c d r : List ℕ) → ((a ++ b) ++ (c ++ d)) ++ r ≡ a ++ (b ++ (c ++ (d ++ r)))
joined a b c d r =
    append_assoc (a ++ b) (c ++ d) r ∙ append_assoc a b ((c ++ d) ++ r) ∙ ap (λ z. a ++ (b ++ z)) (append_assoc c d r)
