-- Words put into pages.
use Rattle.std.proofs.Common.{◌≡◌, ◌≢◌, ℕ, zero, suc, ◌+◌, ◌*◌, ◌-◌, ◌^◌, ◌<◌, ◌≤◌, Bool, true, false, not, eqb, ltb, ◌||◌, List, [], ◌∷◌, ◌++◌, length, get_or, take, set, Option, Some, None, refl, sym, ap, ◌∙◌, subst, inl, inr, arith, length-append, length-set}
use Rattle.std.proofs.Math.Seq.{take-length}
use Rattle.std.specs.Option.{option_or}
use Rattle.std.specs.Str.{bytes_eq}
use Rattle.std.proofs.lemmas.List.{take-set-le, get_or-set_same, get_or-set_other, length-take-le, take_more, get_or-take, get_or_past, length-take}
use Rattle.std.proofs.lemmas.List.Folds.{list_any_at}
use Rattle.std.proofs.lemmas.Bool.{cases_Bool, cases_eq, eq-eqb, ne_eqb, ltb-true, ltb-false}
use Rattle.trie.proofs.Stages.{Refers}
use Rattle.trie.specs.Fronts.{AreShort, word_at, is_proper_prefix, is_front, level, fronts, pages}
use Rattle.trie.specs.Stages.{ref_cell, IsStage, put_with, put_run, Holds, NoneGoesOn, word_behind, some_behind, leads_on}
use Rattle.trie.specs.Trie.{place_of, cell, cell_word}
use Rattle.trie.specs.Words.{front_page, word_in}
use Rattle.trie.specs.Leaf.{Leaf}
use Rattle.trie.proofs.Places.{some_none, bytes_same, bytes_differ, bytes_equal}
use Rattle.trie.proofs.Walks.{AreBytes}
use Rattle.trie.proofs.Fronts.{placed, true_false}
use Rattle.trie.proofs.Distinct.{distinct_at, distinct_fronts, same_front}
use Rattle.trie.proofs.Stages.{page_of}
use Rattle.trie.proofs.Marking.{front_goes, take_bytes}
use Rattle.trie.proofs.Numbers.{fronts_grow}
use Rattle.trie.proofs.RunLaws.{length-raised, take-raised, get_or-raised, get_or-raised-front}
use Rattle.trie.specs.Runs.{raised, later}

-- one leaf more at the end
word_same : (ls : List Leaf) (l : Leaf) (q : List ℕ) → l.path ≡ q →
    word_at (ls ++ l ∷ []) q ≡ option_or (word_at ls q) (Some l.word)
word_same [] l q e = rw (ap (λ v. bytes_eq l.path v) (sym e) ∙ bytes_same l.path) refl
word_same (k ∷ ls) l q e =
    elim (cases_Bool (bytes_eq k.path q)) [ inl t ↦ rw t refl | inr f ↦ rw f (word_same ls l q e) ]

word_other : (ls : List Leaf) (l : Leaf) (q : List ℕ) → l.path ≢ q → word_at (ls ++ l ∷ []) q ≡ word_at ls q
word_other [] l q n = rw (bytes_differ l.path q n) refl
word_other (k ∷ ls) l q n =
    elim (cases_Bool (bytes_eq k.path q)) [ inl t ↦ rw t refl | inr f ↦ rw f (word_other ls l q n) ]

not_zero : (n : ℕ) → eqb (2 ^ 62 + n) 0 ≡ false
not_zero n = ne_eqb (2 ^ 62 + n) 0 (λ e. omega (arith, e))

put_full : (ws : List ℕ) (page byte w v : ℕ) → word_in ws page byte ≡ 2 ^ 62 + v →
    put_with ws (Some page) byte w ≡ ws
put_full ws page byte w v e = rw (ap (λ x. eqb x 0) e ∙ not_zero v) refl

put_empty : (ws : List ℕ) (page byte w : ℕ) → word_in ws page byte ≡ 0 →
    put_with ws (Some page) byte w ≡ set ws (256 * page + byte) w
put_empty ws page byte w e = rw (eq-eqb (word_in ws page byte) 0 e) refl

-- one more word
put_step : (o place : Option ℕ) (ws : List ℕ) (first page byte w : ℕ) → 256 * page + byte < length ws →
    place ≡ None → word_in ws page byte ≡ cell_word first o place
    → word_in (put_with ws (Some page) byte (2 ^ 62 + w)) page byte ≡ cell_word first
    (option_or o (Some w)) place
put_step (Some v) place ws first page byte w room none e =
    ap (λ x. word_in x page byte) (put_full ws page byte (2 ^ 62 + w) v e) ∙ e
put_step None place ws first page byte w room none e =
    ap (λ x. word_in x page byte) (put_empty ws page byte (2 ^ 62 + w) (e ∙ ap (cell_word first None) none))
    ∙ get_or-set_same ws (256 * page + byte) (2 ^ 62 + w) 0 room

put_other : (ws : List ℕ) (page byte w k b : ℕ) → 256 * k + b ≢ 256 * page + byte →
    word_in (put_with ws (Some page) byte w) k b ≡ word_in ws k b
put_other ws page byte w k b n = elim (cases_Bool (eqb (word_in ws page byte) 0)) [
  | inl t ↦ rw t (get_or-set_other ws (256 * page + byte) (256 * k + b) w 0 n)
  | inr f ↦ rw f refl
]

-- a word put into a page changes no length
pub length-put : (ws : List ℕ) (o : Option ℕ) (byte w : ℕ) → length (put_with ws o byte w) ≡ length ws
length-put ws None byte w = refl
length-put ws (Some page) byte w = elim (cases_Bool (eqb (word_in ws page byte) 0)) [
  | inl t ↦ rw t (length-set ws (256 * page + byte) w)
  | inr f ↦ rw f refl
]

-- with the words of some leaves, pages still refer to each other
word_begins : (leaves : List Leaf) (i : ℕ) → NoneGoesOn leaves → (q : List ℕ) → is_front leaves q ≡ true →
    word_at (take i leaves) q ≡ None
word_begins leaves i apart q t =
    none leaves (take i leaves) q t
    (λ j d lt. let e = get_or-take i leaves j d (omega (arith, length-take i leaves)) in
    ap (λ (l : Leaf). is_front leaves l.path) e ∙ apart j d (omega (arith, length-take i leaves)))
  where
    none : (leaves ls : List Leaf) (q : List ℕ) → is_front leaves q ≡ true →
        ((j : ℕ) (d : Leaf) → j < length ls → is_front leaves (get_or ls j d).path ≡ false) →
        word_at ls q ≡ None
    none leaves [] q t each = refl
    none leaves (l ∷ ls) q t each = elim (cases_Bool (bytes_eq l.path q)) [
      | inl same ↦ absurd (true_false
          (sym t ∙ ap (is_front leaves) (sym (bytes_equal l.path q same)) ∙ each 0 l (omega arith)))
      | inr f ↦ rw f (none leaves ls q t (λ j d lt. each (suc j) d (omega arith)))
    ]

fill_refers : (leaves : List Leaf) (first i : ℕ) (ws : List ℕ) → NoneGoesOn leaves →
    Holds (take i leaves) leaves first ws → Refers leaves first 3 ws
fill_refers leaves first i ws apart h = record {
  few = h.few;
  words = λ k b lt small t. h.words k b (omega (arith, fronts_grow leaves 3 4 (omega arith))) small
      ∙ ap (λ o. cell_word first o (place_of (get_or (pages leaves) k [] ++ b ∷ []) (pages leaves)))
      (word_begins leaves i apart (get_or (pages leaves) k [] ++ b ∷ []) t);
}

-- there is a page, that of the empty front
pub some_page : (leaves : List Leaf) → 0 < length (pages leaves)
some_page leaves = omega (
  arith,
  length-append (fronts leaves 3) (level leaves 3),
  length-append (fronts leaves 2)
      (level leaves 2),
  length-append (fronts leaves 1) (level leaves 1),
)

-- the pages before the first one stay as they are
pub fill_keeps : (leaves : List Leaf) (first i m : ℕ) (d : Leaf) (ws : List ℕ) → AreShort 4 leaves →
    NoneGoesOn leaves → i < length leaves → AreBytes (get_or leaves i d).path →
    length (get_or leaves i d).path ≡ m + 1 → m ≤ 3
    → Holds (take i leaves) leaves first ws
    → take (256 * first) (put_with ws (front_page ws first (take m (get_or leaves i d).path))
    (get_or (get_or leaves i d).path m 0) (2 ^ 62 + (get_or leaves i d).word)) ≡ take (256 * first) ws
fill_keeps leaves first i m d ws short apart lt ok len few h =
    let l = get_or leaves i d in
    let q = take m l.path in
    let byte = get_or l.path m 0 in
    let w = 2 ^ 62 + l.word in
    let goes : is_front leaves q ≡ true =
    list_any_at (λ x. is_proper_prefix q x.path) leaves i d lt
    (front_goes m l.path (omega (arith, len))) in
    let v = page_of leaves first 3 ws (omega arith) short (fill_refers leaves first i ws apart h) q 0
    (some_page leaves) (take_bytes m l.path ok)
    (omega (arith, length-take-le m l.path (omega (arith, len)))) goes in
    let page : front_page ws first q ≡ Some (first + v.0) =
    ap (λ n. front_page ws n q) (let z : first ≡ first + 0 = omega arith in z) ∙ v.1 in
    ap (λ o. take (256 * first) (put_with ws o byte w)) page
    ∙ elim (cases_Bool (eqb (word_in ws (first + v.0) byte) 0)) [
      | inl t ↦ rw t (take-set-le (256 * first) ws (256 * (first + v.0) + byte) w (omega arith))
      | inr f ↦ rw f refl
    ]

-- one leaf more
pub fill_step : (leaves : List Leaf) (first i m : ℕ) (d : Leaf) (ws : List ℕ) → AreShort 4 leaves →
    NoneGoesOn leaves → i < length leaves → AreBytes (get_or leaves i d).path →
    length (get_or leaves i d).path ≡ m + 1 → m ≤ 3
    → length ws ≡ 256 * (first + length (pages leaves)) → Holds (take i leaves) leaves first ws
    → Holds (take (i + 1) leaves) leaves first
    (put_with ws (front_page ws first (take m (get_or leaves i d).path))
    (get_or (get_or leaves i d).path m 0) (2 ^ 62 + (get_or leaves i d).word))
fill_step leaves first i m d ws short apart lt ok len few size h =
    let l = get_or leaves i d in
    let p = l.path in
    let q = take m p in
    let byte = get_or p m 0 in
    let ps = pages leaves in
    let goes : is_front leaves q ≡ true =
    list_any_at (λ x. is_proper_prefix q x.path) leaves i d lt (front_goes m p (omega (arith, len))) in
    let v = page_of leaves first 3 ws (omega arith) short (fill_refers leaves first i ws apart h) q 0
    (some_page leaves) (take_bytes m p ok)
    (omega (arith, length-take-le m p (omega (arith, len)))) goes in
    let j = v.0 in
    let page : front_page ws first q ≡ Some (first + j) =
    ap (λ n. front_page ws n q) (let z : first ≡ first + 0 = omega arith in z) ∙ v.1 in
    let whole : get_or ps j [] ++ byte ∷ [] ≡ p = ap (λ x. x ++ byte ∷ []) v.2.there
    ∙ sym (take_more p m 0 (omega (arith, len))) ∙ ap (λ n. take n p) (sym len) ∙ take-length p in
    let more : take (i + 1) leaves ≡ take i leaves ++ l ∷ [] = take_more leaves i d lt in
    let out : place_of (get_or ps j [] ++ byte ∷ []) ps ≡ None =
    (placed leaves short).outside j byte v.2.within (ok m) (ap (is_front leaves) whole ∙ apart i d lt) in
    let w = 2 ^ 62 + l.word in
    record {
      few = h.few;
      words = λ k b within small.
          let c = get_or ps k [] ++ b ∷ [] in
          ap (λ o. word_in (put_with ws o byte w) (first + k) b) page
          ∙ elim (cases_eq (256 * k + b) (256 * j + byte)) [
            | inl same ↦
                let kj : k ≡ j = omega (arith, ok m) in
                let bb : b ≡ byte = omega (arith, ok m) in
                let there : c ≡ get_or ps j [] ++ byte ∷ [] = ap (λ n. get_or ps n [] ++ b ∷ []) kj
                ∙ ap (λ n. get_or ps j [] ++ n ∷ []) bb in
                ap (λ n. word_in (put_with ws (Some (first + j)) byte w) (first + n) b) kj
                ∙ ap (λ n. word_in (put_with ws (Some (first + j)) byte w) (first + j) n) bb
                ∙ put_step (word_at (take i leaves) (get_or ps j [] ++ byte ∷ []))
                (place_of (get_or ps j [] ++ byte ∷ []) ps) ws first (first + j) byte l.word
                (omega (arith, ok m, v.2.within)) out (h.words j byte v.2.within (ok m))
                ∙ ap (λ o. cell_word first o (place_of (get_or ps j [] ++ byte ∷ []) ps))
                (sym (ap (λ ls. word_at ls (get_or ps j [] ++ byte ∷ [])) more
                ∙ word_same (take i leaves) l (get_or ps j [] ++ byte ∷ []) (sym whole)))
                ∙ ap (cell (take (i + 1) leaves) first ps) (sym there)
            | inr other ↦
                let differs : p ≢ c = (λ e.
                let f = same_front (get_or ps j []) (get_or ps k []) byte b (whole ∙ e) in
                let kj : j ≡ k = distinct_at ps j k (distinct_fronts leaves 4) v.2.within within f.0 in
                other (omega (arith, f.1))) in
                put_other ws (first + j) byte w (first + k) b (λ e. other (omega arith))
                ∙ h.words k b within small
                ∙ ap (λ o. cell_word first o (place_of c ps))
                (sym (ap (λ ls. word_at ls c) more ∙ word_other (take i leaves) l c differs))
          ];
    }

-- at first there are references alone
pub fill_first : (leaves : List Leaf) (first : ℕ) (ws : List ℕ) → AreShort 4 leaves →
    IsStage leaves first 4 ws → Holds [] leaves first ws
fill_first leaves first ws short st =
    record {
      few = omega (arith, st.few, fronts_grow leaves 4 5 (omega arith));
      words =
          λ k b lt small. st.words k b lt small;
    }

some_ref : (first : ℕ) (o : Option ℕ) (t : Bool) → (t ≡ true → o ≡ None → ⊥) → (t ≡ false → o ≡ None) →
    not (eqb (cell_word first None o) 0) ≡ t
some_ref first None true has lacks = absurd (has refl refl)
some_ref first None false has lacks = refl
some_ref first (Some k) true has lacks = rw (ne_eqb (2 ^ 61 + (first + k)) 0 (λ e. omega (arith, e))) refl
some_ref first (Some k) false has lacks = absurd (some_none (lacks refl))

-- a reference stands behind a path that is_front another
pub front_is : (leaves : List Leaf) (first i : ℕ) (d : Leaf) (ws : List ℕ) → AreShort 4 leaves →
    IsStage leaves first 4 ws → i < length leaves → AreBytes (get_or leaves i d).path →
    0 < length (get_or leaves i d).path → length (get_or leaves i d).path ≤ 4
    → leads_on ws first (get_or leaves i d).path ≡ is_front leaves (get_or leaves i d).path
front_is leaves first i d ws short st lt ok pos few =
    let p = (get_or leaves i d).path in
    let m = length p - 1 in
    let q = take m p in
    let byte = get_or p m 0 in
    let ps = pages leaves in
    let goes : is_front leaves q ≡ true =
    list_any_at (λ x. is_proper_prefix q x.path) leaves i d lt (front_goes m p (omega arith)) in
    let refers : Refers leaves first 3 ws =
    record {
      few = omega (arith, st.few, fronts_grow leaves 4 5 (omega arith));
      words =
          λ k b l w t. st.words k b (omega (arith, fronts_grow leaves 3 4 (omega arith))) w;
    } in
    let v = page_of leaves first 3 ws (omega arith) short refers q 0 (some_page leaves) (take_bytes m p ok)
    (omega (arith, length-take-le m p (omega arith))) goes in
    let j = v.0 in
    let page : front_page ws first q ≡ Some (first + j) =
    ap (λ n. front_page ws n q) (let z : first ≡ first + 0 = omega arith in z) ∙ v.1 in
    let whole : get_or ps j [] ++ byte ∷ [] ≡ p = ap (λ x. x ++ byte ∷ []) v.2.there
    ∙ sym (take_more p m 0 (omega arith))
    ∙ ap (λ n. take n p) (let e : m + 1 ≡ length p = omega arith in e) ∙ take-length p in
    ap (λ o. not (eqb (word_behind ws o byte) 0)) page
    ∙ ap (λ w. not (eqb w 0)) (st.words j byte v.2.within (ok m) ∙ ap (ref_cell leaves first) whole)
    ∙ some_ref first (place_of p ps) (is_front leaves p)
    (λ t n. (placed leaves short).inside j byte v.2.within (ok m) (ap (is_front leaves) whole ∙ t)
    (ap (λ x. place_of x ps) whole ∙ n))
    (λ t. ap (λ x. place_of x ps) (sym whole)
    ∙ (placed leaves short).outside j byte v.2.within (ok m) (ap (is_front leaves) whole ∙ t))

-- a front's page is the same with the words of some leaves as with those of others
page_stays : (leaves : List Leaf) (first i j : ℕ) (ws vs q : List ℕ) → AreShort 4 leaves →
    NoneGoesOn leaves → AreBytes q → length q ≤ 3 → is_front leaves q ≡ true →
    Holds (take i leaves) leaves first ws → Holds (take j leaves) leaves first vs →
    front_page vs first q ≡ front_page ws first q
page_stays leaves first i j ws vs q short apart ok len goes h k =
    let v = page_of leaves first 3 ws (omega arith) short (fill_refers leaves first i ws apart h) q 0
    (some_page leaves) ok (omega (arith, len)) goes in
    let u = page_of leaves first 3 vs (omega arith) short (fill_refers leaves first j vs apart k) q 0
    (some_page leaves) ok (omega (arith, len)) goes in
    let z : first ≡ first + 0 = omega arith in
    let same : u.0 ≡ v.0 = distinct_at (pages leaves) u.0 v.0 (distinct_fronts leaves 4) u.2.within v.2.within
    (u.2.there ∙ sym v.2.there) in
    ap (λ n. front_page vs n q) z ∙ u.1 ∙ ap (λ n. Some (first + n)) same ∙ sym v.1
    ∙ sym (ap (λ n. front_page ws n q) z)

-- what holds after so many leaves of a run
pub record RunPut (leaves : List Leaf) (first i n : ℕ) (before after : List ℕ) : Type 0 where
  pub holds : Holds (take (i + n) leaves) leaves first after
  pub size : length after ≡ length before
  pub same : take (256 * first) after ≡ take (256 * first) before

later_bytes : (m n : ℕ) (p : List ℕ) → length p ≡ m + 1 → AreBytes p → get_or p m 0 + n < 256 →
    AreBytes (raised n p)
later_bytes m n p len ok small j = elim (cases_eq j m) [
  | inl e ↦ subst (λ k. get_or (raised n p) k 0 < 256) (sym e)
      (subst (λ b. b < 256) (sym (get_or-raised n m p len)) small)
  | inr ne ↦ elim (cases_Bool (ltb j m)) [
    | inl t ↦ subst (λ b. b < 256) (sym (get_or-raised-front n m j p len (ltb-true j m t))) (ok j)
    | inr f ↦ subst (λ b. b < 256)
        (sym (get_or_past (raised n p) j 0
        (omega (arith, ltb-false j m f, ne, length-raised n p, len)))) (omega arith)
  ]
]

-- a run's leaves, one after the other
pub run_step : (leaves : List Leaf) (first i m n : ℕ) (h : Leaf) (ws : List ℕ) → AreShort 4 leaves →
    NoneGoesOn leaves → AreBytes h.path → length h.path ≡ m + 1 → m ≤ 3 → get_or h.path m 0 + n ≤ 256 →
    i + n ≤ length leaves → ((k : ℕ) → k < n → get_or leaves (i + k) h ≡ later k h) →
    length ws ≡ 256 * (first + length (pages leaves)) → Holds (take i leaves) leaves first ws →
    RunPut leaves first i n ws
    (put_run ws (front_page ws first (take m h.path)) (get_or h.path m 0) (2 ^ 62 + h.word) n)
run_step leaves first i m zero h ws short apart ok len few room lt each size holds = record {
  holds = subst (λ k. Holds (take k leaves) leaves first ws) (let e : i ≡ i + 0 = omega arith in e) holds;
  size = refl;
  same = refl;
}
run_step leaves first i m (suc n) h ws short apart ok len few room lt each size holds =
    let page = front_page ws first (take m h.path) in
    let byte = get_or h.path m 0 in
    let w = 2 ^ 62 + h.word in
    let r = run_step leaves first i m n h ws short apart ok len few (omega arith) (omega arith)
    (λ k l. each k (omega arith)) size holds in
    let vs = put_run ws page byte w n in
    let l : get_or leaves (i + n) h ≡ later n h = each n (omega arith) in
    let here : (get_or leaves (i + n) h).path ≡ raised n h.path = ap (λ (x : Leaf). x.path) l in
    let word : (get_or leaves (i + n) h).word ≡ h.word + n = ap (λ (x : Leaf). x.word) l in
    let bytes : AreBytes (get_or leaves (i + n) h).path = subst AreBytes (sym here)
    (later_bytes m n h.path len ok (omega arith)) in
    let long : length (get_or leaves (i + n) h).path ≡ m + 1 = ap length here ∙ length-raised n h.path ∙ len in
    let front : take m (get_or leaves (i + n) h).path ≡ take m h.path = ap (take m) here
    ∙ take-raised n m h.path len in
    let last : get_or (get_or leaves (i + n) h).path m 0 ≡ byte + n = ap (λ p. get_or p m 0) here
    ∙ get_or-raised n m h.path len in
    let goes : is_front leaves (take m h.path) ≡ true =
    ap (is_front leaves) (sym front)
    ∙ list_any_at (λ (x : Leaf). is_proper_prefix (take m (get_or leaves (i + n) h).path) x.path) leaves (i + n) h (omega arith)
    (front_goes m (get_or leaves (i + n) h).path (omega (arith, long))) in
    let stays : front_page vs first (take m h.path) ≡ page =
    page_stays leaves first i (i + n) ws vs (take m h.path) short apart (take_bytes m h.path ok)
    (omega (arith, length-take-le m h.path (omega (arith, len)))) goes holds r.holds in
    let put : put_with vs (front_page vs first (take m (get_or leaves (i + n) h).path))
    (get_or (get_or leaves (i + n) h).path m 0) (2 ^ 62 + (get_or leaves (i + n) h).word)
    ≡ put_with vs page (byte + n) (w + n) =
    ap (λ q. put_with vs (front_page vs first q) (get_or (get_or leaves (i + n) h).path m 0)
    (2 ^ 62 + (get_or leaves (i + n) h).word)) front
    ∙ ap (λ o. put_with vs o (get_or (get_or leaves (i + n) h).path m 0) (2 ^ 62 + (get_or leaves (i + n) h).word)) stays
    ∙ ap (λ b. put_with vs page b (2 ^ 62 + (get_or leaves (i + n) h).word)) last
    ∙ ap (λ x. put_with vs page (byte + n) x)
    (let e : 2 ^ 62 + (get_or leaves (i + n) h).word ≡ w + n = omega (arith, word) in e) in
    record {
      holds = subst (λ x. Holds (take (i + suc n) leaves) leaves first x) put
          (subst (λ k. Holds (take k leaves) leaves first (put_with vs
          (front_page vs first (take m (get_or leaves (i + n) h).path))
          (get_or (get_or leaves (i + n) h).path m 0) (2 ^ 62 + (get_or leaves (i + n) h).word)))
          (let e : i + n + 1 ≡ i + suc n = omega arith in e)
          (fill_step leaves first (i + n) m h vs short apart (omega arith) bytes long few
          (r.size ∙ size) r.holds));
      size = length-put vs page (byte + n) (w + n) ∙ r.size;
      same = ap (take (256 * first)) (sym put)
          ∙ fill_keeps leaves first (i + n) m h vs short apart (omega arith) bytes long few r.holds
          ∙ r.same;
    }

or_left : (a b : Bool) → (a || b) ≡ false → a ≡ false
or_left true b e = e
or_left false b e = refl

or_right : (a b : Bool) → (a || b) ≡ false → b ≡ false
or_right true b e = absurd (true_false e)
or_right false b e = e

-- where no word stands, none stands at any of the places
pub none_behind : (ws : List ℕ) (page : Option ℕ) (byte n k : ℕ) → some_behind ws page byte n ≡ false → k < n →
    not (eqb (word_behind ws page (byte + k)) 0) ≡ false
none_behind ws page byte zero k e lt = absurd (omega arith)
none_behind ws page byte (suc n) k e lt = elim (cases_eq k n) [
  | inl same ↦ ap (λ j. not (eqb (word_behind ws page (byte + j)) 0)) same
      ∙ or_right (some_behind ws page byte n) (not (eqb (word_behind ws page (byte + n)) 0)) e
  | inr other ↦ none_behind ws page byte n k
      (or_left (some_behind ws page byte n) (not (eqb (word_behind ws page (byte + n)) 0)) e) (omega arith)
]

-- no path goes on from the leaves before this place
abbrev pub NoneBefore : List Leaf → ℕ → Type 0
NoneBefore leaves i = (j : ℕ) (d : Leaf) → j < i → is_front leaves (get_or leaves j d).path ≡ false

-- from a run's paths none goes on
pub none_step : (leaves : List Leaf) (first i m n : ℕ) (h : Leaf) (ws : List ℕ) → AreShort 4 leaves →
    IsStage leaves first 4 ws → AreBytes h.path → length h.path ≡ m + 1 → m ≤ 3 → get_or h.path m 0 + n ≤ 256 →
    i + n ≤ length leaves → ((k : ℕ) (d : Leaf) → k < n → get_or leaves (i + k) d ≡ later k h) →
    some_behind ws (front_page ws first (take m h.path)) (get_or h.path m 0) n ≡ false →
    NoneBefore leaves i → NoneBefore leaves (i + n)
none_step leaves first i m n h ws short st ok len few room lt each none before j d low =
    elim (cases_Bool (ltb j i)) [
      | inl t ↦ before j d (ltb-true j i t)
      | inr f ↦
          let k = j - i in
          let le = ltb-false j i f in
          let place : i + k ≡ j = omega (arith, le) in
          let here : (get_or leaves j d).path ≡ raised k h.path =
          ap (λ x. (get_or leaves x d).path) (sym place)
          ∙ ap (λ (x : Leaf). x.path) (each k d (omega arith)) in
          let long : length (get_or leaves j d).path ≡ m + 1 = ap length here ∙ length-raised k h.path ∙ len in
          let bytes : AreBytes (get_or leaves j d).path = subst AreBytes (sym here)
          (later_bytes m k h.path len ok (omega arith)) in
          let short_m : length (raised k h.path) - 1 ≡ m = omega (arith, length-raised k h.path, len) in
          let leads : leads_on ws first (get_or leaves j d).path ≡ false =
          ap (leads_on ws first) here
          ∙ ap (λ x. not (eqb (word_behind ws (front_page ws first (take x (raised k h.path)))
          (get_or (raised k h.path) x 0)) 0)) short_m
          ∙ ap (λ q. not (eqb (word_behind ws (front_page ws first q) (get_or (raised k h.path) m 0)) 0))
          (take-raised k m h.path len)
          ∙ ap (λ b. not (eqb (word_behind ws (front_page ws first (take m h.path)) b) 0))
          (get_or-raised k m h.path len)
          ∙ none_behind ws (front_page ws first (take m h.path)) (get_or h.path m 0) n k none (omega arith) in
          sym (front_is leaves first j d ws short st (omega arith) bytes (omega (arith, long))
          (omega (arith, long))) ∙ leads
    ]
