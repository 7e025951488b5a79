-- Walks along words that are a trie's.
use Rattle.std.proofs.Common.{◌≡◌, ℕ, zero, suc, ◌+◌, ◌^◌, ◌<◌, ◌≤◌, Bool, true, false, List, [], ◌∷◌, ◌++◌, length, get_or, drop, Option, Some, None, refl, sym, ap, ◌∙◌, inl, inr, arith, length-append, ltb}
use Rattle.std.proofs.lemmas.List.{drop_more}
use Rattle.std.proofs.lemmas.Bool.{cases_Bool, le-leb, lt-ltb, ltb-true}
use Rattle.trie.specs.Fronts.{word_at, is_front}
use Rattle.trie.specs.Trie.{place_of, cell, cell_word}
use Rattle.trie.specs.Words.{page_in, word_in, walk_words, walk_step}
use Rattle.trie.proofs.Places.{some_none, place_there}
use Rattle.trie.specs.Leaf.{Leaf}
use Rattle.trie.specs.declared.walk.Walk.{Walk}
use Rattle.trie.specs.declared.walk.Walk.TheVariants.{Word, Inside, Outside}

-- the answer behind one byte more, by what that leads to
abbrev pub step : Option ℕ → Bool → ℕ → Walk → Walk
step (Some word) inside used next = Word word used
step None true used next = next
step None false used next = Outside

-- along the bytes behind a front: the word of the shortest path
abbrev pub walk_on : List Leaf → List ℕ → List ℕ → Walk
walk_on leaves front [] = Inside
walk_on leaves front (b ∷ bs) =
    step (word_at leaves (front ++ b ∷ [])) (is_front leaves (front ++ b ∷ [])) (length front + 1)
    (walk_on leaves (front ++ b ∷ []) bs)

-- the words hold, from a page on, the pages of these fronts
pub record HoldsPages (leaves : List Leaf) (first : ℕ) (ps : List (List ℕ)) (ws : List ℕ) : Type 0 where
  pub few : first + length ps ≤ 2 ^ 32
  pub words : (k b : ℕ) → k < length ps → b < 256 →
      word_in ws (first + k) b ≡ cell leaves first ps (get_or ps k [] ++ b ∷ [])

-- each number of the list is a byte
abbrev pub AreBytes : List ℕ → Type 0
AreBytes xs = (i : ℕ) → get_or xs i 0 < 256

-- the leaves' fronts have places, and nothing else below a page
pub record IsPlaced (leaves : List Leaf) (ps : List (List ℕ)) : Type 0 where
  pub inside : (k b : ℕ) → k < length ps → b < 256 → is_front leaves (get_or ps k [] ++ b ∷ []) ≡ true →
      place_of (get_or ps k [] ++ b ∷ []) ps ≡ None → ⊥
  pub outside : (k b : ℕ) → k < length ps → b < 256 → is_front leaves (get_or ps k [] ++ b ∷ []) ≡ false →
      place_of (get_or ps k [] ++ b ∷ []) ps ≡ None

-- a reference refers to its page
pub page_in_ref : (n : ℕ) → n < 2 ^ 32 → page_in (2 ^ 61 + n) ≡ Some n
page_in_ref n h = rw (
  le-leb (2 ^ 61) (2 ^ 61 + n) (omega arith),
  lt-ltb (2 ^ 61 + n) (2 ^ 61 + 2 ^ 32)
      (omega arith),
) (ap Some (omega arith))

-- a word of a path refers to no page
pub page_in_word : (n : ℕ) → page_in (2 ^ 62 + n) ≡ None
page_in_word n = elim (cases_Bool (ltb (2 ^ 62 + n) (2 ^ 61 + 2 ^ 32))) [
  | inl t ↦ absurd (let h : 2 ^ 62 + n < 2 ^ 61 + 2 ^ 32 = ltb-true (2 ^ 62 + n) (2 ^ 61 + 2 ^ 32) t in
      omega arith)
  | inr f ↦ rw (f, le-leb (2 ^ 61) (2 ^ 62 + n) (omega arith)) refl
]

word_step : (n used : ℕ) (next : ℕ → Walk) →
    walk_step (2 ^ 62 + n) used (page_in (2 ^ 62 + n)) next ≡ Word n used
word_step n used next = rw (page_in_word n, le-leb (2 ^ 62) (2 ^ 62 + n) (omega arith))
    (ap (λ m. Word m used) (omega arith))

tail_bytes : (b : ℕ) (bs : List ℕ) → AreBytes (b ∷ bs) → AreBytes bs
tail_bytes b bs h i = h (suc i)

cell_step : (leaves : List Leaf) (first : ℕ) (used : ℕ) (ps : List (List ℕ)) (o place : Option ℕ)
    (inside : Bool) (next : ℕ → Walk) (later : Walk)
    → ((j : ℕ) → place ≡ Some j → first + j < 2 ^ 32) → (inside ≡ true → place ≡ None → ⊥) →
    (inside ≡ false → place ≡ None) → ((j : ℕ) → place ≡ Some j → next (first + j) ≡ later)
    → walk_step (cell_word first o place) used
    (page_in (cell_word first o place)) next ≡ step o inside used later
cell_step leaves first used ps (Some w) place inside next later few has lacks goes = word_step w used next
cell_step leaves first used ps None (Some j) true next later few has lacks goes =
    rw (page_in_ref (first + j) (few j refl)) (goes j refl)
cell_step leaves first used ps None (Some j) false next later few has lacks goes =
    absurd (some_none (lacks refl))
cell_step leaves first used ps None None true next later few has lacks goes = absurd (has refl refl)
cell_step leaves first used ps None None false next later few has lacks goes = refl

-- a walk along the words finds what the leaves say
pub walks : (leaves : List Leaf) (first : ℕ) (ps : List (List ℕ)) (ws : List ℕ) →
    HoldsPages leaves first ps ws → IsPlaced leaves ps → (bs : List ℕ) (k used : ℕ) → k < length ps →
    used ≡ length (get_or ps k []) → AreBytes bs
    → walk_words ws (first + k) used bs ≡ walk_on leaves (get_or ps k []) bs
walks leaves first ps ws h p [] k used lt e ok = refl
walks leaves first ps ws h p (b ∷ bs) k used lt e ok =
    let q = get_or ps k [] in
    let small : b < 256 = ok 0 in
    rw (h.words k b lt small)
    (rw e (cell_step leaves first (length q + 1) ps (word_at leaves (q ++ b ∷ []))
    (place_of (q ++ b ∷ []) ps) (is_front leaves (q ++ b ∷ []))
    (λ next. walk_words ws next (length q + 1) bs) (walk_on leaves (q ++ b ∷ []) bs)
    (λ j is. omega (arith, h.few, (place_there (q ++ b ∷ []) ps j is).within))
    (p.inside k b lt small) (p.outside k b lt small)
    (λ j is. let r = place_there (q ++ b ∷ []) ps j is in
    walks leaves first ps ws h p bs j (length q + 1) r.within
    (ap (λ n. n) (omega (arith, ap length r.there, length-append q (b ∷ [])))) (tail_bytes b bs ok)
    ∙ ap (λ v. walk_on leaves v bs) r.there)))

-- a byte before bytes
pub bytes_with : (b : ℕ) (bs : List ℕ) → b < 256 → AreBytes bs → AreBytes (b ∷ bs)
bytes_with b bs lt h zero = lt
bytes_with b bs lt h (suc i) = h i

-- the first reference of a walk followed
pub walk_from : (ws : List ℕ) (page b next : ℕ) (bs : List ℕ) → page_in (word_in ws page b) ≡ Some next →
    walk_words ws next 1 bs ≡ walk_words ws page 0 (b ∷ bs)
walk_from ws page b next bs e =
    ap (λ o. walk_step (word_in ws page b) 1 o (λ n. walk_words ws n 1 bs)) (sym e)

-- one reference of a walk followed
pub walk_more : (ws vs : List ℕ) (page used next i : ℕ) (bs : List ℕ) → vs ≡ ws → i < length bs →
    page_in (word_in ws page (get_or bs i 0)) ≡ Some next →
    walk_words vs next (used + 1) (drop (i + 1) bs) ≡ walk_words ws page used (drop i bs)
walk_more ws vs page used next i bs same lt e =
    ap (λ x. walk_words x next (used + 1) (drop (i + 1) bs)) same
    ∙ ap (λ o. walk_step (word_in ws page (get_or bs i 0)) (used + 1) o
    (λ n. walk_words ws n (used + 1) (drop (i + 1) bs))) (sym e)
    ∙ ap (walk_words ws page used) (sym (drop_more bs i 0 lt))
