-- The words of tables in their pages.
use Rattle.std.proofs.Common.{◌≡◌, ◌⊎◌, ℕ, zero, suc, ◌+◌, ◌*◌, ◌/◌, ◌%◌, ◌<◌, eqb, Bool, true, false, ◌||◌, cond, List, [], ◌∷◌, ◌++◌, length, take, drop, Option, Some, None, sym, refl, ap, ◌∙◌, subst, arith, inl, inr, ⊎_elim, true≢false, eq-eqb, ne_eqb, get_or-take, get_or-drop, get_or-append-add, length-drop}
use Rattle.std.proofs.lemmas.List.{get_or_append_left}
use mathlib.Core.Logic.{dite}
use native.Mathlib.Decide.{ℕ_discrete}
use Rattle.std.specs.Prelude.{slice_index}
use Rattle.std.specs.List.{position_from, AllByRecursion}
use Rattle.std.specs.Option.{option_map}
use Rattle.code_pairs.specs.Tables.{Table}
use Rattle.code_table.specs.Images.{page_count, image, image_word}
use Rattle.code_table.proofs.ImageLaws.{length-image}
use Rattle.runtime_histories.specs.Deeds.{IsIn}
use Rattle.runtime_histories.specs.Pins.{words_of, word_in, or_word, word_among}
use Rattle.runtime_histories.specs.Places.{Placed, among, pages_for, all_pages}
use Rattle.module_counts.specs.Stocks.{Once}
use Rattle.page_store.specs.Holdings.{Holding, Among, side}
use Rattle.runtime_room.specs.Rooms.{parts, parts_of}
use Rattle.runtime_room.specs.Apart.{Share, once_split, among-append, among_both}

eqb_is : (x k : ℕ) → eqb x k ≡ true → x ≡ k
eqb_is x k e = dite (ℕ_discrete x k) (λ z. z) (λ ne. absurd (true≢false (sym e ∙ ne_eqb x k ne)))

-- no page has the number
not_among : (k i : ℕ) (xs : List ℕ) → among k xs ≡ false → position_from (λ page. eqb page k) i xs ≡ None
not_among k i [] e = refl
not_among k i (x ∷ xs) e = go (eqb x k) refl e (not_among k (i + 1) xs)
  where
    go : (b : Bool) → eqb x k ≡ b → (b || among k xs) ≡ false → (among k xs ≡ false → position_from (λ page. eqb page k) (i + 1) xs ≡ None)
        → cond b (Some i) (position_from (λ page. eqb page k) (i + 1) xs) ≡ None
    go true f e rec = absurd (true≢false e)
    go false f e rec = rec e

-- A module has no word in a page that isn't its own.
pub no_word : (x : Placed) (p : ℕ) → among (p / 256) x.pages ≡ false → word_in x p ≡ None
no_word x p e = ap (option_map (λ k. slice_index (words_of x.tables) (256 * k + p % 256))) (not_among (p / 256) 0 x.pages e)

pub no_words : (xs : List Placed) (p : ℕ) → among (p / 256) (all_pages xs) ≡ false → word_among xs p ≡ None
no_words [] p e = refl
no_words (x ∷ xs) p e = let b = among_both (p / 256) x.pages (all_pages xs) e in
    ap (λ (o : Option ℕ). or_word o (word_among xs p)) (no_word x p b.0) ∙ no_words xs p b.1

none_some : {A : Type 0} (x : A) → ◌≡◌ {A = Option A} None (Some x) → ⊥
none_some x e = true≢false (ap is_none e)
  where
    is_none : {A : Type 0} → Option A → Bool
    is_none None = true
    is_none (Some x) = false

-- A page in which a module has a word is its own.
pub word_page : (x : Placed) (p w : ℕ) → word_in x p ≡ Some w → among (p / 256) x.pages ≡ true
word_page x p w e = go (among (p / 256) x.pages) refl
  where
    go : (b : Bool) → among (p / 256) x.pages ≡ b → b ≡ true
    go true f = refl
    go false f = absurd (none_some w (sym (no_word x p f) ∙ e))

page_in : (x : Placed) (k : ℕ) (xs : List Placed) → IsIn x xs → among k x.pages ≡ true → among k (all_pages xs) ≡ true
page_in x k [] h e = absurd h
page_in x k (y ∷ ys) h e = ⊎_elim
    (λ (z : y ≡ x). among-append k y.pages (all_pages ys) ∙ left (among k y.pages) (among k (all_pages ys)) (ap (λ (v : Placed). among k v.pages) z ∙ e))
    (λ z. among-append k y.pages (all_pages ys) ∙ right (among k y.pages) (among k (all_pages ys)) (page_in x k ys z e)) h
  where
    left : (a b : Bool) → a ≡ true → (a || b) ≡ true
    left true b e = refl
    left false b e = absurd (true≢false (sym e))

    right : (a b : Bool) → b ≡ true → (a || b) ≡ true
    right true b e = refl
    right false b e = e

shared : (k : ℕ) (xs ys : List ℕ) → Share xs ys → among k xs ≡ true → among k ys ≡ false
shared k [] ys s e = absurd (true≢false (sym e))
shared k (x ∷ xs) ys s e = go (eqb x k) refl e (shared k xs ys s.1)
  where
    go : (b : Bool) → eqb x k ≡ b → (b || among k xs) ≡ true → (among k xs ≡ true → among k ys ≡ false) → among k ys ≡ false
    go true f e rest = subst (λ (z : ℕ). among z ys ≡ false) (eqb_is x k f) s.0
    go false f e rest = rest e

-- A word of one of some modules, no page of which stands twice, is what they have there.
pub word_found : (xs : List Placed) (x : Placed) (p w : ℕ) → Once (all_pages xs) → IsIn x xs → word_in x p ≡ Some w → word_among xs p ≡ Some w
word_found [] x p w once h e = absurd h
word_found (y ∷ ys) x p w once h e = let s = once_split y.pages (all_pages ys) once in
    ⊎_elim (λ (z : y ≡ x). ap (λ (o : Option ℕ). or_word o (word_among ys p)) (ap (λ (v : Placed). word_in v p) z ∙ e))
    (λ z. ap (λ (o : Option ℕ). or_word o (word_among ys p)) (no_word y p (away (among (p / 256) y.pages) refl s.2 (page_in x (p / 256) ys z (word_page x p w e))))
    ∙ word_found ys x p w s.1 z e) h
  where
    away : (b : Bool) → among (p / 256) y.pages ≡ b → Share y.pages (all_pages ys) → among (p / 256) (all_pages ys) ≡ true → b ≡ false
    away true f s g = absurd (true≢false (sym g ∙ shared (p / 256) y.pages (all_pages ys) s f))
    away false f s g = refl

-- The module that has the word of some.
pub record HasWord (xs : List Placed) (p w : ℕ) : Type 0 where
  pub place : Placed
  pub there : IsIn place xs
  pub word : word_in place p ≡ Some w

pub word_some : (xs : List Placed) (p w : ℕ) → word_among xs p ≡ Some w → HasWord xs p w
word_some [] p w e = absurd (none_some w e)
word_some (x ∷ xs) p w e = go (word_in x p) refl e (word_some xs p w)
  where
    go : (o : Option ℕ) → word_in x p ≡ o → or_word o (word_among xs p) ≡ Some w → (word_among xs p ≡ Some w → HasWord xs p w) → HasWord (x ∷ xs) p w
    go None f e rec = let r = rec e in record { place = r.place; there = inr r.there; word = r.word }
    go (Some v) f e rec = record { place = x; there = inl refl; word = f ∙ e }

-- Where a page of a part stands among all pages, and its words among all words.
pub record IsPartAt (ts : List Table) (pages : List ℕ) (h : Holding) (page place : ℕ) : Type 0 where
  pub at : ℕ
  pub few : at < length pages
  pub page_is : slice_index h.pages page ≡ slice_index pages at
  pub word_is : slice_index (words_of ts) (256 * at + place) ≡ image_word h.table page place

take-index : (n : ℕ) (xs : List ℕ) (i : ℕ) → i < n → slice_index (take n xs) i ≡ slice_index xs i
take-index n xs i lt = get_or-take n xs i _ lt

drop-index : (n : ℕ) (xs : List ℕ) (i : ℕ) → slice_index (drop n xs) i ≡ slice_index xs (n + i)
drop-index n xs i = get_or-drop n xs i _

left-index : (xs ys : List ℕ) (i : ℕ) → i < length xs → slice_index (xs ++ ys) i ≡ slice_index xs i
left-index xs ys i lt = get_or_append_left xs ys _ i lt

right-index : (xs ys : List ℕ) (i : ℕ) → slice_index (xs ++ ys) (length xs + i) ≡ slice_index ys i
right-index xs ys i = get_or-append-add xs ys i _

pub part_at : (ts : List Table) (pages : List ℕ) (h : Holding) (page place : ℕ) → length pages ≡ pages_for ts → Among (parts ts pages) h → page < page_count h.table → place < 256
    → IsPartAt ts pages h page place
part_at [] pages h page place fits there lt small = absurd there
part_at (t ∷ ts) pages h page place fits there lt small =
    ⊎_elim (λ (e : record { table = t; pages = take (page_count t) pages } ≡ h). subst (λ (v : Holding). page < page_count v.table → IsPartAt (t ∷ ts) pages v page place) e first lt)
    (λ z. later (part_at ts (drop (page_count t) pages) h page place (let l = length-drop (page_count t) pages in omega arith) z lt small)) there
  where
    first : page < page_count t → IsPartAt (t ∷ ts) pages (record { table = t; pages = take (page_count t) pages }) page place
    first lt = record {
      at = page;
      few = omega arith;
      page_is = take-index (page_count t) pages page lt;
      word_is = left-index (image t) (words_of ts) (256 * page + place) (let l = length-image t in omega arith);
    }

    later : IsPartAt ts (drop (page_count t) pages) h page place → IsPartAt (t ∷ ts) pages h page place
    later r = let l = length-image t in let a : ℕ = r.at in
        let e : 256 * (page_count t + a) + place ≡ length (image t) + (256 * a + place) = omega arith in
        record {
          at = page_count t + a;
          few = (let f = r.few in let d = length-drop (page_count t) pages in omega arith);
          page_is = r.page_is ∙ drop-index (page_count t) pages a;
          word_is = ap (slice_index (image t ++ words_of ts)) e ∙ (right-index (image t) (words_of ts) (256 * a + place) ∙ r.word_is);
        }

-- The page of a place stands where it is found.
position_is : (xs : List ℕ) (i j k : ℕ) → Once xs → j < length xs → slice_index xs j ≡ k → position_from (λ page. eqb page k) i xs ≡ Some (i + j)
position_is [] i j k once lt e = absurd (omega arith)
position_is (x ∷ xs) i zero k once lt e = let z : i ≡ i + 0 = omega arith in ap (λ (b : Bool). cond b (Some i) (position_from (λ page. eqb page k) (i + 1) xs)) (eq-eqb x k e) ∙ ap (λ (n : ℕ). Some n) z
position_is (x ∷ xs) i (suc j) k once lt e =
    let z : (i + 1) + j ≡ i + suc j = omega arith in
    go (eqb x k) refl (position_is xs (i + 1) j k once.1 (omega arith) e ∙ ap (λ (n : ℕ). Some n) z)
  where
    stands : (xs : List ℕ) (j k : ℕ) → j < length xs → slice_index xs j ≡ k → among k xs ≡ true
    stands [] j k lt e = absurd (omega arith)
    stands (y ∷ ys) zero k lt e = ap (λ (b : Bool). b || among k ys) (eq-eqb y k e)
    stands (y ∷ ys) (suc j) k lt e = either (eqb y k) (among k ys) (stands ys j k (omega arith) e)
      where
        either : (a b : Bool) → b ≡ true → (a || b) ≡ true
        either true b e = refl
        either false b e = e

    go : (b : Bool) → eqb x k ≡ b → position_from (λ page. eqb page k) (i + 1) xs ≡ Some (i + suc j) → cond b (Some i) (position_from (λ page. eqb page k) (i + 1) xs) ≡ Some (i + suc j)
    go true f r = absurd (true≢false (sym (stands xs j k (omega arith) e) ∙ subst (λ (v : ℕ). among v xs ≡ false) (eqb_is x k f) once.0))
    go false f r = r

side-page : (k place : ℕ) → place < 256 → (256 * k + place) / 256 ≡ k
side-page k place lt = omega arith

side-place : (k place : ℕ) → place < 256 → (256 * k + place) % 256 ≡ place
side-place k place lt = omega arith

none_before : (n : ℕ) → ◌≡◌ {A = Option ℕ} (Some (0 + n)) (Some n)
none_before n = let e : 0 + n ≡ n = omega arith in ap (λ (z : ℕ). Some z) e

-- A module has the words of its parts in their pages.
pub part_word : (x : Placed) (h : Holding) (page place : ℕ) → length x.pages ≡ pages_for x.tables → Once x.pages → Among (parts x.tables x.pages) h → page < page_count h.table → place < 256
    → word_in x (side h.pages page place) ≡ Some (image_word h.table page place)
part_word x h page place fits once there lt small =
    let r = part_at x.tables x.pages h page place fits there lt small in
    let k : ℕ = slice_index h.pages page in
    (λ i. option_map (λ n. slice_index (words_of x.tables) (256 * n + (side-place k place small) i)) (position_from (λ q. eqb q ((side-page k place small) i)) 0 x.pages))
    ∙ (ap (option_map (λ n. slice_index (words_of x.tables) (256 * n + place))) (position_is x.pages 0 r.at k once r.few (sym r.page_is) ∙ none_before r.at)
    ∙ ap (λ (w : ℕ). Some w) r.word_is)

-- The module whose part it is.
pub record IsPart (xs : List Placed) (h : Holding) : Type 0 where
  pub place : Placed
  pub there : IsIn place xs
  pub part : Among (parts place.tables place.pages) h

among_parts : (xs ys : List Holding) (h : Holding) → Among (xs ++ ys) h → Among xs h ⊎ Among ys h
among_parts [] ys h there = inr there
among_parts (x ∷ xs) ys h there = ⊎_elim (λ (e : x ≡ h). inl (inl e)) (λ z. ⊎_elim (λ q. inl (inr q)) (λ q. inr q) (among_parts xs ys h z)) there

pub part_of : (xs : List Placed) (h : Holding) → Among (parts_of xs) h → IsPart xs h
part_of [] h there = absurd there
part_of (x ∷ xs) h there = ⊎_elim (λ z. record { place = x; there = inl refl; part = z }) (λ z. let r = part_of xs h z in record { place = r.place; there = inr r.there; part = r.part })
    (among_parts (parts x.tables x.pages) (parts_of xs) h there)

-- What holds of all holds of each.
pub all_in : {A : Type 0} (P : A → Type 0) (xs : List A) (x : A) → AllByRecursion P xs → IsIn x xs → P x
all_in P [] x h there = absurd there
all_in P (y ∷ ys) x h there = ⊎_elim (λ (e : y ≡ x). subst P e h.0) (λ z. all_in P ys x h.1 z) there

pub once_in : (xs : List Placed) (x : Placed) → Once (all_pages xs) → IsIn x xs → Once x.pages
once_in [] x once there = absurd there
once_in (y ∷ ys) x once there = let s = once_split y.pages (all_pages ys) once in
    ⊎_elim (λ (e : y ≡ x). subst (λ (v : Placed). Once v.pages) e s.0) (λ z. once_in ys x s.1 z) there
