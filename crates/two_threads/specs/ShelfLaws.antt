-- The laws of the one table: what is held is a table in its pages, and is pinned there.
use Rattle.std.proofs.Common.{◌≡◌, ◌≢◌, ⊎_elim, ◌<◌, ◌+◌, ◌*◌, ◌^◌, ℕ}
use Rattle.std.proofs.Common.{zero, suc, Bool, true, false, eqb, cond, ne_eqb}
use Rattle.std.proofs.Common.{◌||◌}
use Rattle.std.proofs.Common.{[], ◌∷◌, ◌++◌, length, Some, None, refl, sym, ap, ◌∙◌}
use Rattle.std.proofs.Common.{subst, arith}
use Rattle.std.specs.Prelude.{slice_index}
use Rattle.std.specs.List.{range_with_len}
use Rattle.std.proofs.lemmas.Bool.{lt-ltb}
use Rattle.code_pairs.specs.Tables.{Table}
use Rattle.code_table.specs.Images.{page_count, image}
use Rattle.history_core.specs.History.{History, EachNumber}
use Rattle.page_store.specs.Holdings.{Holding, Among, IsHolding, IsPinnedIn}
use Rattle.page_store.specs.Holdings.{side}
use Rattle.two_threads.specs.Shelves.{IsGood, pages_of, has_taken, held_where, word_of}
use Rattle.two_threads.specs.Shelves.{pinned_where, held, pinned}
use Rattle.two_threads.specs.declared.shelf.Taken.{Taken}

pub length-range : (a n : ℕ) → length (range_with_len a n) ≡ n
length-range a zero = refl
length-range a (suc n) = ap suc (length-range (a + 1) n)

pub range-index : (a n i : ℕ) → i < n → slice_index (range_with_len a n) i ≡ a + i
range-index a zero i lt = absurd (omega arith)
range-index a (suc n) zero lt = omega arith
range-index a (suc n) (suc i) lt = let h = range-index (a + 1) n i (omega arith) in omega arith

pub length-pages : (t : Table) → length (pages_of t) ≡ page_count t
length-pages t = length-range 0 (page_count t)

pub page-index : (t : Table) (i : ℕ) → i < page_count t → slice_index (pages_of t) i ≡ i
page-index t i lt = range-index 0 (page_count t) i lt ∙ none_more i
  where
    none_more : (i : ℕ) → 0 + i ≡ i
    none_more i = omega arith

-- the place of a page of the table
pub side_is : (t : Table) (page place : ℕ) → page < page_count t
    → side (pages_of t) page place ≡ 256 * page + place
side_is t page place lt = ap (λ (n : ℕ). 256 * n + place) (page-index t page lt)

-- entries of others don't make a number a holder
taken_others : (n : ℕ) (log : History Taken) → 0 < n → EachNumber (λ m. m ≢ n) log
    → has_taken n log ≡ false
taken_others n [] some h = refl
taken_others n (e ∷ es) some h = (λ i. (ne_eqb n 0 (λ z. absurd (omega arith))) i ||
    ((ne_eqb e.0 n h.0) i || taken_others n es some h.1 i))

taken_grows : (n : ℕ) (front rest : History Taken) → 0 < n → EachNumber (λ m. m ≢ n) rest
    → has_taken n (front ++ rest) ≡ has_taken n front
taken_grows n [] rest some h = taken_others n rest some h
taken_grows n (e ∷ es) rest some h = ap (λ (b : Bool). eqb n 0 || (eqb e.0 n || b))
    (taken_grows n es rest some h)

pub pinned_stays : (t : Table) (front rest : History Taken) (n place : ℕ) → 0 < n
    → EachNumber (λ m. m ≢ n) rest → pinned t (front ++ rest) n place ≡ pinned t front n place
pinned_stays t front rest n place some h =
    ap (λ (b : Bool). pinned_where b t place) (taken_grows n front rest some h)

good_few : (t : Table) → IsGood t → page_count t < 2 ^ 32
good_few t good = good.few (page_count t) refl

pub held_is : (t : Table) (log : History Taken) (n : ℕ) (h : Holding) → IsGood t
    → Among (held t log n) h → IsHolding h
held_is t log n h good there = by (has_taken n log) there
  where
    by : (b : Bool) → Among (held_where b t) h → IsHolding h
    by true q = ⊎_elim (λ (e : record { table = t; pages = pages_of t } ≡ h).
        subst IsHolding e record {
          count = length-pages t;
          well_formed = good.well_formed;
          numbers = good.numbers;
          few = good_few t good;
        }) (λ (z : ⊥). absurd z) q
    by false q = absurd q

within_all : (c page place : ℕ) → page < c → place < 256 → 256 * page + place < 256 * c
within_all c page place lt small = omega arith

-- the word at a place that a page has
pub word_is : (t : Table) (place : ℕ) → place < 256 * page_count t
    → word_of t place ≡ Some (slice_index (image t) place)
word_is t place lt =
    let P : Bool → Type 0 = λ b. cond b (Some (slice_index (image t) place)) None
    ≡ Some (slice_index (image t) place) in
    subst P (sym (lt-ltb place (256 * page_count t) lt)) refl

pub held_pinned : (t : Table) (log : History Taken) (n : ℕ) (h : Holding) → Among (held t log n) h
    → IsPinnedIn (pinned t log n) h
held_pinned t log n h there = by (has_taken n log) there
  where
    by : (b : Bool) → Among (held_where b t) h → IsPinnedIn (pinned_where b t) h
    by true q = ⊎_elim (λ (e : record { table = t; pages = pages_of t } ≡ h).
        subst (IsPinnedIn (word_of t)) e
        (λ page place lt small. ap (word_of t) (side_is t page place lt)
        ∙ word_is t (256 * page + place) (within_all (page_count t) page place lt small)))
        (λ (z : ⊥). absurd z) q
    by false q = absurd q
