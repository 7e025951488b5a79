-- What is held and pinned of the one table.
use Rattle.std.proofs.Common.{◌≡◌, ◌⊎◌, ⊎_elim, inl, inr, ◌<◌, ◌+◌, ◌*◌, ◌/◌, ◌%◌, ℕ}
use Rattle.std.proofs.Common.{zero, suc, Bool, true, false, eqb, cond, eq-eqb, true≢false}
use Rattle.std.proofs.Common.{◌||◌}
use Rattle.std.proofs.Common.{List, [], ◌∷◌, ◌++◌, length, Option, Some, None, refl, sym, ap, ◌∙◌}
use Rattle.std.proofs.Common.{subst, arith}
use Rattle.std.specs.Prelude.{slice_index, nat_lt}
use Rattle.std.specs.List.{AllByRecursion, range_with_len}
use Rattle.std.specs.Str.{bytes_eq}
use Rattle.std.proofs.lemmas.Slice.Eq.{bytes_eq-Decides}
use Rattle.std.proofs.lemmas.Bool.{ltb-true}
use Rattle.code_pairs.specs.Tables.{Table}
use Rattle.code_table.specs.Images.{page_count, image}
use Rattle.code_table.specs.Layouts.{layout_of}
use Rattle.code_table.specs.declared.layout.Layout.{Layout}
use Rattle.history_core.specs.History.{History}
use Rattle.history_core.specs.Rule.{last_fill}
use Rattle.page_store.specs.Holdings.{Holding, AreApart, AreFilled}
use Rattle.page_store.specs.Holdings.{IsWithin, IsPin, table_in}
use Rattle.two_threads.specs.ShelfLaws.{length-pages, page-index, side_is}
use Rattle.two_threads.specs.Shelves.{pages_of, has_taken, held_where, word_of}
use Rattle.two_threads.specs.Shelves.{pinned_where, held, pinned, IsThere, IsPinOf, IsOnePin}
use Rattle.page_store.specs.declared.pin.Pin.{Pin}
use Rattle.two_threads.specs.declared.shelf.Taken.{Taken}

-- where nobody took the table, nothing is pinned
pub none_pinned : (t : Table) (log : History Taken) (n place : ℕ) → has_taken 0 log ≡ false
    → pinned t log n place ≡ None
none_pinned t [] n place e = refl
none_pinned t (x ∷ xs) n place e = absurd (true≢false e)

record Cut (c p : ℕ) : Type 0 where
  pub page : ℕ
  pub place : ℕ
  pub low : page < c
  pub small : place < 256
  pub is : 256 * page + place ≡ p

cut : (c p : ℕ) → p < 256 * c → Cut c p
cut c p lt = record {
  page = p / 256;
  place = p % 256;
  low = omega arith;
  small = omega arith;
  is = omega arith;
}

-- a word of the table that was filled in
filled_word : (t : Table) (p : ℕ) (fills : List (ℕ × ℕ)) → p < 256 * page_count t
    → AreFilled t (pages_of t) (page_count t) fills
    → last_fill p fills ≡ Some (slice_index (image t) p)
filled_word t p fills lt all = let q = cut (page_count t) p lt in
    ap (λ (i : ℕ). last_fill i fills) (sym q.is ∙ sym (side_is t q.page q.place q.low))
    ∙ (all q.page q.place q.low q.small ∙ ap (λ (i : ℕ). Some (slice_index (image t) i)) q.is)

some_word : (t : Table) (p x : ℕ) → word_of t p ≡ Some x
    → (p < 256 * page_count t) × (slice_index (image t) p ≡ x)
some_word t p x = by (nat_lt p (256 * page_count t)) refl
  where
    value_or : ℕ → Option ℕ → ℕ
    value_or d None = d
    value_or d (Some v) = v

    by : (b : Bool) → nat_lt p (256 * page_count t) ≡ b
        → cond b (Some (slice_index (image t) p)) None ≡ Some x
        → (p < 256 * page_count t) × (slice_index (image t) p ≡ x)
    by true e is = (
      ltb-true p (256 * page_count t) e,
      (let z : slice_index (image t) p ≡ x = ap (value_or 0) is in z),
    )
    by false e is = absurd (let z : None ≡ Some x = is in cc)

-- each word that is pinned after an entry was pinned before, or was filled in
pub covered : (t : Table) (log : History Taken) (n : ℕ) (e : Taken) (fills : List (ℕ × ℕ))
    → IsThere t log fills
    → (m p x : ℕ) → pinned t (log ++ (n, e) ∷ []) m p ≡ Some x
    → ((j : ℕ) × (pinned t log j p ≡ Some x)) ⊎ (last_fill p fills ≡ Some x)
covered t log n e fills there m p x is = by (has_taken m (log ++ (n, e) ∷ [])) is
  where
    by : (b : Bool) → pinned_where b t p ≡ Some x
        → ((j : ℕ) × (pinned t log j p ≡ Some x)) ⊎ (last_fill p fills ≡ Some x)
    by true q = ⊎_elim
        (λ (z : has_taken 0 log ≡ true).
        inl (0, subst (λ (b : Bool). pinned_where b t p ≡ Some x) (sym z) q))
        (λ z. let s = some_word t p x q in inr (filled_word t p fills s.0 z ∙ ap Some s.1)) there
    by false q = absurd (let z : None ≡ Some x = q in cc)

-- after its own entry a number holds the table, and so does 0
pub taken_now : (n : ℕ) (log : History Taken) (e : Taken) → has_taken n (log ++ (n, e) ∷ []) ≡ true
taken_now n [] e = (λ i. eqb n 0 || ((eq-eqb n n refl) i || false)) ∙ or_true (eqb n 0)
  where
    or_true : (b : Bool) → (b || true) ≡ true
    or_true true = refl
    or_true false = refl
taken_now n (x ∷ xs) e = ap (λ (b : Bool). eqb n 0 || (eqb x.0 n || b)) (taken_now n xs e)
    ∙ or_more (eqb n 0) (eqb x.0 n)
  where
    or_more : (a b : Bool) → (a || (b || true)) ≡ true
    or_more true b = refl
    or_more false true = refl
    or_more false false = refl

pub some_taken : (log : History Taken) (x : ℕ × Taken) → has_taken 0 (log ++ x ∷ []) ≡ true
some_taken [] x = refl
some_taken (y ∷ ys) x = refl

-- the table's pages are apart, and lie within the side words
pub pages_apart : (t : Table) → AreApart (pages_of t)
pages_apart t i j few less e = sym (page-index t i (subst (λ (n : ℕ). i < n) (length-pages t) few))
    ∙ (e ∙ page-index t j (subst (λ (n : ℕ). j < n) (length-pages t) less))

pub page_within : (t : Table) (words k : ℕ)
    → ((page : ℕ) → page < page_count t → IsWithin words page) → k < length (pages_of t)
    → IsWithin words (slice_index (pages_of t) k)
page_within t words k room few =
    let lt : k < page_count t = subst (λ (n : ℕ). k < n) (length-pages t) few in
    subst (IsWithin words) (sym (page-index t k lt)) (room k lt)

all_within : (a n words : ℕ) → ((page : ℕ) → page < a + n → IsWithin words page)
    → AllByRecursion (IsWithin words) (range_with_len a n)
all_within a zero words h = tt
all_within a (suc n) words h = (
  h a (omega arith),
  all_within (a + 1) n words
      (λ page lt. h page (omega arith)),
)

range-snoc : (a n : ℕ) → range_with_len a n ++ (a + n) ∷ [] ≡ range_with_len a (suc n)
range-snoc a zero = ap (λ (x : ℕ). x ∷ []) (same a)
  where
    same : (a : ℕ) → a + 0 ≡ a
    same a = omega arith
range-snoc a (suc n) = ap (λ (l : List ℕ). a ∷ l)
    (ap (λ (x : ℕ). range_with_len (a + 1) n ++ x ∷ []) (next a n) ∙ range-snoc (a + 1) n)
  where
    next : (a n : ℕ) → a + suc n ≡ (a + 1) + n
    next a n = omega arith

-- one page more
pub next_page : (xs : List ℕ) (n : ℕ) → xs ≡ range_with_len 0 n
    → xs ++ n ∷ [] ≡ range_with_len 0 (n + 1)
next_page xs n e = ap (λ (l : List ℕ). l ++ n ∷ []) e
    ∙ (ap (λ (x : ℕ). range_with_len 0 n ++ x ∷ []) (plain n)
    ∙ (range-snoc 0 n ∙ ap (range_with_len 0) (more n)))
  where
    plain : (n : ℕ) → n ≡ 0 + n
    plain n = omega arith

    more : (n : ℕ) → suc n ≡ n + 1
    more n = omega arith

-- the pin of the table, where the number holds it
pub pin_is : (t : Table) (log : History Taken) (n words : ℕ) (layout : Layout) (pages : List ℕ)
    → has_taken n log ≡ true → ((page : ℕ) → page < page_count t → IsWithin words page)
    → pages ≡ pages_of t → layout ≡ layout_of t
    → IsPin (held t log n) words pages layout
pin_is t log n words layout pages taken room is parts =
    subst (λ (hs : List Holding). IsPin hs words pages layout)
    (ap (λ (b : Bool). held_where b t) (sym taken))
    (subst (λ (ps : List ℕ). IsPin (held_where true t) words ps layout) (sym is) record {
      held = ap (λ (b : Bool). b || false) same;
      inside = all_within 0 (page_count t) words
          (λ page lt. room page (below page (page_count t) lt));
      parts = parts ∙ ap layout_of (sym table);
    })
  where
    below : (p n : ℕ) → p < 0 + n → p < n
    below p n lt = omega arith

    same : bytes_eq (pages_of t) (pages_of t) ≡ true
    same = (bytes_eq-Decides (pages_of t) (pages_of t)).1 refl

    table : table_in (held_where true t) (pages_of t) ≡ t
    table = ap (λ (b : Bool). cond b t []) same

-- and the table that it stands for
pub table_is : (t : Table) (log : History Taken) (n : ℕ) (pages : List ℕ) → has_taken n log ≡ true
    → pages ≡ pages_of t → table_in (held t log n) pages ≡ t
table_is t log n pages taken is = (λ i. table_in (held_where (taken i) t) (is i))
    ∙ ap (λ (b : Bool). cond b t []) ((bytes_eq-Decides (pages_of t) (pages_of t)).1 refl)

-- after a commit
pub taken_after : (n : ℕ) (log : History Taken) (e : Taken) (after : History Taken) (m : ℕ)
    → after ≡ log ++ (n, e) ∷ [] → m ≡ n → has_taken m after ≡ true
taken_after n log e after m is same = (λ i. has_taken (same i) (is i)) ∙ taken_now n log e

-- the one pin of a list
pub record OnePin (t : Table) (pins : List Pin) : Type 0 where
  pub pin : Pin
  pub alone : pins ≡ pin ∷ []
  pub is : IsPinOf t pin

pub one_pin : (t : Table) (pins : List Pin) → IsOnePin t pins → OnePin t pins
one_pin t [] h = absurd h
one_pin t (pin ∷ []) h = record { pin = pin; alone = refl; is = h }
one_pin t (pin ∷ next ∷ rest) h = absurd h
