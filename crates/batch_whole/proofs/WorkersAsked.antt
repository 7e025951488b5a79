-- How many workers words may name.
use Rattle.std.proofs.Common.{◌≡◌, ◌≤◌, ℕ, Bool, true, false, List, Option, Some, None, if◌then◌else◌, subst, refl, arith}
use Rattle.std.proofs.lemmas.Bool.{leb-true, and_parts}
use Rattle.std.specs.Prelude.{nat_le, length, option_and_then, ◌&&◌, codes}
use Rattle.clap.specs.Words.{Text, Row, first_of, matches_of}
use Rattle.batch_words.specs.Numbers.{digits_after, number_in, number_or, within}
use Rattle.batch_words.specs.declared.limits.TheConstants.{LONGEST_NAME, MOST_PAGES, MOST_WORKERS, USUAL_PAGES, USUAL_WORKERS}
use Rattle.batch_words.specs.Command.{is_taken, the_app}
use Rattle.batch_words.specs.Asked.{Source, Single, Request, asked, is_short, long_asked, long_form, short_asked, source_given, with_numbers, word}

within-few : (low high n k : ℕ) → within low high n ≡ Some k → k ≤ high
within-few low high n k h = go (nat_le low n && nat_le n high) refl h
  where
    go : (b : Bool) → (nat_le low n && nat_le n high) ≡ b → (if b then Some n else None) ≡ Some k → k ≤ high
    go true is e = let same : n ≡ k = (cc) in let top = leb-true n high (and_parts (nat_le low n) (nat_le n high) is).1 in omega (arith, same, top)
    go false is e = absurd (cc)

number-few : (low high : ℕ) (text : List ℕ) (k : ℕ) → number_in low high text ≡ Some k → k ≤ high
number-few low high text k h = go (nat_le 1 (length text) && nat_le (length text) 10) h
  where
    of : (d : Option ℕ) → option_and_then (within low high) d ≡ Some k → k ≤ high
    of None e = absurd (cc)
    of (Some n) e = within-few low high n k e

    go : (b : Bool) → (if b then option_and_then (within low high) (digits_after 0 text) else None) ≡ Some k → k ≤ high
    go true e = of (digits_after 0 text) e
    go false e = absurd (cc)

number-or-few : (default high : ℕ) (text : Option (List ℕ)) (k : ℕ) → default ≤ high → number_or default high text ≡ Some k → k ≤ high
number-or-few default high None k low e = let same : default ≡ k = (cc) in omega (arith, same, low)
number-or-few default high (Some text) k low e = number-few 0 high text k e

numbers-few : (high : ℕ) (source : Option Source) (pages workers : Option ℕ) (journal : Option Text) (q : Request) → ((k : ℕ) → workers ≡ Some k → k ≤ high)
    → with_numbers source pages workers journal ≡ Some q → q.workers ≤ high
numbers-few high None pages workers journal q low e = absurd (cc)
numbers-few high (Some s) None workers journal q low e = absurd (cc)
numbers-few high (Some s) (Some p) None journal q low e = absurd (cc)
numbers-few high (Some s) (Some p) (Some w) journal q low e =
    let few = low w refl in
    let P : Option Request → Type 0 = λ r. workers_in r ≤ high in
    subst P e few
  where
    workers_in : Option Request → ℕ
    workers_in None = 0
    workers_in (Some r) = r.workers

long-few : (rows : List Row) (q : Request) → long_asked rows ≡ Some q → q.workers ≤ 64
unfolding long_asked
long-few rows q e =
    numbers-few 64 (source_given rows) (number_or USUAL_PAGES MOST_PAGES (first_of (codes "pages") rows))
    (number_or USUAL_WORKERS MOST_WORKERS (first_of (codes "workers") rows)) (first_of (codes "journal") rows) q
    (λ k h. number-or-few USUAL_WORKERS MOST_WORKERS (first_of (codes "workers") rows) k (omega arith) h) e

either-few : (b : Bool) (x y : Option Request) (q : Request) → (x ≡ Some q → q.workers ≤ 64) → (y ≡ Some q → q.workers ≤ 64)
    → (if b then x else y) ≡ Some q → q.workers ≤ 64
either-few true x y q f g e = f e
either-few false x y q f g e = g e

none-few : (q : Request) → None ≡ Some q → q.workers ≤ 64
none-few q e = absurd (cc)

form-few : (words : List Text) (q : Request) → long_form words ≡ Some q → q.workers ≤ 64
unfolding long_form
form-few words q e =
    either-few (is_taken words) (long_asked (matches_of the_app words)) None q (long-few (matches_of the_app words) q) (none-few q) e

abbrev lone : List Text → Request
lone words = record {
  source = Single (word words 1) (word words 3) (word words 4) (word words 5);
  pages = 0;
  journal = None;
  workers = 0;
}

lone-few : (words : List Text) (q : Request) → Some (lone words) ≡ Some q → q.workers ≤ 64
lone-few words q e =
    let same : lone words ≡ q = (cc) in
    let P : Request → Type 0 = λ r. r.workers ≤ 64 in
    subst P same (omega arith)

short-few : (words : List Text) (q : Request) → short_asked words ≡ Some q → q.workers ≤ 64
unfolding short_asked
short-few words q e =
    either-few (nat_le (length (word words 1)) LONGEST_NAME && nat_le (length (word words 3)) LONGEST_NAME) (Some (lone words)) None q (lone-few words q) (none-few q) e

-- Words name at most 64 workers.
pub workers-few : (words : List Text) (q : Request) → asked words ≡ Some q → q.workers ≤ 64
unfolding asked
workers-few words q e = either-few (is_short words) (short_asked words) (long_form words) q (short-few words q) (form-few words q) e
