-- Mapping lines by their words.
use Rattle.std.proofs.Common.{◌≡◌, ℕ, zero, suc, inl, inr, ◌+◌, ◌-◌, ◌^◌, ◌<◌, ◌≤◌, Bool, true, false, cond, ltb, leb, ◌&&◌, List, [], ◌∷◌, ◌++◌, length, map, Option, Some, None, Result, Ok, Err, refl, sym, ap, ◌∙◌, subst, arith, ◌||◌, add-zero}
use Rattle.std.specs.List.{list_all, range_with_len}
use Rattle.std.proofs.lemmas.Bool.{ltb-false, and_parts, leb-true, ltb-true, lt-ltb, le-ltb, cases_Bool}
use Rattle.std.proofs.lemmas.List.FromFn.{length-map-range_with_len}
use Rattle.code_pairs.specs.Bytes.{value_of, big_endian}
use Rattle.code_pairs.specs.Tables.{is_point, HasPoints}
use Rattle.code_pairs.specs.declared.Pair.{Pair}
use Rattle.charmap_words.specs.declared.Span.{Span}
use Rattle.charmap_words.specs.declared.CodeFault.{CodeFault}
use Rattle.charmap_words.specs.declared.CodeFault.TheVariants as word_faults
use Rattle.charmap_words.specs.Symbols.{span_of}
use Rattle.charmap_words.specs.Spelling.{code_spelled}
use Rattle.charmap_reader.specs.declared.fault.MapKind.{MapKind}
use Rattle.charmap_reader.specs.declared.fault.MapKind.TheVariants.{BadLine, BadRange, Symbol, TooManyPairs}
use Rattle.charmap_reader.specs.Mapping.{is_marked, mapped, ranged, members, is_range, size_of, row_pairs, ok_pairs, fault_behind}
use Rattle.charmap_reader.specs.Header.{Signs}
use Rattle.charmap_reader.specs.Limits.{most_pairs}
use Rattle.charmap_reader.specs.Rows.{Row, row, row_of, is_skipped}

-- A line without a symbol.
pub mapped_none : (escape : ℕ) (o : Option Span) (second : List ℕ) → o ≡ None →
    mapped escape o second ≡ Err Symbol
mapped_none escape o second e = ap (λ s. mapped escape s second) e

-- A line without a second word.
pub mapped_empty : (escape : ℕ) (o : Option Span) (span : Span) (second : List ℕ) → o ≡ Some span →
    length second ≡ 0 → mapped escape o second ≡ Err BadLine
mapped_empty escape o span [] e none = ap (λ s. mapped escape s []) e
mapped_empty escape o span (b ∷ bs) e none = absurd (omega arith)

-- A line with two words.
pub mapped_word : (escape : ℕ) (o : Option Span) (span : Span) (second : List ℕ) → o ≡ Some span →
    (length second ≡ 0 → ⊥) →
    mapped escape o second ≡ ranged span (code_spelled escape second)
mapped_word escape o span [] e some = absurd (some refl)
mapped_word escape o span (b ∷ bs) e some = ap (λ s. mapped escape s (b ∷ bs)) e

-- A range has its members.
pub ranged_members : (span : Span) (code : List ℕ) → is_range span code ≡ true →
    ranged span (Ok code) ≡ Ok (members span.first code (size_of span))
ranged_members span code t = rw t refl

pub ranged_none : (span : Span) (code : List ℕ) → is_range span code ≡ false →
    ranged span (Ok code) ≡ Err BadRange
ranged_none span code f = rw f refl

-- The ends of a range, and room for the code of its last point.
pub range_ends : (span : Span) (code : List ℕ) → is_range span code ≡ true →
    (span.first ≤ span.last) × (value_of code + (span.last - span.first) < 256 ^ length code)
range_ends span code t =
    let more = and_parts (leb span.first span.last && list_all is_point
    (range_with_len span.first (size_of span)))
    (ltb (value_of code + (span.last - span.first)) (256 ^ length code)) t in (
      leb-true span.first span.last
          (and_parts (leb span.first span.last)
          (list_all is_point (range_with_len span.first (size_of span))) more.0).0,
      ltb-true (value_of code + (span.last - span.first)) (256 ^ length code) more.1,
    )

-- The first two words of a line are its row.
pub same_row : (first second line : List ℕ) → first ≡ (row_of line).first →
    second ≡ (row_of line).second → row first second ≡ row_of line
same_row first second line e f = ap (λ x. row x second) e ∙ ap (λ y. row (row_of line).first y) f

-- A line that is passed over, or marked, has no pairs.
pub passed_row : (s : Signs) (r : Row) →
    (is_marked r.first || is_skipped s.comment r.first) ≡ true → row_pairs s r ≡ Ok []
passed_row s r t = rw t refl

pub mapped_row : (s : Signs) (r : Row) →
    (is_marked r.first || is_skipped s.comment r.first) ≡ false →
    row_pairs s r ≡ mapped s.escape (span_of r.first) r.second
mapped_row s r f = rw f refl

-- So many members are that many.
pub length-members : (point : ℕ) (code : List ℕ) (n : ℕ) → length (members point code n) ≡ n
length-members point code n = length-map-range_with_len (λ k. (the_pair point code k)) 0 n
  where
    the_pair : ℕ → List ℕ → ℕ → Pair
    the_pair p c k = record { point = p + k; code = big_endian (length c) (value_of c + k) }

-- Few pairs are no fault, and many are one.
pub fault_few : (n : ℕ) (o : Result (List Pair) MapKind) (ps : List Pair) → o ≡ Ok ps →
    n + length ps ≤ most_pairs → fault_behind n o ≡ None
fault_few n o ps e le = ap (fault_behind n) e ∙ rw (le-ltb most_pairs (n + length ps) le) refl

pub fault_many : (n : ℕ) (o : Result (List Pair) MapKind) (ps : List Pair) → o ≡ Ok ps →
    most_pairs < n + length ps → fault_behind n o ≡ Some TooManyPairs
fault_many n o ps e lt = ap (fault_behind n) e ∙ rw (lt-ltb most_pairs (n + length ps) lt) refl

HasPoints-from : (point : ℕ) (code : List ℕ) (a n : ℕ) →
    list_all is_point (range_with_len (point + a) n) ≡ true →
    HasPoints (map (λ k. record {
      point = point + k;
      code =
          big_endian (length code) (value_of code + k);
    }) (range_with_len a n))
HasPoints-from point code a zero t = tt
HasPoints-from point code a (suc n) t =
    let parts = and_parts (is_point (point + a))
    (list_all is_point (range_with_len (point + a + 1) n)) t in
    let next : point + a + 1 ≡ point + (a + 1) = omega arith in (
      parts.0,
      HasPoints-from point code (a + 1) n
          (ap (λ m. list_all is_point (range_with_len m n)) (sym next) ∙ parts.1),
    )

HasPoints-ranged : (span : Span) (o : Result (List ℕ) CodeFault) →
    HasPoints (ok_pairs (ranged span o))
HasPoints-ranged span (Err word_faults.BadCode) = tt
HasPoints-ranged span (Err word_faults.CodeLength) = tt
HasPoints-ranged span (Ok code) = elim (cases_Bool (is_range span code)) [
  | inr f ↦ subst (λ t. HasPoints
      (ok_pairs (cond t (Ok (members span.first code (size_of span))) (Err BadRange)))) (sym f) tt
  | inl t ↦
      let more = and_parts (leb span.first span.last && list_all is_point
      (range_with_len span.first (size_of span)))
      (ltb (value_of code + (span.last - span.first)) (256 ^ length code)) t in
      let all = (and_parts (leb span.first span.last)
      (list_all is_point (range_with_len span.first (size_of span))) more.0).1 in
      subst (λ b. HasPoints
      (ok_pairs (cond b (Ok (members span.first code (size_of span))) (Err BadRange)))) (sym t)
      (HasPoints-from span.first code 0 (size_of span)
      (ap (λ m. list_all is_point (range_with_len m (size_of span))) (add-zero span.first) ∙ all))
]

HasPoints-mapped : (escape : ℕ) (o : Option Span) (second : List ℕ) →
    HasPoints (ok_pairs (mapped escape o second))
HasPoints-mapped escape None second = tt
HasPoints-mapped escape (Some span) [] = tt
HasPoints-mapped escape (Some span) (b ∷ bs) = HasPoints-ranged span (code_spelled escape (b ∷ bs))

-- The numbers of a line's pairs are points.
pub HasPoints-row : (s : Signs) (r : Row) → HasPoints (ok_pairs (row_pairs s r))
HasPoints-row s r = go (is_marked r.first || is_skipped s.comment r.first)
  where
    go : (t : Bool) → HasPoints
        (ok_pairs (cond t (Ok []) (mapped s.escape (span_of r.first) r.second)))
    go true = tt
    go false = HasPoints-mapped s.escape (span_of r.first) r.second

-- Pairs behind others.
pub HasPoints-append : (xs ys : List Pair) → HasPoints xs → HasPoints ys → HasPoints (xs ++ ys)
HasPoints-append [] ys a b = b
HasPoints-append (x ∷ xs) ys a b = (a.0, HasPoints-append xs ys a.1 b)

-- The pairs of a line that is no fault are few with those before it.
pub few_behind : (n : ℕ) (o : Result (List Pair) MapKind) → fault_behind n o ≡ None →
    n + length (ok_pairs o) ≤ most_pairs
few_behind n (Err kind) e = absurd (none e)
  where
    none : {k : MapKind} → Some k ≡ None → ⊥
    none h = cc
few_behind n (Ok ps) e = elim (cases_Bool (ltb most_pairs (n + length ps))) [
  | inr f ↦ ltb-false most_pairs (n + length ps) f
  | inl t ↦ absurd (none (ap (λ b. cond b (Some TooManyPairs) None) (sym t) ∙ e))
]
  where
    none : {k : MapKind} → Some k ≡ None → ⊥
    none h = cc
