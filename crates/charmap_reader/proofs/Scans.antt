-- The lines of a text, read one after another.
use Rattle.std.proofs.Common.{◌≡◌, ℕ, ◌+◌, ◌≤◌, Bool, true, false, eqb, nat_eq, List, [], ◌∷◌, ◌++◌, length, Option, Some, None, Result, Ok, Err, refl, sym, ap, ◌∙◌, inl, inr, arith, append_assoc, append-nil, length-append, add-zero}
use Rattle.std.specs.Option.{option_or}
use Rattle.text_lines.specs.Limits.{longest_text}
use Rattle.std.proofs.lemmas.Bool.{cases_Bool, le-ltb}
use Rattle.std.proofs.lemmas.List.{length-map}
use Rattle.std.specs.List.{starts_with, slice_split}
use Rattle.std.proofs.lemmas.List.Splits.{length-slice_split}
use Rattle.std.proofs.lemmas.List.Sums.{count_by-le-length}
use Rattle.text_lines.specs.Lines.{lines, without_empty_end}
use Rattle.std.proofs.lemmas.List.Concat.{flat_map-append}
use Rattle.std.proofs.lemmas.Grind.{fold-append}
use Rattle.code_pairs.specs.declared.Pair.{Pair}
use Rattle.charmap_reader.specs.declared.fault.MapKind.{MapKind}
use Rattle.charmap_reader.specs.declared.fault.MapKind.TheVariants.{NoStart, NoEnd}
use Rattle.charmap_reader.specs.declared.fault.MapFault.{MapFault}
use Rattle.charmap_reader.specs.Rows.{Row, row_of, rows_of}
use Rattle.charmap_reader.specs.Header.{Signs, usual_signs, signs_after, signs_behind, header_fault, is_start}
use Rattle.charmap_reader.specs.Mapping.{row_pairs, ok_pairs, pairs_of, fault_behind, mapping_fault, is_end}
use Rattle.charmap_reader.specs.Charmap.{fault_at, first_fault, until, behind, or_else, when_there, ends_mapping, ends_header, mapping_of, charmap_of_rows, charmap_of}
use Rattle.charmap_reader.specs.Scan.{pairs_then, fault_or, scan, scan_header, scan_text}

pub pairs_then_nil : (r : Result (List Pair) MapFault) → pairs_then [] r ≡ r
pairs_then_nil (Ok ps) = refl
pairs_then_nil (Err f) = refl

pub pairs_then_twice : (ps qs : List Pair) (r : Result (List Pair) MapFault) →
    pairs_then (ps ++ qs) r ≡ pairs_then ps (pairs_then qs r)
pairs_then_twice ps qs (Ok rs) = ap Ok (append_assoc ps qs rs)
pairs_then_twice ps qs (Err f) = refl

-- The mapping lines behind others, by the lines up to the end.
abbrev mapping_behind : Signs → ℕ → ℕ → List Row → List Row → Result (List Pair) MapFault
mapping_behind s count n before rows =
    or_else (first_fault n (mapping_fault s) before (until (ends_mapping s) before rows))
    (when_there NoEnd count (behind (ends_mapping s) before rows)
    (λ _. Ok (pairs_of s (before ++ until (ends_mapping s) before rows))))

pairs_of-push : (s : Signs) (before : List Row) (r : Row) →
    pairs_of s (before ++ r ∷ []) ≡ pairs_of s before ++ ok_pairs (row_pairs s r)
pairs_of-push s before r =
    flat_map-append (λ x. ok_pairs (row_pairs s x)) before (r ∷ [])
    ∙ ap (λ y. pairs_of s before ++ y) (append-nil (ok_pairs (row_pairs s r)))

mapping_step : (o : Option MapKind) (m : ℕ) (ps : List Pair)
    (rest all : Result (List Pair) MapFault) (later : Option MapFault) →
    or_else later all ≡ pairs_then ps rest →
    or_else (option_or (fault_at m o) later) all ≡ pairs_then ps (fault_or m o rest)
mapping_step None m ps rest all later e = e
mapping_step (Some k) m ps rest all later e = refl

mapping_scanned_behind : (s : Signs) (count n : ℕ) (before rows : List Row) →
    mapping_behind s count n before rows
    ≡ pairs_then (pairs_of s before)
    (scan s count (n + length before) (length (pairs_of s before)) rows)
mapping_scanned_behind s count n before [] = refl
mapping_scanned_behind s count n before (r ∷ rs) = elim (cases_Bool (is_end s r)) [
  | inl t ↦ rw t (ap (λ b. Ok (pairs_of s b)) (append-nil before)
      ∙ ap Ok (sym (append-nil (pairs_of s before))))
  | inr f ↦
      let qs = ok_pairs (row_pairs s r) in
      let next = before ++ r ∷ [] in
      let more : pairs_of s next ≡ pairs_of s before ++ qs = pairs_of-push s before r in
      let line : n + length next ≡ n + length before + 1 = simp length-append (omega arith) in
      let total : length (pairs_of s next) ≡ length (pairs_of s before) + length qs =
      ap length more ∙ length-append (pairs_of s before) qs in
      let later : mapping_behind s count n next rs
      ≡ pairs_then (pairs_of s before)
      (pairs_then qs (scan s count (n + length before + 1) (length (pairs_of s before) + length qs)
      rs)) =
      mapping_scanned_behind s count n next rs
      ∙ ap (λ m. pairs_then (pairs_of s next) (scan s count m (length (pairs_of s next)) rs)) line
      ∙ ap (λ m. pairs_then (pairs_of s next) (scan s count (n + length before + 1) m rs)) total
      ∙ ap (λ ps. pairs_then ps (scan s count (n + length before + 1)
      (length (pairs_of s before) + length qs) rs)) more
      ∙ pairs_then_twice (pairs_of s before) qs
      (scan s count (n + length before + 1) (length (pairs_of s before) + length qs) rs) in
      let lines = until (ends_mapping s) next rs in
      let joined : next ++ lines ≡ before ++ r ∷ lines = append_assoc before (r ∷ []) lines in
      rw f (mapping_step (fault_behind (length (pairs_of s before)) (row_pairs s r))
      (n + length before) (pairs_of s before)
      (pairs_then qs (scan s count (n + length before + 1) (length (pairs_of s before) + length qs) rs))
      (when_there NoEnd count (behind (ends_mapping s) next rs)
      (λ _. Ok (pairs_of s (before ++ r ∷ lines)))) (first_fault n (mapping_fault s) next lines)
      (ap (λ b. or_else (first_fault n (mapping_fault s) next lines)
      (when_there NoEnd count (behind (ends_mapping s) next rs) (λ _. Ok (pairs_of s b))))
      (sym joined) ∙ later))
]

-- The mapping lines are read one after another.
pub mapping_scanned : (s : Signs) (count n : ℕ) (rows : List Row) →
    mapping_of s count n rows ≡ scan s count n 0 rows
mapping_scanned s count n rows =
    mapping_scanned_behind s count n [] rows ∙ pairs_then_nil (scan s count (n + 0) 0 rows)
    ∙ ap (λ m. scan s count m 0 rows) (add-zero n)

-- All lines behind some of the header, by the lines up to the one that ends it.
abbrev header_behind : ℕ → List Row → List Row → Result (List Pair) MapFault
header_behind count before rows =
    let header = until ends_header before rows in
    or_else (first_fault 1 (λ b row. header_fault (signs_behind b) row) before header)
    (when_there NoStart count (behind ends_header before rows)
    (λ rest. mapping_of (signs_behind (before ++ header)) count (length (before ++ header) + 2)
    rest))

signs_behind-push : (before : List Row) (r : Row) →
    signs_behind (before ++ r ∷ []) ≡ signs_after (signs_behind before) r
signs_behind-push before r = fold-append signs_after usual_signs before (r ∷ [])

header_step : (o : Option MapKind) (m : ℕ) (rest all : Result (List Pair) MapFault)
    (later : Option MapFault) →
    or_else later all ≡ rest → or_else (option_or (fault_at m o) later) all ≡ fault_or m o rest
header_step None m rest all later e = e
header_step (Some k) m rest all later e = refl

header_scanned_behind : (count : ℕ) (before rows : List Row) →
    header_behind count before rows
    ≡ scan_header (signs_behind before) count (1 + length before) rows
header_scanned_behind count before [] = refl
header_scanned_behind count before (r ∷ rs) = elim (cases_Bool (is_start (signs_behind before) r)) [
  | inl t ↦ rw t (ap (λ b. mapping_of (signs_behind b) count (length b + 2) rs) (append-nil before)
      ∙ mapping_scanned (signs_behind before) count (length before + 2) rs
      ∙ ap (λ n. scan (signs_behind before) count n 0 rs) (omega arith))
  | inr f ↦
      let next = before ++ r ∷ [] in
      let lines = until ends_header next rs in
      let line : 1 + length next ≡ 1 + length before + 1 = simp length-append (omega arith) in
      let joined : next ++ lines ≡ before ++ r ∷ lines = append_assoc before (r ∷ []) lines in
      let later : header_behind count next rs
      ≡ scan_header (signs_after (signs_behind before) r) count (1 + length before + 1) rs =
      header_scanned_behind count next rs
      ∙ ap (λ m. scan_header (signs_behind next) count m rs) line
      ∙ ap (λ s. scan_header s count (1 + length before + 1) rs) (signs_behind-push before r) in
      rw f (header_step (header_fault (signs_behind before) r) (1 + length before)
      (scan_header (signs_after (signs_behind before) r) count (1 + length before + 1) rs)
      (when_there NoStart count (behind ends_header next rs)
      (λ rest. mapping_of (signs_behind (before ++ r ∷ lines)) count
      (length (before ++ r ∷ lines) + 2) rest))
      (first_fault 1 (λ b row. header_fault (signs_behind b) row) next lines)
      (ap (λ b. or_else (first_fault 1 (λ c row. header_fault (signs_behind c) row) next lines)
      (when_there NoStart count (behind ends_header next rs)
      (λ rest. mapping_of (signs_behind b) count (length b + 2) rest))) (sym joined) ∙ later))
]

-- A text is read line by line.
pub charmap_scanned : (rows : List Row) →
    charmap_of_rows rows ≡ scan_header usual_signs (length rows) 1 rows
charmap_scanned rows = header_scanned_behind (length rows) [] rows

-- One mapping line more.
pub scan_step : (s : Signs) (count n : ℕ) (ps : List Pair) (row : Row) (rows : List Row) →
    is_end s row ≡ false → fault_behind (length ps) (row_pairs s row) ≡ None →
    pairs_then (ps ++ ok_pairs (row_pairs s row))
    (scan s count (n + 1) (length (ps ++ ok_pairs (row_pairs s row))) rows)
    ≡ pairs_then ps (scan s count n (length ps) (row ∷ rows))
scan_step s count n ps row rows f e =
    let qs = ok_pairs (row_pairs s row) in
    ap (λ m. pairs_then (ps ++ qs) (scan s count (n + 1) m rows)) (length-append ps qs)
    ∙ pairs_then_twice ps qs (scan s count (n + 1) (length ps + length qs) rows)
    ∙ ap (pairs_then ps) (rw f (ap
    (λ o. fault_or n o (pairs_then qs (scan s count (n + 1) (length ps + length qs) rows)))
    (sym e)))

abbrev faulty : MapKind → ℕ → Result (List Pair) MapFault
faulty kind n = Err (record { kind = kind; line = n })

-- A mapping line with a fault.
pub scan_fault : (s : Signs) (count n : ℕ) (ps : List Pair) (row : Row) (rows : List Row)
    (kind : MapKind) → is_end s row ≡ false →
    fault_behind (length ps) (row_pairs s row) ≡ Some kind →
    pairs_then ps (scan s count n (length ps) (row ∷ rows)) ≡ Err (record { kind = kind; line = n })
scan_fault s count n ps row rows kind f e =
    let rest = pairs_then (ok_pairs (row_pairs s row))
    (scan s count (n + 1) (length ps + length (ok_pairs (row_pairs s row))) rows) in
    let told : fault_or n (fault_behind (length ps) (row_pairs s row)) rest ≡ faulty kind n =
    ap (λ o. fault_or n o rest) e in
    rw f (ap (pairs_then ps) told)

-- The line that ends the mapping lines.
pub scan_end : (s : Signs) (count n : ℕ) (ps : List Pair) (row : Row) (rows : List Row) →
    is_end s row ≡ true → pairs_then ps (scan s count n (length ps) (row ∷ rows)) ≡ Ok ps
scan_end s count n ps row rows t = rw t (ap Ok (append-nil ps))

without_empty_end-length : (parts : List (List ℕ)) → length (without_empty_end parts) ≤ length parts
without_empty_end-length [] = omega arith
without_empty_end-length (part ∷ []) =
    elim (cases_Bool (eqb (length part) 0))
    [ inl t ↦ rw t (omega arith) | inr f ↦ rw f (omega arith) ]
without_empty_end-length (part ∷ next ∷ more) =
    omega (arith, without_empty_end-length (next ∷ more))

-- A text has at most one line more than it has bytes.
pub length-lines : (text : List ℕ) → length (lines text) ≤ length text + 1
length-lines text =
    let newline : ℕ → Bool = λ b. eqb b 10 in
    omega (
      arith,
      without_empty_end-length (slice_split newline text),
      length-slice_split newline
          text,
      count_by-le-length newline text,
    )

-- A text of few bytes that isn't compressed is read line by line.
pub charmap_read : (text : List ℕ) → length text ≤ longest_text →
    starts_with nat_eq text (0x1F ∷ 0x8B ∷ []) ≡ false →
    charmap_of text ≡ scan_text text
charmap_read text few plain =
    rw (le-ltb longest_text (length text) few, plain) (charmap_scanned (rows_of text)
    ∙ ap (λ n. scan_header usual_signs n 1 (rows_of text)) (length-map (lines text) row_of))
