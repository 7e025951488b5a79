-- The mapping lines.
use Rattle.std.specs.Prelude.{ℕ, ◌+◌, ◌-◌, ◌^◌, Bool, ◌&&◌, ◌||◌, not, if◌then◌else◌, nat_le, nat_lt, nat_eq, List, [], ◌∷◌, length, map, codes, Option, Some, None, Result, Ok, Err}
use Rattle.std.specs.List.{list_all, starts_with, flat_map, range_with_len}
use Rattle.std.specs.Str.{bytes_eq}
use Rattle.code_pairs.specs.Bytes.{big_endian, value_of}
use Rattle.code_pairs.specs.declared.Pair.{Pair}
use Rattle.code_pairs.specs.Tables.{is_point}
use Rattle.charmap_words.specs.declared.Span.{Span}
use Rattle.charmap_words.specs.Symbols.{span_of}
use Rattle.charmap_words.specs.Spelling.{code_spelled}
use Rattle.charmap_words.specs.declared.codes.CodeFault.{CodeFault}
use Rattle.charmap_words.specs.declared.codes.CodeFault.TheVariants as word_faults
use Rattle.charmap_reader.specs.Limits.{most_pairs}
use Rattle.charmap_reader.specs.Rows.{Row, is_skipped}
use Rattle.charmap_reader.specs.Header.{Signs}
use Rattle.charmap_reader.specs.declared.fault.MapKind.{MapKind}
use Rattle.charmap_reader.specs.declared.fault.MapKind.TheVariants.{BadLine, Symbol, BadCode, CodeLength, BadRange, TooManyPairs}

-- The line ends the mapping lines.
abbrev pub is_end : Signs → Row → Bool
is_end signs row =
    not (is_skipped signs.comment row.first) && bytes_eq row.first (codes "END")
    && bytes_eq row.second (codes "CHARMAP")

-- The line is marked as one that isn't written back, and is passed over.
abbrev pub is_marked : List ℕ → Bool
is_marked first = starts_with nat_eq first (codes "%IRREVERSIBLE%")

-- The pairs from a point and a code on: each next point and each next code is greater by 1.
abbrev pub members : ℕ → List ℕ → ℕ → List Pair
members point code count =
    map (λ k. record { point = point + k; code = big_endian (length code) (value_of code + k) })
    (range_with_len 0 count)

-- The number of points of a span.
abbrev pub size_of : Span → ℕ
size_of span = span.last - span.first + 1

-- The span doesn't end before it begins, all between its ends are points, and the code of its last
-- point has as many bytes as that of its first.
abbrev pub is_range : Span → List ℕ → Bool
is_range span code =
    nat_le span.first span.last && list_all is_point (range_with_len span.first (size_of span))
    && nat_lt (value_of code + (span.last - span.first)) (256 ^ length code)

-- The pairs of a span with the code of its first point.
abbrev pub ranged : Span → Result (List ℕ) CodeFault → Result (List Pair) MapKind
ranged span (Err word_faults.BadCode) = Err BadCode
ranged span (Err word_faults.CodeLength) = Err CodeLength
ranged span (Ok code) =
    if is_range span code then Ok (members span.first code (size_of span)) else Err BadRange

-- The pairs of a line that is neither passed over nor marked, or its fault.
abbrev pub mapped : ℕ → Option Span → List ℕ → Result (List Pair) MapKind
mapped escape None second = Err Symbol
mapped escape (Some span) [] = Err BadLine
mapped escape (Some span) (b ∷ bs) = ranged span (code_spelled escape (b ∷ bs))

-- The pairs of a mapping line, or its fault.
abbrev pub row_pairs : Signs → Row → Result (List Pair) MapKind
row_pairs signs row =
    if is_marked row.first || is_skipped signs.comment row.first then Ok []
    else mapped signs.escape (span_of row.first) row.second

abbrev pub ok_pairs : Result (List Pair) MapKind → List Pair
ok_pairs (Ok pairs) = pairs
ok_pairs (Err kind) = []

-- The pairs of mapping lines, one after another.
abbrev pub pairs_of : Signs → List Row → List Pair
pairs_of signs rows = flat_map (λ row. ok_pairs (row_pairs signs row)) rows

-- The fault of a line with these pairs behind so many others.
abbrev pub fault_behind : ℕ → Result (List Pair) MapKind → Option MapKind
fault_behind count (Err kind) = Some kind
fault_behind count (Ok pairs) =
    if nat_lt most_pairs (count + length pairs) then Some TooManyPairs else None

-- The fault of a mapping line behind other mapping lines.
abbrev pub mapping_fault : Signs → List Row → Row → Option MapKind
mapping_fault signs before row = fault_behind (length (pairs_of signs before)) (row_pairs signs row)
