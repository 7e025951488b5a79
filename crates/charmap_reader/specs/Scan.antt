-- A text as it is read, line by line. No public clause cites it.
use Rattle.std.specs.Prelude.{◌≡◌, ℕ, ◌+◌, ◌-◌, true, false, if◌then◌else◌, List, [], ◌∷◌, ◌++◌, length, Option, Some, None, Result, Ok, Err}
use Rattle.text_lines.specs.Lines.{lines}
use Rattle.code_pairs.specs.declared.Pair.{Pair}
use Rattle.charmap_reader.specs.Rows.{Row, rows_of}
use Rattle.charmap_reader.specs.Header.{Signs, usual_signs, signs_after, header_fault, is_start}
use Rattle.charmap_reader.specs.Mapping.{row_pairs, ok_pairs, fault_behind, is_end}
use Rattle.charmap_reader.specs.declared.fault.MapKind.{MapKind}
use Rattle.charmap_reader.specs.declared.fault.MapKind.TheVariants.{NoStart, NoEnd, BadLine}
use Rattle.charmap_reader.specs.declared.fault.MapFault.{MapFault}
use Rattle.charmap_reader.specs.declared.header.HeaderLine.{HeaderLine}
use Rattle.charmap_reader.specs.declared.header.HeaderLine.TheVariants.{Start}
use Rattle.charmap_reader.specs.declared.header.HeaderLine.TheVariants as header_lines
use Rattle.charmap_reader.specs.declared.mapping.MappingLine.{MappingLine}
use Rattle.charmap_reader.specs.declared.mapping.MappingLine.TheVariants.{End, More, Bad}

-- These pairs, and then those of a result.
abbrev pub pairs_then : List Pair → Result (List Pair) MapFault → Result (List Pair) MapFault
pairs_then before (Ok pairs) = Ok (before ++ pairs)
pairs_then before (Err fault) = Err fault

-- The fault of line n, or what comes of the rest.
abbrev pub fault_or : ℕ → Option MapKind → Result (List Pair) MapFault →
    Result (List Pair) MapFault
fault_or n (Some kind) rest = Err (record { kind = kind; line = n })
fault_or n None rest = rest

-- The mapping lines from line n on, behind so many pairs, in a text of so many lines.
abbrev pub scan : Signs → ℕ → ℕ → ℕ → List Row → Result (List Pair) MapFault
scan signs count n total [] = Err (record { kind = NoEnd; line = count })
scan signs count n total (row ∷ rows) =
    if is_end signs row then Ok []
    else fault_or n (fault_behind total (row_pairs signs row))
    (pairs_then (ok_pairs (row_pairs signs row))
    (scan signs count (n + 1) (total + length (ok_pairs (row_pairs signs row))) rows))

-- The lines from line n on, where line n belongs to the header, in a text of so many lines.
abbrev pub scan_header : Signs → ℕ → ℕ → List Row → Result (List Pair) MapFault
scan_header signs count n [] = Err (record { kind = NoStart; line = count })
scan_header signs count n (row ∷ rows) =
    if is_start signs row then scan signs count (n + 1) 0 rows
    else fault_or n (header_fault signs row)
    (scan_header (signs_after signs row) count (n + 1) rows)

-- What a whole text stands for, from its first line on.
abbrev pub scan_text : List ℕ → Result (List Pair) MapFault
scan_text text = scan_header usual_signs (length (lines text)) 1 (rows_of text)

-- What the mapping lines at the end of a text stand for, of which the first has that number.
abbrev pub scan_rest : Signs → ℕ → List ℕ → Result (List Pair) MapFault
scan_rest signs first text = scan signs (first + length (lines text) - 1) first 0 (rows_of text)

-- What a header line is where these characters are in force.
abbrev pub IsHeaderLine : Signs → Row → HeaderLine → Type 0
IsHeaderLine signs row Start = is_start signs row ≡ true
IsHeaderLine signs row (header_lines.More after) =
    (is_start signs row ≡ false) × (header_fault signs row ≡ None) × (after ≡ signs_after signs row)
IsHeaderLine signs row header_lines.Bad =
    (is_start signs row ≡ false) × (header_fault signs row ≡ Some BadLine)

-- What a mapping line is behind these pairs, and the pairs behind it.
abbrev pub IsMappingLine : Signs → Row → List Pair → MappingLine → List Pair → Type 0
IsMappingLine signs row before End after = (is_end signs row ≡ true) × (after ≡ before)
IsMappingLine signs row before More after =
    (is_end signs row ≡ false) × (fault_behind (length before) (row_pairs signs row) ≡ None)
    × (after ≡ before ++ ok_pairs (row_pairs signs row))
IsMappingLine signs row before (Bad kind) after =
    (is_end signs row ≡ false) × (fault_behind (length before) (row_pairs signs row) ≡ Some kind)
