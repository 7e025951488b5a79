-- What a charmap text stands for.
use Rattle.std.specs.Prelude.{ℕ, ◌+◌, Bool, if◌then◌else◌, nat_lt, nat_eq, List, [], ◌∷◌, ◌++◌, length, Option, Some, None, Result, Ok, Err}
use Rattle.std.specs.List.{starts_with}
use Rattle.std.specs.Option.{option_or}
use Rattle.text_lines.specs.Limits.{longest_text}
use Rattle.code_pairs.specs.declared.Pair.{Pair}
use Rattle.charmap_reader.specs.Rows.{Row, rows_of}
use Rattle.charmap_reader.specs.Header.{Signs, signs_behind, header_fault, is_start}
use Rattle.charmap_reader.specs.Mapping.{is_end, pairs_of, mapping_fault}
use Rattle.charmap_reader.specs.declared.fault.MapKind.{MapKind}
use Rattle.charmap_reader.specs.declared.fault.MapKind.TheVariants.{NoStart, NoEnd, TooLong, Compressed}
use Rattle.charmap_reader.specs.declared.fault.MapFault.{MapFault}

-- A fault of that kind in the line of that number.
abbrev pub fault_at : ℕ → Option MapKind → Option MapFault
fault_at n None = None
fault_at n (Some kind) = Some (record { kind = kind; line = n })

-- The first fault of lines that follow others, of which the first has the number n: each line is
-- judged with all lines before it.
abbrev pub first_fault : ℕ → (List Row → Row → Option MapKind) → List Row → List Row →
    Option MapFault
first_fault n fault before [] = None
first_fault n fault before (row ∷ rows) =
    option_or (fault_at (n + length before) (fault before row))
    (first_fault n fault (before ++ row ∷ []) rows)

-- The lines up to the first that passes a test, each tested with the lines before it.
abbrev pub until : (List Row → Row → Bool) → List Row → List Row → List Row
until passes before [] = []
until passes before (row ∷ rows) =
    if passes before row then [] else row ∷ until passes (before ++ row ∷ []) rows

-- The lines behind the first that passes a test, if there is one.
abbrev pub behind : (List Row → Row → Bool) → List Row → List Row → Option (List Row)
behind passes before [] = None
behind passes before (row ∷ rows) =
    if passes before row then Some rows else behind passes (before ++ row ∷ []) rows

abbrev pub or_else : Option MapFault → Result (List Pair) MapFault → Result (List Pair) MapFault
or_else (Some fault) result = Err fault
or_else None result = result

-- What comes of the lines behind one that has to be there, in a text of so many lines.
abbrev pub when_there : MapKind → ℕ → Option (List Row) →
    (List Row → Result (List Pair) MapFault) → Result (List Pair) MapFault
when_there missing count None result = Err (record { kind = missing; line = count })
when_there missing count (Some rows) result = result rows

-- Whether a line ends the mapping lines, and whether it ends the header behind these lines.
abbrev pub ends_mapping : Signs → List Row → Row → Bool
ends_mapping signs before row = is_end signs row

abbrev pub ends_header : List Row → Row → Bool
ends_header before row = is_start (signs_behind before) row

-- The mapping lines of a text of so many lines, of which the first has the number n: the first
-- fault before the line that ends them, the want of that line, or the pairs.
abbrev pub mapping_of : Signs → ℕ → ℕ → List Row → Result (List Pair) MapFault
mapping_of signs count n rows =
    let lines = until (ends_mapping signs) [] rows in
    or_else (first_fault n (mapping_fault signs) [] lines)
    (when_there NoEnd count (behind (ends_mapping signs) [] rows)
    (λ _. Ok (pairs_of signs lines)))

-- All lines of a text: the first fault of the header, the want of the line that ends it, or what
-- the mapping lines behind that line are, with the characters that are in force there.
abbrev pub charmap_of_rows : List Row → Result (List Pair) MapFault
charmap_of_rows rows =
    let header = until ends_header [] rows in
    or_else (first_fault 1 (λ before row. header_fault (signs_behind before) row) [] header)
    (when_there NoStart (length rows) (behind ends_header [] rows)
    (λ rest. mapping_of (signs_behind header) (length rows) (length header + 2) rest))

-- What a charmap text stands for, or its first fault.
abbrev pub charmap_of : List ℕ → Result (List Pair) MapFault
charmap_of text =
    if nat_lt longest_text (length text) then Err (record { kind = TooLong; line = 0 })
    else (if starts_with nat_eq text (0x1F ∷ 0x8B ∷ [])
    then Err (record { kind = Compressed; line = 0 }) else charmap_of_rows (rows_of text))
