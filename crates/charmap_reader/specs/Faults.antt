-- The faults of charmap texts.
use Rattle.std.specs.Prelude.{◌≡◌, ℕ, List, Result, Err}
use Rattle.code_pairs.specs.declared.Pair.{Pair}
use Rattle.charmap_reader.specs.declared.fault.MapKind.{MapKind}
use Rattle.charmap_reader.specs.declared.fault.MapKind.TheVariants.{NoStart, NoEnd, BadLine, Symbol, BadCode, CodeLength, BadRange, TooLong, Compressed, TooManyPairs}
use Rattle.charmap_reader.specs.declared.fault.MapFault.{MapFault}
use Rattle.charmap_reader.specs.declared.fault.ReadFault.{ReadFault}
use Rattle.charmap_reader.specs.declared.fault.ReadFault.TheVariants.{Text, Memory}

-- The number by which a report names a kind.
abbrev pub number_of : MapKind → ℕ
number_of NoStart = 1
number_of NoEnd = 2
number_of BadLine = 3
number_of Symbol = 4
number_of BadCode = 5
number_of CodeLength = 6
number_of BadRange = 7
number_of TooLong = 8
number_of Compressed = 9
number_of TooManyPairs = 11

-- The text has this fault; want of memory may come of any text.
abbrev pub Fails : ReadFault → Result (List Pair) MapFault → Type 0
Fails Memory read = Unit {0}
Fails (Text fault) read = read ≡ Err fault
