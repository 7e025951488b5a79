-- What holds of the names that callers give.
use Rattle.std.specs.Prelude.{◌≡◌, ◌≢◌, ◌<◌, ℕ, List, Result, IfOk, IfErr}
use Rattle.names_alias.specs.Aliases.{AliasTable, caller_name_of}
use Rattle.names_alias.specs.Builtin.{internal_name}
use Rattle.names_alias.specs.declared.fault.NameFault.{NameFault}
use Rattle.names_alias.specs.declared.fault.NameFault.TheVariants.{Suffix, Empty, LongName, Reserved}

-- A good name isn't INTERNAL.
abbrev pub IsGood : List ℕ → Type 0
IsGood name = name ≢ internal_name

-- A name that is too long has more than 64 bytes.
abbrev pub IsFault : NameFault → Type 0
IsFault (Suffix at) = Unit {0}
IsFault Empty = Unit {0}
IsFault (LongName len) = 64 < len
IsFault Reserved = Unit {0}

-- Each text of a caller stands for a good name, or has a fault.
abbrev pub CallerNamesAreGood : Type 0
CallerNamesAreGood = (table : AliasTable) (text : List ℕ)
    → IfOk (caller_name_of table text) IsGood × IfErr (caller_name_of table text) IsFault
