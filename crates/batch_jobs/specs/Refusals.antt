-- The texts of refusals. Numbers are decimal, codes are hexadecimal in upper case.
use Rattle.std.specs.Prelude.{ℕ, ◌+◌, ◌/◌, ◌%◌, [], ◌∷◌, ◌++◌, codes, nat_lt, if◌then◌else◌}
use Rattle.std.specs.Fmt.{decimal}
use Rattle.names_alias.specs.declared.fault.NameFault.{NameFault}
use Rattle.names_alias.specs.declared.fault.NameFault.TheVariants as name
use Rattle.charmap_reader.specs.Faults.{number_of}
use Rattle.runtime_histories.specs.declared.refusals.End.{End}
use Rattle.runtime_histories.specs.declared.refusals.End.TheVariants.{From, To}
use Rattle.runtime_histories.specs.declared.refusals.TextFault.{TextFault}
use Rattle.runtime_histories.specs.declared.refusals.TextFault.TheVariants.{Map, Overlap}
use Rattle.runtime_histories.specs.declared.refusals.Refusal.{Refusal}
use Rattle.runtime_histories.specs.declared.refusals.Refusal.TheVariants.{BadName, NoConversion, LibraryFault, NoCharmap, BadCharmap, StoreFull, JournalFull, Memory}
use Rattle.batch_jobs.specs.Jobs.{Text}

-- A hexadecimal digit: 0 to 9, then A to F.
abbrev pub hex_digit : ℕ → ℕ
hex_digit d = if nat_lt d 10 then 48 + d else 55 + d

-- Bytes, two hexadecimal digits each.
abbrev pub hex_text : Text → Text
hex_text [] = []
hex_text (b ∷ bs) = hex_digit (b / 16) ∷ hex_digit (b % 16) ∷ hex_text bs

-- Which name of a pair is bad.
abbrev pub end_text : End → Text
end_text From = codes "bad name from: "
end_text To = codes "bad name to: "

-- What is wrong with a name.
abbrev pub name_fault_text : NameFault → Text
name_fault_text (name.Suffix at) = codes "suffix at " ++ decimal at
name_fault_text name.Empty = codes "empty"
name_fault_text (name.LongName len) = codes "too long " ++ decimal len
name_fault_text name.Reserved = codes "reserved"

-- What is wrong with the text of a charmap: the number of its fault and the line, or two codes.
abbrev pub text_fault_text : TextFault → Text
text_fault_text (Map fault) =
    codes "M" ++ (decimal (number_of fault.kind) ++ (codes " line " ++ decimal fault.line))
text_fault_text (Overlap first second) =
    codes "M10 " ++ (hex_text first ++ (codes " " ++ hex_text second))

-- Why a pair isn't opened. Want of memory has no text.
abbrev pub refusal_text : Refusal → Text
refusal_text (BadName which fault) = end_text which ++ name_fault_text fault
refusal_text NoConversion = codes "no conversion"
refusal_text (LibraryFault m charmap) = codes "charmap fault " ++ charmap
refusal_text (NoCharmap m charmap) = codes "no charmap " ++ charmap
refusal_text (BadCharmap m charmap fault) =
    codes "bad charmap " ++ (charmap ++ (codes ": " ++ text_fault_text fault))
refusal_text (StoreFull need free) =
    codes "store full need " ++ (decimal need ++ (codes " free " ++ decimal free))
refusal_text (JournalFull n) = codes "journal full at " ++ decimal n
refusal_text Memory = []
