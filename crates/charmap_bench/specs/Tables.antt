-- What a charmap text gives.
use Rattle.std.specs.Prelude.{◌≡◌, ℕ, List, length, Ok, MatchResult}
use Rattle.code_pairs.specs.Tables.{IsWellFormed}
use Rattle.charmap_reader.specs.Charmap.{charmap_of}
use Rattle.charmap_reader.specs.Faults.{Fails}
use Rattle.code_table.specs.Faults.{IsTableFault}
use Rattle.charmap_bench.specs.declared.tables.Built.{Built}
use Rattle.charmap_bench.specs.declared.tables.Refusal.{Refusal}
use Rattle.charmap_bench.specs.declared.tables.Refusal.TheVariants.{Text, Table}

-- The table is that of the text's pairs, which were counted, and no code begins another.
pub record IsBuilt (text : List ℕ) (built : Built) : Type 0 where
  pub read : charmap_of text ≡ Ok built.table
  pub pairs : built.pairs ≡ length built.table
  pub apart : IsWellFormed built.table

-- What each refusal says of a text: its first fault, or, where it has none, what is wrong with its pairs.
abbrev pub IsRefusal : List ℕ → Refusal → Type 0
IsRefusal text (Text fault) = Fails fault (charmap_of text)
IsRefusal text (Table fault) =
    MatchResult (charmap_of text) (λ pairs. IsTableFault pairs fault) (λ _. ⊥)
