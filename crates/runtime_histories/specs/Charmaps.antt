-- What comes of the charmaps of modules.
use Rattle.std.specs.Prelude.{◌≡◌, ℕ, List, [], ◌∷◌, ◌++◌, map, Option, Some, Ok, Err, IfSome}
use Rattle.std.specs.Prelude.{slice_get}
use Rattle.std.specs.List.{flat_map, AllByRecursion}
use Rattle.std.specs.Str.{IsUtf8}
use Rattle.modules_conf.specs.declared.kind.Kind.{Kind}
use Rattle.code_pairs.specs.Tables as tables
use Rattle.charmap_reader.specs.Charmap.{charmap_of}
use Rattle.trie.specs.Overlaps.{IsLeastOverlap}
use Rattle.code_table.specs.Looks.{codes_of}
use Rattle.outside.specs.Shelves.{Shelf, content_of}
use Rattle.module_graph.specs.Graph.{Shape}
use Rattle.runtime_histories.specs.declared.refusals.TextFault.{TextFault}
use Rattle.runtime_histories.specs.declared.refusals.TextFault.TheVariants.{Map, Overlap}
use Rattle.runtime_histories.specs.Settings.{Source, charmaps_of, charmaps_at, path_of}

-- A charmap word of a module.
pub record Wanted : Type 0 where
  pub «module» : ℕ
  pub charmap : List ℕ

-- Words, each with the module.
abbrev pub each : ℕ → List (List ℕ) → List Wanted
each m words = map (λ word. record { «module» = m; charmap = word }) words

-- The charmap words of a module, each with it.
abbrev pub wanted_by : Shape → ℕ → List Wanted
wanted_by graph m = each m (charmaps_at graph m)

-- The charmap words of modules, in order.
abbrev pub wanted : Shape → List ℕ → List Wanted
wanted graph modules = flat_map (wanted_by graph) modules

-- The text of a charmap word.
abbrev pub text_of : Source → Shelf → List ℕ → Option (List ℕ)
text_of s shelf word = content_of shelf (path_of s.directory word)

-- The text stands for the table: it has these pairs, and no code of them begins another.
pub record IsTableText (text : Option (List ℕ)) (table : tables.Table) : Type 0 where
  pub bytes : List ℕ
  pub there : text ≡ Some bytes
  pub pairs : charmap_of bytes ≡ Ok table
  pub apart : tables.IsWellFormed table

-- The text has the fault: its own first one, or that codes of its pairs overlap.
abbrev pub HasFault : List ℕ → TextFault → Type 0
HasFault text (Map fault) = charmap_of text ≡ Err fault
HasFault text (Overlap first second) =
    (table : tables.Table) × (charmap_of text ≡ Ok table) × IsLeastOverlap (codes_of table) first second

-- There is such a text, and it has the fault.
abbrev pub IsFaulty : Option (List ℕ) → TextFault → Type 0
IsFaulty text fault = (bytes : List ℕ) × (text ≡ Some bytes) × HasFault bytes fault

-- The table is one that can be asked, and where the texts are told it is that of the word's text.
pub record IsTableOf (s : Source) (word : List ℕ) (table : tables.Table) : Type 0 where
  pub well_formed : tables.IsWellFormed table
  pub told : IfSome s.texts (λ shelf. IsTableText (text_of s shelf word) table)

-- The tables are those of the words, in order.
abbrev pub AreTablesOf : Source → List (List ℕ) → List tables.Table → Type 0
AreTablesOf s [] [] = Unit {0}
AreTablesOf s [] (t ∷ ts) = ⊥
AreTablesOf s (w ∷ ws) [] = ⊥
AreTablesOf s (w ∷ ws) (t ∷ ts) = IsTableOf s w t × AreTablesOf s ws ts

-- The words of some charmaps.
abbrev pub words_of : List Wanted → List (List ℕ)
words_of ws = map (λ w. w.charmap) ws

-- A walk of charmaps in order comes to one of them: all before it have their tables.
pub record ComesTo (s : Source) (all : List Wanted) (at : Wanted) : Type 0 where
  pub before : List Wanted
  pub behind : List Wanted
  pub whole : all ≡ before ++ at ∷ behind
  pub tables : List tables.Table
  pub read : AreTablesOf s (words_of before) tables

-- The words of a kind can stand in a path.
abbrev pub AreText : Kind → Type 0
AreText kind = AllByRecursion IsUtf8 (charmaps_of kind)

-- The words of all modules can.
abbrev pub HasText : Shape → Type 0
HasText graph = (m : ℕ) (kind : Kind) → slice_get graph.kinds m ≡ Some kind → AreText kind

-- The tables of each of some modules are those of its charmaps.
abbrev pub AreFetched : Source → Shape → List ℕ → List tables.Tables → Type 0
AreFetched s graph [] [] = Unit {0}
AreFetched s graph [] (t ∷ ts) = ⊥
AreFetched s graph (m ∷ ms) [] = ⊥
AreFetched s graph (m ∷ ms) (t ∷ ts) = AreTablesOf s (charmaps_at graph m) t × AreFetched s graph ms ts
