-- Files, texts and output in memory.
use Rattle.std.specs.Prelude.{ℕ, List, map, Option, Some, None, Bool, true, false, String, Vec, string_bytes}
use Rattle.std.specs.declared.alloc.Global.{Global}
use Rattle.outside.specs.Shelves.{File, Shelf}
use Rattle.outside.specs.FaultPlans.{Plan}

-- a name and bytes as a file
abbrev pub file_of : String Global × Vec ℕ Global → File
file_of pair = record { name = string_bytes pair.0; bytes = pair.1.items }

-- names and bytes as a shelf
abbrev pub shelf_of : List (String Global × Vec ℕ Global) → Shelf
shelf_of pairs = map file_of pairs

-- files in memory whose calls may fail
pub record FailingFiles : Type 0 where
  pub files : Shelf
  pub plan : Plan
  pub takes : ℕ
  pub puts : ℕ

-- texts in memory, and the paths that were asked for
pub record Texts : Type 0 where
  pub texts : Shelf
  pub asked : List (List ℕ)

-- texts in memory whose fetches may fail
pub record FailingTexts : Type 0 where
  pub texts : Shelf
  pub asked : List (List ℕ)
  pub plan : Plan
  pub faults : ℕ

-- the paths of a list of strings
abbrev pub paths_of : List (String Global) → List (List ℕ)
paths_of paths = map (λ (path : String Global). string_bytes path) paths

-- output in memory whose calls may fail
pub record FailingOutput : Type 0 where
  pub written : List ℕ
  pub plan : Plan
  pub faults : ℕ

-- the bytes, where they are told
abbrev pub told_where : Bool → List ℕ → Option (List ℕ)
told_where true bytes = Some bytes
told_where false bytes = None
