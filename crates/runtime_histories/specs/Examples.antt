-- A store of few pages, by computation: which modules stay, where their tables stand, and what is asked of
-- the library.
use Rattle.std.specs.Prelude.{◌≡◌, ℕ, ◌+◌, ◌*◌, true, false, List, [], ◌∷◌, ◌++◌, codes, Some, None, refl}
use Rattle.std.specs.declared.snapshot.Snapshot.{Snapshot}
use Rattle.code_pairs.specs.Tables.{Table}
use Rattle.code_table.specs.Images.{page_count}
use Rattle.modules_conf.specs.declared.lines.EdgeLine.{EdgeLine}
use Rattle.modules_conf.specs.declared.bindings.Binding.{Binding}
use Rattle.modules_conf.specs.declared.kind.Kind.TheVariants as kinds
use Rattle.module_graph.specs.Graph.{Shape}
use Rattle.module_graph.specs.Edges.{builtin_edges}
use Rattle.module_graph.specs.Numbers.{graph_of}
use Rattle.runtime_histories.specs.declared.refusals.Asked.TheVariants.{Good}
use Rattle.runtime_histories.specs.declared.loads.Load.{Load}
use Rattle.runtime_histories.specs.declared.entries.Reply.TheVariants.{Opened}
use Rattle.runtime_histories.specs.declared.entries.Event.TheVariants.{Opening, Closing}
use Rattle.runtime_histories.specs.declared.entries.Entry.{Entry}
use Rattle.runtime_histories.specs.Deeds.{marks}
use Rattle.runtime_histories.specs.Residence.{resident}
use Rattle.runtime_histories.specs.Places.{pages_of, places, free}
use Rattle.runtime_histories.specs.Entries.{deeds}
use Rattle.runtime_histories.specs.Settings.{Setting, modules_of}
use Rattle.runtime_histories.specs.Charmaps.{wanted}
use Rattle.runtime_histories.specs.Fetches.{paths_of}
use Rattle.runtime_histories.specs.Legal.{absent_among}
use Rattle.runtime_histories.specs.Pins.{pinned}

-- The table of one pair, which has four pages.
abbrev pub one : Table
one = record { point = 0x41; code = 0x41 ∷ [] } ∷ []

pub four_pages : page_count one ≡ 4
four_pages = refl

-- Three sets, each with a module of its own: SA, SB and SC by TA, TB and TC.
abbrev edge_line : ℕ → List ℕ → List ℕ → List ℕ → EdgeLine
edge_line line source target bound = record { line = line; source = source; target = target; «module» = bound; cost = 1 }

abbrev binding : ℕ → List ℕ → List ℕ → Binding
binding line name map = record { line = line; name = name; kind = kinds.Table map }

abbrev pub graph : Shape
graph = graph_of
    (edge_line 1 (codes "SA//") (codes "INTERNAL//") (codes "TA") ∷ edge_line 2 (codes "INTERNAL//") (codes "SA//") (codes "TA")
    ∷ edge_line 3 (codes "SB//") (codes "INTERNAL//") (codes "TB") ∷ edge_line 4 (codes "INTERNAL//") (codes "SB//") (codes "TB")
    ∷ edge_line 5 (codes "SC//") (codes "INTERNAL//") (codes "TC") ∷ edge_line 6 (codes "INTERNAL//") (codes "SC//") (codes "TC") ∷ [])
    (binding 1 (codes "TA") (codes "CA") ∷ binding 2 (codes "TB") (codes "CB") ∷ binding 3 (codes "TC") (codes "CC") ∷ [])

-- The sets have the modules 0, 1 and 2.
pub their_modules : (modules_of graph.edges (16 ∷ 3 ∷ []) ≡ 0 ∷ []) × (modules_of graph.edges (18 ∷ 3 ∷ []) ≡ 1 ∷ [])
    × (modules_of graph.edges (16 ∷ 19 ∷ []) ≡ 0 ∷ 1 ∷ [])
unfolding builtin_edges
their_modules = (refl, refl, refl)

abbrev pub setting : ℕ → Setting
setting pages = record {
  first = record { graph = graph; aliases = record { fixed = []; pairs = [] } };
  source = record { directory = codes "d"; texts = None };
  pages = pages;
}

abbrev snapshot : {T : Type 0} → T → Snapshot T
snapshot x = record { marker = record {}; value = x }

abbrev load : ℕ → Load
load m = record { «module» = m; pages = 4; tables = snapshot (one ∷ []) }

-- Caller 1 opens the set of a module to UTF-8, and loads these modules.
abbrev opening : List ℕ → ℕ → List Load → Entry
opening name m loads = record {
  caller = 1;
  event = Opening (Good name) (Good (codes "UTF-8//"))
      (Opened ((16 + 2 * m) ∷ 3 ∷ []) 2 loads (snapshot (m ∷ [])));
}

abbrev closing : ℕ → Entry
closing number = record { caller = 1; event = Closing number }

abbrev open_close : ℕ → List ℕ → ℕ → List Load → List Entry
open_close number name m loads = opening name m loads ∷ closing number ∷ []

-- SA, SB and SC were opened and closed.
abbrev pub three_sets : List Entry
three_sets = open_close 0 (codes "SA//") 0 (load 0 ∷ []) ++ open_close 2 (codes "SB//") 1 (load 1 ∷ [])
    ++ open_close 4 (codes "SC//") 2 (load 2 ∷ [])

-- Then SB was opened and closed again.
abbrev pub four_times : List Entry
four_times = three_sets ++ open_close 6 (codes "SB//") 1 []

-- What an opening of the set of a module asks for.
abbrev asks : List Entry → ℕ → List (List ℕ)
asks entries m = paths_of (setting 12).source (wanted graph (absent_among (deeds entries) (m ∷ [])))

-- The module of SA is kept at the second release of others, and asked for again after the third.
pub kept_for_two : (resident (marks (deeds three_sets)) 0 ≡ true) × (asks three_sets 0 ≡ [])
kept_for_two = (refl, refl)

pub gone_after_three : (resident (marks (deeds four_times)) 0 ≡ false) × (asks four_times 0 ≡ codes "d/CA" ∷ [])
unfolding builtin_edges
gone_after_three = (refl, refl)

-- Before, each opening asked for the charmap of its set, but not the second one of SB.
pub asked_before : (asks [] 0 ≡ codes "d/CA" ∷ []) × (asks (open_close 0 (codes "SA//") 0 (load 0 ∷ [])) 1 ≡ codes "d/CB" ∷ [])
    × (asks three_sets 1 ≡ [])
unfolding builtin_edges
asked_before = (refl, refl, refl)

-- The pages of SA are free again, and are taken by it when it is loaded again.
pub places_then : (free 12 (deeds four_times) ≡ 4)
    × (pages_of 1 (places 12 (deeds four_times)) ≡ 4 ∷ 5 ∷ 6 ∷ 7 ∷ [])
    × (pages_of 0 (places 12 (deeds (four_times ++ opening (codes "SA//") 0 (load 0 ∷ []) ∷ []))) ≡ 0 ∷ 1 ∷ 2 ∷ 3 ∷ [])
places_then = (refl, refl, refl)

-- With two descriptors of SA, one of which is closed, its module stays.
abbrev pub held_twice : List Entry
held_twice = opening (codes "SA//") 0 (load 0 ∷ []) ∷ opening (codes "SA//") 0 [] ∷ closing 0 ∷ []
    ++ open_close 3 (codes "SB//") 1 (load 1 ∷ []) ++ open_close 5 (codes "SC//") 2 (load 2 ∷ [])
    ++ open_close 7 (codes "SB//") 1 [] ++ open_close 9 (codes "SC//") 2 []

pub stays_resident : (resident (marks (deeds held_twice)) 0 ≡ true) × (asks held_twice 0 ≡ []) × (free 12 (deeds held_twice) ≡ 0)
stays_resident = (refl, refl, refl)

-- The words of SA's table are pinned by caller 1, and by nobody else but for all.
pub pinned_words : (pinned 12 (deeds held_twice) 1 65 ≡ Some 0x4000000000000041) × (pinned 12 (deeds held_twice) 2 65 ≡ None)
    × (pinned 12 (deeds held_twice) 0 65 ≡ Some 0x4000000000000041)
pinned_words = (refl, refl, refl)

-- SA to SB needs the pages of two tables: with eight pages nothing is left, with seven there are too few.
abbrev pub both : Entry
both = record {
  caller = 1;
  event = Opening (Good (codes "SA//")) (Good (codes "SB//"))
      (Opened (16 ∷ 19 ∷ []) 2 (load 0 ∷ load 1 ∷ []) (snapshot (0 ∷ 1 ∷ [])));
}

pub two_tables : (free 8 (deeds (both ∷ [])) ≡ 0) × (free 7 (deeds []) ≡ 7)
    × (pages_of 1 (places 8 (deeds (both ∷ []))) ≡ 4 ∷ 5 ∷ 6 ∷ 7 ∷ [])
    × (paths_of (setting 7).source (wanted graph (absent_among (deeds []) (0 ∷ 1 ∷ []))) ≡ codes "d/CA" ∷ codes "d/CB" ∷ [])
unfolding builtin_edges
two_tables = (refl, refl, refl, refl)
