-- The words that callers have pinned.
use Rattle.std.specs.Prelude.{ℕ, zero, suc, ◌+◌, ◌*◌, ◌/◌, ◌%◌, ◌==◌, Bool, true, ◌&&◌, not, List, [], ◌∷◌, Option, Some, None, slice_index}
use Rattle.std.specs.List.{list_any, filter, flat_map, position_from}
use Rattle.std.specs.Option.{option_map}
use Rattle.code_pairs.specs.Tables.{Table}
use Rattle.code_table.specs.Images.{image}
use Rattle.runtime_histories.specs.Deeds.{Deeds, Desc, openings, closed}
use Rattle.runtime_histories.specs.Places.{Placed, among, places}

-- The words of the images of tables, one table after another.
abbrev pub words_of : List Table → List ℕ
words_of tables = flat_map image tables

-- The word that a module has at a place, if the place lies in one of its pages: the k-th of them has
-- the k-th 256 words of its tables' images.
abbrev pub word_in : Placed → ℕ → Option ℕ
word_in x place =
    option_map (λ k. slice_index (words_of x.tables) (256 * k + place % 256))
    (position_from (λ page. page == place / 256) 0 x.pages)

-- The word that one of some modules has at a place.
abbrev pub or_word : Option ℕ → Option ℕ → Option ℕ
or_word None o = o
or_word (Some w) o = Some w

abbrev pub word_among : List Placed → ℕ → Option ℕ
word_among [] place = None
word_among (x ∷ xs) place = or_word (word_in x place) (word_among xs place)

-- The live descriptors of a caller.
abbrev pub live_of : ℕ → Deeds → List Desc
live_of n log = filter (λ d. (d.caller == n) && not (closed d.number log)) (openings 0 log)

-- A caller holds the modules of its live descriptors; the number 0 stands for all modules.
abbrev pub holds : ℕ → Deeds → ℕ → Bool
holds zero log m = true
holds (suc n) log m = list_any (λ d. among m d.modules) (live_of (suc n) log)

-- The modules that a caller holds, with their pages.
abbrev pub held_by : ℕ → ℕ → Deeds → List Placed
held_by pages n log = filter (λ x. holds n log x.«module») (places pages log)

-- The word that a caller has pinned at a place of the store, if it has one there.
abbrev pub pinned : ℕ → Deeds → ℕ → ℕ → Option ℕ
pinned pages log n place = word_among (held_by pages n log) place
