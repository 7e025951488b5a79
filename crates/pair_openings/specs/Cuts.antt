-- Pages for several modules. No public clause cites it but for `cut_by` and `needs`.
use Rattle.std.specs.Prelude.{ℕ, ◌+◌, List, [], ◌∷◌, map, take, drop}
use Rattle.code_pairs.specs.Tables.{Tables}
use Rattle.runtime_histories.specs.Places.{pages_for}

-- Pages cut into parts of these sizes, one after another.
abbrev pub cut_by : List ℕ → List ℕ → List (List ℕ)
cut_by pages [] = []
cut_by pages (n ∷ ns) = take n pages ∷ cut_by (drop n pages) ns

-- How many pages the tables of each module need.
abbrev pub needs : List Tables → List ℕ
needs all = map pages_for all

-- How many pages all of them need.
abbrev pub total : List ℕ → ℕ
total [] = 0
total (n ∷ ns) = n + total ns
