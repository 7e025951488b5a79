-- The limits of what words may ask for.
use Rattle.std.specs.Prelude.{ℕ}

-- the most bytes of the name of a set
abbrev pub longest_name : ℕ
longest_name = 16777216

-- the most pages of a store, and how many it has where none are named
abbrev pub most_pages : ℕ
most_pages = 65536

abbrev pub usual_pages : ℕ
usual_pages = 16384

-- the most workers, and how many there are where none are named
abbrev pub most_workers : ℕ
most_workers = 64

abbrev pub usual_workers : ℕ
usual_workers = 4

-- the greatest number for which an input is made; the least is 1
abbrev pub most_number : ℕ
most_number = 1000
