-- How many jobs there may be, and what an input has that is made for a number.
use Rattle.std.specs.Prelude.{ℕ}

-- the most jobs
abbrev pub most_jobs : ℕ
most_jobs = 4096

-- the greatest number for which an input is made
abbrev pub most_number : ℕ
most_number = 1000

-- the charmaps of a made input, and its jobs
abbrev pub made_charmaps : ℕ
made_charmaps = 8

abbrev pub made_jobs : ℕ
made_jobs = 64

-- the lines of a made charmap that map a point to two bytes
abbrev pub made_lines : ℕ
made_lines = 1024

-- the points of the input of a made job
abbrev pub made_points : ℕ
made_points = 65536
