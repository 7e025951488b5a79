-- The texts in which charmaps spell points, each kept in one number.
use Rattle.std.specs.Prelude.{◌≡◌, ℕ, ◌-◌, ◌*◌, ◌/◌, ◌%◌, List, [], ◌∷◌, map, nat_lt, if◌then◌else◌}
use Rattle.std.specs.List.{range_with_len}
use Rattle.batch_jobs.specs.Jobs.{Text}
use Rattle.batch_jobs.specs.Generated.{point_at, spelled}

-- the bytes that have room for the points of a job
abbrev pub made_bytes : ℕ
made_bytes = 131072

-- the points that the charmaps spell for the upper halves of seeds: 32,768 each
abbrev pub made_places : ℕ
made_places = 262144

-- The text that a number stands for: one byte, or two from 256 on, the low byte first.
abbrev pub packed_text : ℕ → Text
packed_text word = if nat_lt word 256 then word ∷ [] else word % 256 ∷ word / 256 ∷ []

-- How the charmap of this place spells its point: 32,768 places for each, one for the upper half of a seed.
abbrev pub text_at : ℕ → ℕ → Text
text_at number place = spelled number (place / 32768) (point_at (65536 * (place % 32768)))

-- How the charmaps spell their points, from a place on.
unfoldable pub texts_from : ℕ → ℕ → List Text
texts_from number place = map (text_at number) (range_with_len place (made_places - place))

-- Numbers stand for how all charmaps spell all points.
abbrev pub ArePacked : ℕ → List ℕ → Type 0
ArePacked number words = map packed_text words ≡ texts_from number 0
