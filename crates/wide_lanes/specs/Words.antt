-- The UTF-8 of a point below 10000 hex, as numbers of 16 bits whose low byte comes first.
use Rattle.std.specs.Prelude.{ℕ, ◌+◌, ◌*◌, ◌/◌, ◌%◌, List, [], ◌∷◌, ◌++◌, nat_lt, if◌then◌else◌}
use Rattle.step_unicode.specs.Utf16.{little_bytes}

-- one of three, by how many bytes the point has
abbrev pub by_size : (ℕ → ℕ) → (ℕ → ℕ) → (ℕ → ℕ) → ℕ → ℕ
by_size one two three p = if nat_lt p 0x80 then one p else if nat_lt p 0x800 then two p else three p

-- how many bytes it has
abbrev pub count_of : ℕ → ℕ
count_of p = by_size (λ _. 1) (λ _. 2) (λ _. 3) p

-- the last byte of two or three
abbrev pub last_byte : ℕ → ℕ
last_byte p = 0x80 + p % 64

-- the two bytes of a unit of two
abbrev pub front_two : ℕ → ℕ
front_two p = 0xC0 + p / 64 + 256 * last_byte p

-- the first two bytes of a unit of three
abbrev pub front_three : ℕ → ℕ
front_three p = 0xE0 + p / 4096 + 256 * last_byte (p / 64)

-- the first two bytes, where it has so many
abbrev pub front : ℕ → ℕ
front p = by_size (λ p. p) front_two front_three p

-- the first one or two bytes, where it has so many
abbrev pub front_short : ℕ → ℕ
front_short p = by_size (λ p. p) front_two front_two p

-- four bytes, which begin with those of the point
abbrev pub slot : ℕ → List ℕ
slot p = little_bytes (front p) ++ little_bytes (last_byte p)

-- FF for each of the four that counts, and 0 for the others
abbrev pub front_keep : ℕ → ℕ
front_keep p = by_size (λ _. 0xFF) (λ _. 0xFFFF) (λ _. 0xFFFF) p

abbrev pub last_keep : ℕ → ℕ
last_keep p = by_size (λ _. 0) (λ _. 0) (λ _. 0xFF) p

abbrev pub keep : ℕ → List ℕ
keep p = little_bytes (front_keep p) ++ little_bytes (last_keep p)

-- the numbers of two lists in turns
abbrev pub turns : List ℕ → List ℕ → List ℕ
turns (x ∷ xs) (y ∷ ys) = x ∷ y ∷ turns xs ys
turns _ _ = []
