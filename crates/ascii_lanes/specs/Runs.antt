-- How far a text is plain.
use Rattle.std.specs.Prelude.{ℕ, ◌+◌, ◌*◌, Bool, true, false, not, ◌&&◌, List, [], ◌∷◌, nat_lt, nat_le, if◌then◌else◌}
use Rattle.std.specs.List.{prefix_len}

-- how many bytes come before the first one of 80 hex or above
abbrev pub ascii_run : List ℕ → ℕ
ascii_run bytes = prefix_len (λ b. nat_lt b 0x80) bytes

-- the number of 16 bits that two bytes are, high byte first or low byte first
abbrev pub number_of : Bool → ℕ → ℕ → ℕ
number_of true a b = 256 * a + b
number_of false a b = a + 256 * b

-- the numbers that a text is, two bytes each; a single last byte is none
abbrev pub numbers : Bool → List ℕ → List ℕ
numbers big (a ∷ b ∷ bytes) = number_of big a b ∷ numbers big bytes
numbers big _ = []

-- whether a number of 16 bits is no surrogate
abbrev pub is_plain_unit : ℕ → Bool
is_plain_unit n = not (nat_le 0xD800 n && nat_le n 0xDFFF)

-- how many bytes the units have that come before the first surrogate
abbrev pub plain_units : Bool → List ℕ → ℕ
plain_units big bytes = 2 * prefix_len is_plain_unit (numbers big bytes)

-- the high bytes of those numbers
abbrev pub high_bytes : Bool → List ℕ → List ℕ
high_bytes big (a ∷ b ∷ bytes) = (if big then a else b) ∷ high_bytes big bytes
high_bytes big _ = []
