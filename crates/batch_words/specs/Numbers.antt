-- Numbers among the words.
use Rattle.std.specs.Prelude.{◌+◌, ◌-◌, ◌*◌, ◌&&◌, ℕ, Bool, nat_le, List, [], ◌∷◌, length, Option, Some, None, if◌then◌else◌, option_and_then}

-- a decimal digit
abbrev pub is_digit : ℕ → Bool
is_digit b = nat_le 48 b && nat_le b 57

-- the number that digits go on with from n; none where one of them is no digit
abbrev pub digits_after : ℕ → List ℕ → Option ℕ
digits_after n [] = Some n
digits_after n (b ∷ bs) = if is_digit b then digits_after (n * 10 + (b - 48)) bs else None

-- a number, where it lies from low to high
abbrev pub within : ℕ → ℕ → ℕ → Option ℕ
within low high n = if nat_le low n && nat_le n high then Some n else None

-- the number of one to ten decimal digits, where it lies from low to high
abbrev pub number_in : ℕ → ℕ → List ℕ → Option ℕ
number_in low high text = if nat_le 1 (length text) && nat_le (length text) 10
    then option_and_then (within low high) (digits_after 0 text) else None

-- the same, or another number where there is no text
abbrev pub number_or : ℕ → ℕ → Option (List ℕ) → Option ℕ
number_or default high None = Some default
number_or default high (Some text) = number_in 0 high text
