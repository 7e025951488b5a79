-- Digits, and the numbers that they spell.
use Rattle.std.specs.Prelude.{ℕ, ◌+◌, ◌*◌, ◌-◌, Bool, ◌&&◌, ◌||◌, if◌then◌else◌, nat_le, List, fold}

-- The bytes 0 to 7.
abbrev pub is_octal : ℕ → Bool
is_octal b = nat_le 48 b && nat_le b 55

-- The bytes 0 to 9.
abbrev pub is_decimal : ℕ → Bool
is_decimal b = nat_le 48 b && nat_le b 57

-- The bytes 0 to 9, A to F and a to f.
abbrev pub is_hex : ℕ → Bool
is_hex b = is_decimal b || (nat_le 65 b && nat_le b 70) || (nat_le 97 b && nat_le b 102)

-- The value of a digit of any base.
unfoldable pub digit : ℕ → ℕ
digit b = if nat_le b 57 then b - 48 else (if nat_le b 70 then b - 55 else b - 87)

-- The number that digits spell in a base, the highest digit first.
abbrev pub number : ℕ → List ℕ → ℕ
number base digits = fold (λ n d. base * n + digit d) 0 digits
