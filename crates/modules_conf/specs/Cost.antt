-- The cost of a module line.
use Rattle.std.specs.Prelude.{ℕ, ◌+◌, ◌*◌, ◌-◌, Bool, ◌&&◌, if◌then◌else◌, nat_le, List, [], ◌∷◌, fold, Option, Some, None, unwrap_or}
use Rattle.std.specs.List.{list_all}
use Rattle.modules_conf.specs.Numbers.{most_cost}

-- The bytes 0 to 9.
abbrev pub is_digit : ℕ → Bool
is_digit b = nat_le 48 b && nat_le b 57

-- The number that decimal digits stand for.
abbrev pub decimal : List ℕ → ℕ
decimal digits = fold (λ n d. 10 * n + (d - 48)) 0 digits

-- A word is a cost where it has digits alone and its number is in range.
abbrev pub cost_number : List ℕ → Option ℕ
cost_number w =
    if list_all is_digit w && nat_le 1 (decimal w) && nat_le (decimal w) most_cost
    then Some (decimal w) else None

-- The cost of a line is the first word behind the module's, where that is a cost, and else 1.
abbrev pub cost_of : List (List ℕ) → ℕ
cost_of [] = 1
cost_of (w ∷ _) = unwrap_or (cost_number w) 1
