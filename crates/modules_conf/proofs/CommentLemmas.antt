-- What stands before a comment.
use Rattle.std.proofs.Common.{◌≡◌, ℕ, ◌≤◌, Bool, true, false, cond, ltb, List, length, take, Some, None, refl, sym, ap}
use Rattle.std.specs.List.{before_first, position, position_or_len}
use Rattle.std.proofs.lemmas.List.{take_all}
use Rattle.std.proofs.lemmas.Bool.{ltb-false}

none_past : (n len : ℕ) (b : Bool) → ltb n len ≡ b → cond b (Some n) None ≡ None → len ≤ n
none_past n len true is none = absurd (cc)
none_past n len false is none = ltb-false n len is

some_at : (n at : ℕ) (b : Bool) → cond b (Some n) None ≡ Some at → n ≡ at
some_at n at true some = cc
some_at n at false some = absurd (cc)

-- Where no element passes, all stand before the first that does.
pub before_first-none : (p : ℕ → Bool) (xs : List ℕ) → position p xs ≡ None → xs ≡ before_first p xs
before_first-none p xs none = sym (take_all (position_or_len p xs) xs (none_past (position_or_len p xs) (length xs) _ refl none))

-- What stands before the first element that passes.
pub before_first-some : (p : ℕ → Bool) (xs : List ℕ) (at : ℕ) → position p xs ≡ Some at → take at xs ≡ before_first p xs
before_first-some p xs at some = ap (λ n. take n xs) (sym (some_at (position_or_len p xs) at (ltb (position_or_len p xs) (length xs)) some))
