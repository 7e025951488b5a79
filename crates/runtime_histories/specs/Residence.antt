-- Which modules are kept, by their uses and releases. The newest mark is the last.
use Rattle.std.specs.Prelude.{ℕ, ◌+◌, ◌==◌, Bool, true, false, ◌||◌, nat_lt, if◌then◌else◌, List, [], ◌∷◌, Option, Some, None}
use Rattle.runtime_histories.specs.Deeds.{Mark, uses, releases}

-- The mark is one of the module.
abbrev pub is_own : ℕ → Mark → Bool
is_own m (uses k) = k == m
is_own m (releases k) = k == m

-- The mark is a use of the module.
abbrev pub is_use : ℕ → Mark → Bool
is_use m (uses k) = k == m
is_use m (releases k) = false

-- The mark is a release of the module.
abbrev pub is_release : ℕ → Mark → Bool
is_release m (uses k) = false
is_release m (releases k) = k == m

-- The mark is a release of some module.
abbrev pub is_any_release : Mark → Bool
is_any_release (uses k) = false
is_any_release (releases k) = true

-- How many marks pass a test.
abbrev pub count : (Mark → Bool) → List Mark → ℕ
count p [] = 0
count p (x ∷ xs) = (if p x then 1 else 0) + count p xs

-- What stands after the last mark of a module, if it has one: its search goes on to the end.
abbrev pub first_of : Option (List Mark) → Option (List Mark) → Option (List Mark)
first_of None o = o
first_of (Some x) o = Some x

-- What stands after the last mark of a module, if it has one.
abbrev pub after_last : ℕ → List Mark → Option (List Mark)
after_last m [] = None
after_last m (x ∷ xs) = first_of (after_last m xs) (if is_own m x then Some xs else None)

-- Fewer than three releases stand there; all of them are of other modules.
abbrev pub is_fresh : Option (List Mark) → Bool
is_fresh None = false
is_fresh (Some later) = nat_lt (count is_any_release later) 3

-- The uses of the module exceed its releases.
abbrev pub is_held : ℕ → List Mark → Bool
is_held m ms = nat_lt (count (is_release m) ms) (count (is_use m) ms)

-- A module is resident while it is held, and from then on until the third release of other modules
-- since its own last mark.
abbrev pub resident : List Mark → ℕ → Bool
resident ms m = is_held m ms || is_fresh (after_last m ms)
