-- The strings of bytes that lead to words, and those that they go on from.
use Rattle.std.specs.Prelude.{ℕ, zero, suc, ◌≤◌, Bool, true, false, ◌&&◌, ◌==◌, List, [], ◌∷◌, ◌++◌, length, map, filter, Option}
use Rattle.std.specs.List.{find, list_any, flat_map, range_with_len}
use Rattle.std.specs.Option.{option_map}
use Rattle.std.specs.Str.{bytes_eq}
use Rattle.trie.specs.Leaf.{Leaf}

-- The strings that lead to words.
abbrev pub paths : List Leaf → List (List ℕ)
paths leaves = map (λ l. l.path) leaves

-- The word of the first leaf with this path.
abbrev pub word_at : List Leaf → List ℕ → Option ℕ
word_at leaves path = option_map (λ l. l.word) (find (λ l. bytes_eq l.path path) leaves)

-- Whether the second string begins with the first and goes on.
abbrev pub is_proper_prefix : List ℕ → List ℕ → Bool
is_proper_prefix [] [] = false
is_proper_prefix [] (_ ∷ _) = true
is_proper_prefix (x ∷ xs) [] = false
is_proper_prefix (x ∷ xs) (y ∷ ys) = x == y && is_proper_prefix xs ys

-- Whether a path goes on from this string.
abbrev pub is_front : List Leaf → List ℕ → Bool
is_front leaves front = list_any (λ l. is_proper_prefix front l.path) leaves

-- A string with one byte more, each in turn.
abbrev pub children : List ℕ → List (List ℕ)
children front = map (λ b. front ++ b ∷ []) (range_with_len 0 256)

-- The fronts of one length, in the order of bytes; the empty string always.
abbrev pub level : List Leaf → ℕ → List (List ℕ)
level leaves zero = [] ∷ []
level leaves (suc n) = filter (is_front leaves) (flat_map children (level leaves n))

-- The fronts shorter than this, by length and then by bytes.
abbrev pub fronts : List Leaf → ℕ → List (List ℕ)
fronts leaves zero = []
fronts leaves (suc n) = fronts leaves n ++ level leaves n

-- The fronts of paths of at most four bytes: each has a page.
abbrev pub pages : List Leaf → List (List ℕ)
pages leaves = fronts leaves 4

-- No path has more bytes than this.
abbrev pub AreShort : ℕ → List Leaf → Type 0
AreShort most [] = Unit {0}
AreShort most (l ∷ ls) = (length l.path ≤ most) × AreShort most ls

-- No path has fewer bytes than this.
abbrev pub AreLong : ℕ → List Leaf → Type 0
AreLong least [] = Unit {0}
AreLong least (l ∷ ls) = (least ≤ length l.path) × AreLong least ls
