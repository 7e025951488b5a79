use Rattle.std.specs.Prelude.{◌≡◌, ℕ, ◌+◌, ◌^◌, List, refl, [], ◌∷◌, ◌++◌, length, get_or, nat_lt, filter}
use Rattle.trie.specs.Leaf.{Leaf}
use Rattle.trie.specs.Fronts.{pages}
use Rattle.trie.specs.Trie.{trie}
use Rattle.trie.specs.Look.{look_of}
use Rattle.trie.specs.declared.walk.Walk.TheVariants.{Word, Inside, Outside}

-- A path and its word.
abbrev pub leaf : List ℕ → ℕ → Leaf
leaf path word = record { path = path; word = word }

-- one pair, U+0041 with the code 41: its codes, and its points
abbrev pub codes : List Leaf
codes = leaf (65 ∷ []) 65 ∷ []

-- The three bytes of the point lead to the length and the number of its code.
abbrev pub points : List Leaf
points = leaf (0 ∷ 0 ∷ 65 ∷ []) (2 ^ 32 + 65) ∷ []

-- The pages of the codes, and behind them those of the points.
abbrev pub image : List ℕ
image = trie codes 0 ++ trie points 1

-- Both have four pages.
pub size : length image ≡ 1024
size = refl

-- A code leads to its point; the root, a plane and a leaf lead to the code.
pub words : get_or image 65 0 ∷ get_or image 256 0 ∷ get_or image 512 0 ∷ get_or image 833
    0 ∷ [] ≡ (2 ^ 62 + 65) ∷ (2 ^ 61 + 2) ∷ (2 ^ 61 + 3) ∷ (2 ^ 62 + 2 ^ 32 + 65) ∷ []
words = refl

-- All other words are 0.
pub others : length (filter (nat_lt 0) image) ≡ 4
others = refl

-- four pairs with codes of two bytes
abbrev pub four : List Leaf
four = leaf (0x81 ∷ 0xFE ∷ []) 0x41 ∷ leaf (0x81 ∷ 0xFF ∷ []) 0x42 ∷ leaf (0x82 ∷ 0 ∷ []) 0x43 ∷ leaf
    (0x82 ∷ 1 ∷ []) 0x44 ∷ []

-- The empty front and both first bytes have pages.
pub fronts_row : pages four ≡ [] ∷ (0x81 ∷ []) ∷ (0x82 ∷ []) ∷ []
fronts_row = refl

-- A first byte goes on.
pub begins_row : look_of four (0x81 ∷ []) ≡ Inside
begins_row = refl

-- No path begins so.
pub nothing_row : look_of four (0x81 ∷ 0xFD ∷ []) ≡ Outside
nothing_row = refl

-- A path is found behind its bytes, whatever follows.
pub found_row : look_of four (0x82 ∷ 0 ∷ 0x41 ∷ []) ≡ Word 0x43 2
found_row = refl
