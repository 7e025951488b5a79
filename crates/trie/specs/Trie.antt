-- Words that strings of bytes lead to, kept in pages of 256 words.
use Rattle.std.specs.Prelude.{◌≡◌, ◌<◌, ◌≤◌, ℕ, ◌+◌, ◌*◌, ◌^◌, if◌then◌else◌, List, [], ◌∷◌, length, map, slice_index, Option, Some, None}
use Rattle.std.specs.List.{flat_map}
use Rattle.std.specs.Option.{option_map}
use Rattle.std.specs.Str.{bytes_eq}
use Rattle.trie.specs.Leaf.{Leaf}
use Rattle.trie.specs.Fronts.{word_at, children, pages, AreShort}

-- The place of a string in a list of them.
abbrev pub place_of : List ℕ → List (List ℕ) → Option ℕ
place_of q [] = None
place_of q (p ∷ ps) = if bytes_eq p q then Some 0 else option_map (λ k. k + 1) (place_of q ps)

-- The word behind a string: 2^62 and the word that it leads to, else 2^61 and the number of its page, else 0.
abbrev pub cell_word : ℕ → Option ℕ → Option ℕ → ℕ
cell_word first (Some word) place = 2 ^ 62 + word
cell_word first None (Some k) = 2 ^ 61 + (first + k)
cell_word first None None = 0

-- The word behind a string, where the pages of these fronts stand from a page on.
abbrev pub cell : List Leaf → ℕ → List (List ℕ) → List ℕ → ℕ
cell leaves first ps path = cell_word first (word_at leaves path) (place_of path ps)

-- The words of all pages, which stand from a page on: behind each front, with each byte in turn.
abbrev pub trie : List Leaf → ℕ → List ℕ
trie leaves first = map (cell leaves first (pages leaves)) (flat_map children (pages leaves))

-- Some words have, from a page on, those of the trie of these leaves.
pub record IsTrieAt (leaves : List Leaf) (first : ℕ) (words : List ℕ) : Type 0 where
  pub short : AreShort 4 leaves
  pub few : first + length (pages leaves) < 2 ^ 32
  pub within : 256 * (first + length (pages leaves)) ≤ length words
  pub same : (i : ℕ) → i < length (trie leaves first) →
      slice_index words (256 * first + i) ≡ slice_index (trie leaves first) i
