-- The pages of a trie while they are built.
use Rattle.std.specs.Prelude.{◌≡◌, ◌<◌, ◌≤◌, ℕ, zero, suc, ◌+◌, ◌*◌, ◌-◌, ◌^◌, Bool, true, false, not, ◌||◌, ◌==◌, if◌then◌else◌, List, [], ◌∷◌, ◌++◌, length, get_or, slice_set, take, Option, Some, None}
use Rattle.trie.specs.Leaf.{Leaf}
use Rattle.trie.specs.Fronts.{is_front, fronts, pages}
use Rattle.trie.specs.Trie.{place_of, cell_word, cell}
use Rattle.trie.specs.Words.{word_in, front_page}

-- Words that refer to pages from one on, where marks stand.
abbrev pub numbered : ℕ → List Bool → List ℕ
numbered next [] = []
numbered next (true ∷ ms) = (2 ^ 61 + next) ∷ numbered (next + 1) ms
numbered next (false ∷ ms) = 0 ∷ numbered next ms

-- The word behind a string where it refers to a page, else 0.
abbrev pub ref_cell : List Leaf → ℕ → List ℕ → ℕ
ref_cell leaves first path = cell_word first None (place_of path (pages leaves))

-- In the words the pages of the fronts shorter than n, from a page on, refer to their children's.
pub record IsStage (leaves : List Leaf) (first n : ℕ) (ws : List ℕ) : Type 0 where
  pub few : first + length (fronts leaves (suc n)) ≤ 2 ^ 32
  pub words : (k b : ℕ) → k < length (fronts leaves n) → b < 256 →
      word_in ws (first + k) b ≡ ref_cell leaves first (get_or (pages leaves) k [] ++ b ∷ [])

-- The marks with one more, where there is a page.
abbrev pub marked_with : List Bool → Option ℕ → ℕ → ℕ → List Bool
marked_with ms None base byte = ms
marked_with ms (Some page) base byte = slice_set ms (256 * (page - base) + byte) true

-- The words with one more, where there is a page and no word yet.
abbrev pub put_with : List ℕ → Option ℕ → ℕ → ℕ → List ℕ
put_with ws None byte w = ws
put_with ws (Some page) byte w = if word_in ws page byte == 0 then slice_set ws (256 * page + byte) w else ws

-- The words with so many more, which grow by one from place to place.
abbrev pub put_run : List ℕ → Option ℕ → ℕ → ℕ → ℕ → List ℕ
put_run ws page byte w zero = ws
put_run ws page byte w (suc n) = put_with (put_run ws page byte w n) page (byte + n) (w + n)

-- The words are, from a page on, the pages of the fronts of all leaves, with the words of some of them.
pub record Holds (leaves all : List Leaf) (first : ℕ) (ws : List ℕ) : Type 0 where
  pub few : first + length (pages all) ≤ 2 ^ 32
  pub words : (k b : ℕ) → k < length (pages all) → b < 256 →
      word_in ws (first + k) b ≡ cell leaves first (pages all) (get_or (pages all) k [] ++ b ∷ [])

-- No path goes on from another.
abbrev pub NoneGoesOn : List Leaf → Type 0
NoneGoesOn leaves = (i : ℕ) (d : Leaf) → i < length leaves → is_front leaves (get_or leaves i d).path ≡ false

-- The word at a place of a page; 0 where there is no page.
abbrev pub word_behind : List ℕ → Option ℕ → ℕ → ℕ
word_behind ws None byte = 0
word_behind ws (Some page) byte = word_in ws page byte

-- Whether a reference stands behind a string.
abbrev pub leads_on : List ℕ → ℕ → List ℕ → Bool
leads_on ws first path =
    not (word_behind ws (front_page ws first (take (length path - 1) path))
    (get_or path (length path - 1) 0) == 0)

-- Whether a word stands at one of so many places of a page, from a byte on.
abbrev pub some_behind : List ℕ → Option ℕ → ℕ → ℕ → Bool
some_behind ws page byte zero = false
some_behind ws page byte (suc n) = some_behind ws page byte n || not (word_behind ws page (byte + n) == 0)
