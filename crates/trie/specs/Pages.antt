-- Pages whose references lead to each other.
use Rattle.std.specs.Prelude.{◌≡◌, ℕ, ◌+◌, ◌*◌, ◌<◌, ◌≤◌, List, length, Some}
use Rattle.trie.specs.Words.{page_in, word_in}

-- The words have so many pages from one on, and each reference in these leads to one of them.
pub record HasPages (first count : ℕ) (ws : List ℕ) : Type 0 where
  pub within : 256 * (first + count) ≤ length ws
  pub closed : (page b next : ℕ) → first ≤ page → page < first + count → b < 256 →
      page_in (word_in ws page b) ≡ Some next → (first ≤ next) × (next < first + count)

-- The page is one of such pages.
abbrev pub IsPageIn : List ℕ → ℕ → Type 0
IsPageIn ws page =
    (first : ℕ) × (count : ℕ) × HasPages first count ws × (first ≤ page) × (page < first + count)
