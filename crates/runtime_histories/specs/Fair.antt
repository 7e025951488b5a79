-- Histories whose pairs keep their modules, and in which what is used and not released is what live
-- pairs use. No public clause cites it.
use Rattle.std.specs.Prelude.{◌≡◌, ℕ, ◌+◌, ◌<◌, ◌==◌, true, if◌then◌else◌, List, [], ◌∷◌, length}
use Rattle.runtime_histories.specs.Deeds.{Pair, same_pair, Deeds, Desc, openings, closed, pair_live, marks, IsIn}
use Rattle.runtime_histories.specs.Residence.{is_use, is_release, count}

-- How often a number stands in a list.
abbrev pub times : ℕ → List ℕ → ℕ
times m [] = 0
times m (x ∷ xs) = (if x == m then 1 else 0) + times m xs

-- How often a pair stands in a list.
abbrev pub pair_times : Pair → List Pair → ℕ
pair_times q [] = 0
pair_times q (p ∷ ps) = (if same_pair p q then 1 else 0) + pair_times q ps

-- The sum of a weight over pairs.
abbrev pub total : (Pair → ℕ) → List Pair → ℕ
total w [] = 0
total w (p ∷ ps) = w p + total w ps

-- How often a pair uses a module.
abbrev pub weight : (Pair → List ℕ) → ℕ → Pair → ℕ
weight route m p = times m (route p)

-- Only descriptors that were opened are closed, each has its pair's modules, and each module was used
-- as often as it was released and as live pairs use it.
pub record Fair (route : Pair → List ℕ) (b : Deeds) : Type 0 where
  pub low : (k : ℕ) → closed k b ≡ true → k < length b
  pub agree : (d : Desc) → IsIn d (openings 0 b) → d.modules ≡ route d.pair
  pub ps : List Pair
  pub weigh : (m : ℕ) → count (is_use m) (marks b) ≡ count (is_release m) (marks b) + total (weight route m) ps
  pub counts : (q : Pair) → pair_times q ps ≡ (if pair_live b q then 1 else 0)

-- The same, for some modules of pairs.
pub record IsBalanced (b : Deeds) : Type 0 where
  pub route : Pair → List ℕ
  pub fair : Fair route b

-- The modules are those that the pair has had.
abbrev pub Agrees : Deeds → Pair → List ℕ → Type 0
Agrees b p modules = (d : Desc) → IsIn d (openings 0 b) → d.pair ≡ p → d.modules ≡ modules
