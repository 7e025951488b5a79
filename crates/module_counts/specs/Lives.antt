-- Live descriptors as they are kept. No public clause cites it.
use Rattle.std.specs.Prelude.{◌≡◌, ℕ, suc, ◌+◌, ◌==◌, ◌&&◌, Bool, if◌then◌else◌, List, [], ◌∷◌, length, Option, Some, None}
use Rattle.std.specs.List.{cons_option}
use Rattle.std.specs.Map.{count_at}
use Rattle.std.specs.HashMap.{HashMap, get}
use Rattle.std.specs.Str.{bytes_eq}
use Rattle.runtime_histories.specs.Deeds.{Pair, same_pair}
use Rattle.module_counts.specs.declared.lives.Live.{Live}
use Rattle.module_counts.specs.declared.lives.Key.{Key}

-- Live descriptors in the order of their openings, how many entries have slots, for how many entries more
-- there are slots, and for how many pairs more there is room.
pub record Living : Type 0 where
  pub items : List Live
  pub slots : ℕ
  pub left : ℕ
  pub fresh : ℕ

-- The pair of a descriptor.
abbrev pub pair_shown : Live → Pair
pair_shown x = record { generation = x.generation; from = x.from; to = x.to }

-- The pair of a key.
abbrev pub pair_of : Key → Pair
pair_of k = record { generation = k.generation; from = k.from; to = k.to }

abbrev pub key_eq : Key → Key → Bool
key_eq a b = (a.generation == b.generation) && (bytes_eq a.from b.from && bytes_eq a.to b.to)

-- The descriptors that stand in slots.
abbrev pub somes : List (Option Live) → List Live
somes [] = []
somes (s ∷ ss) = cons_option s (somes ss)

-- How many descriptors are of a key's pair.
abbrev pub count_of : Key → List Live → ℕ
count_of k [] = 0
count_of k (x ∷ xs) = (if same_pair (pair_shown x) (pair_of k) then 1 else 0) + count_of k xs

-- What a map counts at each key.
abbrev pub counts_of : {S : Type 0} → HashMap Key ℕ S → Key → ℕ
counts_of m k = count_at (get key_eq m) k

-- The descriptor in a slot has the slot's number.
abbrev pub IsSlot : ℕ → Option Live → Type 0
IsSlot k None = Unit {0}
IsSlot k (Some x) = x.number ≡ k

abbrev pub AreSlots : ℕ → List (Option Live) → Type 0
AreSlots k [] = Unit {0}
AreSlots k (s ∷ ss) = IsSlot k s × AreSlots (suc k) ss

-- Slots with a count for each pair, and the count of all.
pub record AreLives (slots : List (Option Live)) (counts : Key → ℕ) (count : ℕ) : Type 0 where
  pub numbered : AreSlots 0 slots
  pub counted : (k : Key) → counts k ≡ count_of k (somes slots)
  pub count_is : count ≡ length (somes slots)
