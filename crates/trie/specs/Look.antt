-- What a string of bytes leads to, by the leaves alone.
use Rattle.std.specs.Prelude.{ℕ, if◌then◌else◌, List, length, take, Option, unwrap_or, slice_get}
use Rattle.std.specs.List.{filter_map, range_with_len}
use Rattle.std.specs.Option.{option_map}
use Rattle.trie.specs.Leaf.{Leaf}
use Rattle.trie.specs.Fronts.{word_at, is_front}
use Rattle.trie.specs.declared.walk.Walk.{Walk}
use Rattle.trie.specs.declared.walk.Walk.TheVariants.{Word, Inside, Outside}

-- What the first bytes, so many of them, lead to.
abbrev pub found : List Leaf → List ℕ → ℕ → Option Walk
found leaves bytes used = option_map (λ word. Word word used) (word_at leaves (take used bytes))

-- The shortest front of the bytes that is a path; where there is none, whether a path goes on from them.
abbrev pub look_of : List Leaf → List ℕ → Walk
look_of leaves bytes =
    unwrap_or (slice_get (filter_map (found leaves bytes) (range_with_len 1 (length bytes))) 0)
    (if is_front leaves bytes then Inside else Outside)
