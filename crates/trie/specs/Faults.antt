-- Why leaves have no trie.
use Rattle.std.specs.Prelude.{List}
use Rattle.trie.specs.Leaf.{Leaf}
use Rattle.trie.specs.Overlaps.{IsOverlapAt}
use Rattle.trie.specs.declared.trie.Fault.{Fault}
use Rattle.trie.specs.declared.trie.Fault.TheVariants.{Overlap, Memory}

-- What each fault says of the leaves: the least overlap; memory may always be wanting.
abbrev pub IsFault : List Leaf → Fault → Type 0
IsFault leaves (Overlap first second) = IsOverlapAt leaves first second
IsFault leaves Memory = Unit {0}
