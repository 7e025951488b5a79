-- The leaf at a place.
use Rattle.std.proofs.Common.{◌≡◌, ℕ, List, get_or, Some, sym, ap, ◌∙◌}
use Rattle.std.specs.Prelude.{slice_get, unwrap_or}
use Rattle.std.proofs.lemmas.Option.{unwrap_or-slice_get}
use Rattle.trie.specs.Leaf.{Leaf}

-- The leaf that stands at a place is the one read there.
pub leaf_is : (leaves : List Leaf) (i : ℕ) (d : Leaf) → slice_get leaves i ≡ Some d → d ≡ get_or leaves i d
leaf_is leaves i d e = ap (λ o. unwrap_or o d) (sym e) ∙ unwrap_or-slice_get leaves i d
