-- The front of a list of bytes. No public clause cites it.
use Rattle.std.specs.Prelude.{◌≡◌, ℕ, List, length, take}
use Rattle.names_alias.specs.declared.front.Front.{Front}

-- The front has the first 64 bytes of the list, and its length.
pub record IsFrontOf (front : Front) (all : List ℕ) : Type 0 where
  pub bytes : front.bytes.items ≡ take 64 all
  pub len : front.len ≡ length all
