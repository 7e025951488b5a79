-- An opening is entered into the books of a desk.
use Rattle.std.specs.Prelude.{◌≡◌, [], ◌∷◌, ◌++◌}
use Rattle.runtime_room.specs.declared.desk.Desk.{Desk}
use Rattle.runtime_room.specs.declared.desk.Noted.{Noted}

-- The books have the entry more, and all else stays.
pub record EntersOn {L : Type 0} (a b : Desk L) (e : Noted) : Type 0 where
  pub journal : b.counts.journal ≡ a.counts.journal ++ e.entry.value ∷ []
  pub books : (b.counts.graph ≡ a.counts.graph) × (b.counts.pages ≡ a.counts.pages)
      × (b.counts.limit ≡ a.counts.limit)
  pub graph : b.graph ≡ a.graph
  pub aliases : b.aliases ≡ a.aliases
  pub library : b.library ≡ a.library
  pub directory : b.directory ≡ a.directory
  pub layouts : b.layouts ≡ a.layouts
  pub cache : b.cache ≡ a.cache
  pub first : b.first ≡ a.first
