-- What calls add to the history.
use Rattle.std.specs.Prelude.{◌≡◌, ℕ, [], ◌∷◌, ◌++◌}
use Rattle.history_core.specs.History.{History, Grows}
use Rattle.history_core.specs.declared.story.Story.{Ghosts}
use Rattle.runtime_histories.specs.declared.entries.Event.TheVariants.{Closing}
use Rattle.runtime_room.specs.Grounds.{Ground}
use Rattle.runtime_room.specs.declared.desk.Desk.{Desk}
use Rattle.runtime_room.specs.declared.desk.Noted.{Noted}
use Rattle.runtime_room.specs.declared.story.Room.{Room}
use Rattle.gconv_runtime.specs.Tokens.{number, front}
use Rattle.gconv_runtime.specs.declared.tokens.Caller.{Caller}

-- The entry is the closing of a descriptor by a caller.
abbrev pub IsClosing : ℕ → ℕ → Noted → Type 0
IsClosing caller n e = e.entry.value ≡ record { caller = caller; event = Closing n }

module _ {L : Type 0} {g : Ghosts (Room L) (Desk L) Noted Ground} where
  -- The caller saw what others had added, and then added one entry of its number, which meets P.
  pub record Adds (before after : Caller L (Desk L) Noted Ground g) (P : Noted → Type 0)
      : Type 0 where
    pub seen : History Noted
    pub grows : Grows (number before) (front before) seen
    pub entry : Noted
    pub is : P entry
    pub ends : front after ≡ seen ++ (number before, entry) ∷ []

-- The books have the entry more, and all else stays. No public clause cites it.
pub record ClosesOn {L : Type 0} (old new : Desk L) (e : Noted) : Type 0 where
  pub journal : new.counts.journal ≡ old.counts.journal ++ e.entry.value ∷ []
  pub books : (new.counts.graph ≡ old.counts.graph) × (new.counts.pages ≡ old.counts.pages)
      × (new.counts.limit ≡ old.counts.limit)
  pub graph : new.graph ≡ old.graph
  pub aliases : new.aliases ≡ old.aliases
  pub library : new.library ≡ old.library
  pub directory : new.directory ≡ old.directory
  pub layouts : new.layouts ≡ old.layouts
  pub cache : new.cache ≡ old.cache
  pub first : new.first ≡ old.first
