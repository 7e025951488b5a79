-- The tables that a descriptor converts by are well formed.
use Rattle.std.specs.Prelude.{ℕ}
use Rattle.std.proofs.Common.{subst, refl}
use Rattle.code_pairs.specs.Tables.{table_at, IsWellFormed}
use Rattle.history_core.specs.Tokens as hall
use Rattle.history_core.specs.declared.story.Story.{Ghosts}
use Rattle.page_store.specs.Laws.{pins_well_formed}
use Rattle.runtime_room.specs.Grounds.{Ground}
use Rattle.runtime_room.specs.Held.{held-is}
use Rattle.runtime_room.specs.Rooms.{IsHistory, holdings}
use Rattle.runtime_room.specs.declared.desk.Desk.{Desk}
use Rattle.runtime_room.specs.declared.desk.Noted.{Noted}
use Rattle.runtime_room.specs.declared.story.Room.{Room}
use Rattle.gconv_runtime.specs.Looking.{owned_tells}
use Rattle.gconv_runtime.specs.Owning.{Owns, tables_of}
use Rattle.gconv_runtime.specs.Tokens.{Knows, number, front, ground}
use Rattle.gconv_runtime.specs.declared.tokens.Gconv.{Gconv}
use Rattle.gconv_runtime.specs.declared.tokens.Caller.{Caller}
use Rattle.gconv_runtime.specs.declared.tokens.Descriptor.{Descriptor}

module _ {L : Type 0} {g : Ghosts (Room L) (Desk L) Noted Ground} where
  -- Each table that a descriptor converts by is well formed.
  pub owned_well_formed : (gconv : Gconv L) (caller : Caller L (Desk L) Noted Ground g) (d : Descriptor) (k : ℕ) → IsHistory (ground gconv caller) (front caller)
      → Knows gconv caller → Owns gconv caller d → IsWellFormed (table_at (tables_of gconv caller d) k)
  owned_well_formed gconv caller d k legal knows own =
      let gr : Ground = ground gconv caller in
      let t = owned_tells gr (front caller) (number caller) (hall.words_of gconv.hall) d.number own.desc d.pins.items d.pins.items refl legal knows.room own.live own.found own.pins in
      subst (λ ts. IsWellFormed (table_at ts k)) t.tables
      (pins_well_formed (holdings gr (front caller) (number caller)) (hall.words_of gconv.hall) (λ h there. held-is gr (front caller) (number caller) h legal there) d.pins.items k t.pins)
