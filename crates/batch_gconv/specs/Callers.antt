-- What a batch sees of a runtime of many callers.
use Rattle.std.specs.Prelude.{◌≡◌, ℕ, List, [], ◌∷◌}
use Rattle.history_core.specs.History.{History, Ends}
use Rattle.history_core.specs.Tokens as hall
use Rattle.history_core.specs.declared.story.Story.{Ghosts}
use Rattle.outside.specs.Moments.{Holdings}
use Rattle.runtime_histories.specs.Pins.{live_of}
use Rattle.runtime_room.specs.Desks.{ground_of}
use Rattle.runtime_room.specs.Grounds.{Ground}
use Rattle.runtime_room.specs.Rooms.{deeds_of, entries_of}
use Rattle.runtime_room.specs.declared.desk.Desk.{Desk}
use Rattle.runtime_room.specs.declared.desk.Noted.{Noted}
use Rattle.runtime_room.specs.declared.story.Room.{Room}
use Rattle.gconv_runtime.specs.Tokens.{Knows, number, front, next_number, away_of, ended_of}
use Rattle.gconv_runtime.specs.declared.tokens.Gconv.{Gconv}
use Rattle.gconv_runtime.specs.declared.tokens.Caller.{Caller}
use Rattle.gconv_runtime.specs.declared.tokens.Lead.{Lead}
use Rattle.runtime_histories.specs.declared.refusals.Refusal.{Refusal}
use Rattle.batch_runs.specs.Histories.{placed_from, own}
use Rattle.batch_workers.specs.Parts.{Base, Part, Roll}

-- a caller of a number that has seen so much of a history
abbrev pub part_at : ℕ → History Noted → Part
part_at n log = record { number = n; entries = own n (placed_from 0 (entries_of log)) }

-- callers that were ended
abbrev pub parts_at : Ends Noted → List Part
parts_at [] = []
parts_at (e ∷ es) = part_at e.0 e.1 ∷ parts_at es

-- a runtime, by what its histories stand on
abbrev pub base_at : Ground → Base
base_at g = record { setting = g.setting; handed = g.handed }

-- a runtime
abbrev pub base_of : {L : Type 0} → (L → Holdings) → Gconv L → Base
base_of holdings gconv = base_at (hall.setting_of (ground_of holdings) gconv.hall)

module _ {L : Type 0} {g : Ghosts (Room L) (Desk L) Noted Ground} where
  -- a caller
  abbrev pub part_of : Caller L (Desk L) Noted Ground g → Part
  part_of caller = part_at (number caller) (front caller)

  -- a lead
  abbrev pub roll_of : Lead L (Desk L) Noted Ground g → Roll
  roll_of lead = record { next = next_number lead; away = away_of lead; ended = parts_at (ended_of lead) }

  -- the caller is the runtime's, and has no live descriptor
  pub record IsIdle (gconv : Gconv L) (caller : Caller L (Desk L) Noted Ground g) : Type 0 where
    pub knows : Knows gconv caller
    pub none : live_of (number caller) (deeds_of (front caller)) ≡ []
