-- What contracts see of a runtime, its lead and its callers.
use Rattle.std.specs.Prelude.{◌≡◌, ◌<◌, ◌*◌, ℕ, List, length, All}
use Rattle.derivation_cache.specs.Known.{Known, none_known}
use Rattle.history_core.specs.History.{History, Ends}
use Rattle.history_core.specs.Tokens as hall
use Rattle.history_core.specs.declared.story.Story.{Ghosts}
use Rattle.runtime_histories.specs.Pins.{live_of}
use Rattle.runtime_room.specs.Grounds.{Ground}
use Rattle.runtime_room.specs.Published.{published}
use Rattle.runtime_room.specs.Rooms.{deeds_of}
use Rattle.runtime_room.specs.declared.desk.Desk.{Desk}
use Rattle.runtime_room.specs.declared.desk.Noted.{Noted}
use Rattle.runtime_room.specs.declared.story.Room.{Room}
use Rattle.gconv_runtime.specs.declared.tokens.Gconv.{Gconv}
use Rattle.gconv_runtime.specs.declared.tokens.Caller.{Caller}
use Rattle.gconv_runtime.specs.declared.tokens.Lead.{Lead}

module _ {L : Type 0} {g : Ghosts (Room L) (Desk L) Noted Ground} where
  -- The number of a caller.
  abbrev pub number : Caller L (Desk L) Noted Ground g → ℕ
  number caller = hall.number caller.pass

  -- The beginning of the history that a caller has seen.
  abbrev pub front : Caller L (Desk L) Noted Ground g → History Noted
  front caller = hall.front caller.pass

  -- What the histories of a runtime stand on, which a caller of it knows.
  abbrev pub ground : Gconv L → Caller L (Desk L) Noted Ground g → Ground
  ground gconv caller = hall.setting_of g.setting gconv.hall

  -- The caller is the runtime's, which has as many side words as the pages of its store, and knows what was
  -- published at its front.
  pub record Knows (gconv : Gconv L) (caller : Caller L (Desk L) Noted Ground g) : Type 0 where
    pub own : hall.IsPassOf gconv.hall caller.pass
    pub some : 0 < number caller
    pub count : caller.live ≡ length (live_of (number caller) (deeds_of (front caller)))
    pub room : hall.words_of gconv.hall ≡ 256 * (hall.setting_of g.setting gconv.hall).setting.pages
    pub aliases : gconv.aliases ≡ (ground gconv caller).setting.first.aliases
    pub view : caller.view ≡ published (ground gconv caller).setting.first.graph (front caller)
    pub told : caller.told ≡ published (ground gconv caller).setting.first.graph (front caller)

  -- The beginning of the history that the lead has seen.
  abbrev pub lead_front : Lead L (Desk L) Noted Ground g → History Noted
  lead_front lead = hall.lead_front lead.lead

  -- The number that the next caller gets.
  abbrev pub next_number : Lead L (Desk L) Noted Ground g → ℕ
  next_number lead = hall.next_number lead.lead

  -- The numbers of the callers that were made and not ended.
  abbrev pub away_of : Lead L (Desk L) Noted Ground g → List ℕ
  away_of lead = hall.away_of lead.lead

  -- The callers that were ended, each with the front that it then had, the last first.
  abbrev pub ended_of : Lead L (Desk L) Noted Ground g → Ends Noted
  ended_of lead = hall.ended_of lead.lead

  -- What the histories of the runtime of a lead stand on.
  abbrev pub lead_ground : Gconv L → Lead L (Desk L) Noted Ground g → Ground
  lead_ground gconv lead = hall.setting_of g.setting gconv.hall

  -- The lead is the runtime's, knows what was published at its front, and has views that know nothing yet.
  pub record Leads (gconv : Gconv L) (lead : Lead L (Desk L) Noted Ground g) : Type 0 where
    pub own : hall.IsLeadOf gconv.hall lead.lead
    pub room : hall.words_of gconv.hall ≡ 256 * (hall.setting_of g.setting gconv.hall).setting.pages
    pub aliases : gconv.aliases ≡ (lead_ground gconv lead).setting.first.aliases
    pub views : All (λ (k : Known). k ≡ none_known (lead_ground gconv lead).setting.first.graph) lead.views.items
    pub told : lead.told ≡ published (lead_ground gconv lead).setting.first.graph (lead_front lead)
