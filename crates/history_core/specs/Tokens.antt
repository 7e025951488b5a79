-- What contracts see of a hall, its lead, its passes and its turns.
use Rattle.std.specs.Prelude.{◌≡◌, ◌<◌, ℕ, List, [], ◌∷◌, ◌++◌, Option, None}
use Rattle.std.proofs.Common.{ap, sym, subst, ◌∙◌}
use Rattle.atomic_table.specs.Seated.{TableId}
use Rattle.history_core.specs.History.{History, Grows, EachNumber, Ends}
use Rattle.history_core.specs.Rule.{Covered}
use Rattle.history_core.specs.Seats.{IsIdle, IsServed}
use Rattle.history_core.specs.declared.story.Story.{Ghosts}
use Rattle.history_core.specs.declared.tokens.Hall.{Hall}
use Rattle.history_core.specs.declared.tokens.Lead.{Lead}
use Rattle.history_core.specs.declared.tokens.Pass.{Pass}
use Rattle.history_core.specs.declared.tokens.Turn.{Turn}

module _ {S V E T : Type 0} where
  -- The setting of a hall, told by the setting that a value carries: that of its first value.
  abbrev pub setting_of : (V → T) → Hall S V E T → T
  setting_of setting hall = setting hall.table.shared.key.value.value

  -- How many side words a hall has.
  abbrev pub words_of : Hall S V E T → ℕ
  words_of hall = hall.table.shared.key.words

  -- Which hall it is.
  abbrev pub id_of : Hall S V E T → TableId
  id_of hall = hall.table.shared.table_id

module _ {S V E T : Type 0} {g : Ghosts S V E T} where
  -- The number of a pass.
  abbrev pub number : Pass S V E T g → ℕ
  number pass = pass.seat.me.0.number

  -- The beginning of the history that a pass has seen.
  abbrev pub front : Pass S V E T g → History E
  front pass = pass.seat.me.0.front

  -- The side words that were written in this turn, each with its place, the last first.
  abbrev pub filled : Pass S V E T g → List (ℕ × ℕ)
  filled pass = pass.seat.me.0.filled

  -- What a pass has seen, and one entry of its own behind it.
  abbrev pub front_with : Pass S V E T g → E → History E
  front_with pass entry = front pass ++ (number pass, entry) ∷ []

  -- The pass is one of the hall's, not in a turn, and what it has seen is legal.
  pub record IsPassOf (hall : Hall S V E T) (pass : Pass S V E T g) : Type 0 where
    pub seat : IsIdle (id_of hall) (setting_of g.setting hall) pass.seat
    pub legal : g.legal (setting_of g.setting hall) (front pass)

  -- The beginning of the history that the lead has seen.
  abbrev pub lead_front : Lead S V E T g → History E
  lead_front lead = lead.seat.me.0.front

  -- The number that the next pass gets.
  abbrev pub next_number : Lead S V E T g → ℕ
  next_number lead = lead.seat.me.0.given

  -- The numbers of the passes that were split and not joined.
  abbrev pub away_of : Lead S V E T g → List ℕ
  away_of lead = lead.seat.me.0.away

  -- The passes that were joined, each with the front that it then had, the last first.
  abbrev pub ended_of : Lead S V E T g → Ends E
  ended_of lead = lead.seat.me.0.ended

  -- The lead is the hall's, what it has seen is legal, and each entry of it has a number that was
  -- given to a pass.
  pub record IsLeadOf (hall : Hall S V E T) (lead : Lead S V E T g) : Type 0 where
    pub seat : IsIdle (id_of hall) (setting_of g.setting hall) lead.seat
    pub legal : g.legal (setting_of g.setting hall) (lead_front lead)
    pub numbers : EachNumber (λ n. (0 < n) × (n < next_number lead)) (lead_front lead)

  -- The turn is one of the hall's: its pass is served, and what it has seen is legal.
  pub record IsTurnOf (hall : Hall S V E T) (turn : Turn S V E T g) : Type 0 where
    pub hall_is : turn.hall.now ≡ hall
    pub seat : IsServed (id_of hall) (setting_of g.setting hall) turn.pass.now.seat
    pub legal : g.legal (setting_of g.setting hall) (front turn.pass.now)

  -- The pass got the turn: its front is the whole history now, to which others alone had added, the
  -- value stands for it, and no side word is written yet.
  pub record Took (hall : Hall S V E T) (before : Pass S V E T g) (turn : Turn S V E T g)
      : Type 0 where
    pub turn_of : IsTurnOf hall turn
    pub number_is : number turn.pass.now ≡ number before
    pub grows : Grows (number before) (front before) (front turn.pass.now)
    pub fresh : filled turn.pass.now ≡ []
    pub stands : g.stands turn.value (front turn.pass.now)
    pub told : g.setting turn.value ≡ setting_of g.setting hall

  -- The word that the pass's number has pinned at a place.
  abbrev pub pinned_of : Hall S V E T → Pass S V E T g → ℕ → Option ℕ
  pinned_of hall pass place = g.pinned (setting_of g.setting hall) (front pass) (number pass) place

  -- No number has the place pinned after what the pass has seen.
  abbrev pub IsFree : Hall S V E T → Pass S V E T g → ℕ → Type 0
  IsFree hall pass place =
      (n : ℕ) → g.pinned (setting_of g.setting hall) (front pass) n place ≡ None

  -- Each word that is pinned after the entry was pinned before, or was written in this turn.
  abbrev pub IsCovered : Hall S V E T → Pass S V E T g → E → Type 0
  IsCovered hall pass entry =
      Covered g.pinned (setting_of g.setting hall) (front pass) (front_with pass entry)
      (filled pass)

  -- The pass knows what it knew.
  abbrev pub IsSame : Pass S V E T g → Pass S V E T g → Type 0
  IsSame before after =
      (after.seat.table_id ≡ before.seat.table_id) × (after.seat.me ≡ before.seat.me)

  -- A pass that knows what it knew is the hall's still.
  pub IsPassOf-same : (hall : Hall S V E T) (before after : Pass S V E T g)
      → IsPassOf hall before → IsSame before after → IsPassOf hall after
  IsPassOf-same hall before after own same = record {
    seat = record {
      table = same.0 ∙ own.seat.table;
      told = ap (λ m. m.0.setting) same.1 ∙ own.seat.told;
      free = ap (λ m. m.0.served) same.1 ∙ own.seat.free;
      bare = ap (λ m. m.1) same.1 ∙ own.seat.bare;
    };
    legal = subst (λ m. g.legal (setting_of g.setting hall) m.0.front) (sym same.1) own.legal;
  }
