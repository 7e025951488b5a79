-- What clauses say of a seat at a hall's table.
use Rattle.std.specs.Prelude.{◌≡◌, ℕ, true, false, List, [], ◌∷◌, Some}
use Rattle.atomic_table.specs.Seated.{TableId}
use Rattle.atomic_table.specs.declared.shared.Seat.{Seat}
use Rattle.history_core.specs.History.{History, Grows}
use Rattle.history_core.specs.declared.rule.Held.{Held}
use Rattle.history_core.specs.declared.rule.Held.TheVariants.{Out}
use Rattle.history_core.specs.declared.rule.View.{View}

-- A seat whose slot has a value or an entry, and which knows a view.
abbrev pub SeatOf : Type 0 → Type 0 → Type 0 → Type 0
SeatOf V E T = Seat (Held V E) (View E T)

module _ {V E T : Type 0} where
  -- The beginning of the history that the seat has seen.
  abbrev pub front_of : SeatOf V E T → History E
  front_of s = s.me.0.front

  -- The side words that it wrote in this turn, the last first.
  abbrev pub filled_of : SeatOf V E T → List (ℕ × ℕ)
  filled_of s = s.me.0.filled

  -- Its number.
  abbrev pub number_of : SeatOf V E T → ℕ
  number_of s = s.me.0.number

  -- The seat is at this table, in this setting, and has neither the turn nor the slot.
  pub record IsIdle (z : TableId) (t : T) (s : SeatOf V E T) : Type 0 where
    pub table : s.table_id ≡ z
    pub told : s.me.0.setting ≡ Some t
    pub free : s.me.0.served ≡ false
    pub bare : s.me.1 ≡ []

  -- The seat is at this table, in this setting, has the turn, and its slot's value is out.
  pub record IsServed (z : TableId) (t : T) (s : SeatOf V E T) : Type 0 where
    pub table : s.table_id ≡ z
    pub told : s.me.0.setting ≡ Some t
    pub serves : s.me.0.served ≡ true
    pub holds : s.me.1 ≡ (0, Out) ∷ []

module _ {V E T : Type 0} (setting : V → T) (Legal : T → History E → Type 0)
    (Stands : V → History E → Type 0) where
  -- The seat took the turn and the value, which stands for the history; its front is that history.
  pub record Seized (z : TableId) (t : T) (before after : SeatOf V E T) (value : V) : Type 0 where
    pub served : IsServed z t after
    pub number : number_of after ≡ number_of before
    pub grows : Grows (number_of before) (front_of before) (front_of after)
    pub fresh : filled_of after ≡ []
    pub stands : Stands value (front_of after)
    pub told : setting value ≡ t
    pub legal : Legal t (front_of after)
