-- A caller that was made.
use Rattle.std.proofs.Common.{◌≡◌, ◌≢◌, ℕ, ◌+◌, ◌∷◌, Result, Ok, Err, IfOk, OnOk, OnErr}
use Rattle.std.specs.List.{AllByRecursion}
use Rattle.history_core.specs.History.{EachNumber}
use Rattle.history_core.specs.declared.story.Story.{Ghosts}
use Rattle.runtime_room.specs.Grounds.{Ground}
use Rattle.runtime_room.specs.Rooms.{IsOwn}
use Rattle.runtime_room.specs.declared.desk.Desk.{Desk}
use Rattle.runtime_room.specs.declared.desk.Noted.{Noted}
use Rattle.runtime_room.specs.declared.story.Room.{Room}
use Rattle.gconv_runtime.specs.Tokens.{Knows, number, front, lead_front, next_number, away_of, ended_of}
use Rattle.gconv_runtime.specs.declared.tokens.Gconv.{Gconv}
use Rattle.gconv_runtime.specs.declared.tokens.Caller.{Caller}
use Rattle.gconv_runtime.specs.declared.tokens.Lead.{Lead}
use Rattle.gconv_runtime.proofs.Living.{none_live}
use Rattle.batch_workers.specs.Parts.{new_part, with_caller}
use Rattle.batch_gconv.specs.Callers.{IsIdle, part_of, parts_at, roll_of}
use Rattle.batch_gconv.proofs.Own.{own_none}

module _ {L : Type 0} {g : Ghosts (Room L) (Desk L) Noted Ground} where
  -- A new caller has no entry and no live descriptor, and its lead knows of it.
  pub caller_made : {E : Type 0} (gconv : Gconv L) (old new : Lead L (Desk L) Noted Ground g) (r : Result (Caller L (Desk L) Noted Ground g) E)
      → ((c : Caller L (Desk L) Noted Ground g) → Knows gconv c → AllByRecursion IsOwn (front c))
      → IfOk r (Knows gconv) → IfOk r (λ c. number c ≡ next_number old) → IfOk r (λ c. front c ≡ lead_front old) → IfOk r (λ c. EachNumber (λ n. n ≢ number c) (front c))
      → OnOk r (next_number new ≡ next_number old + 1) → OnOk r (away_of new ≡ next_number old ∷ away_of old) → ended_of new ≡ ended_of old
      → IfOk r (λ c. IsIdle gconv c × (part_of c ≡ new_part (next_number old)) × (roll_of new ≡ with_caller (roll_of old)))
  caller_made gconv old new (Ok c) mine knows is_number is_front none next away ended = (
    record { knows = knows; none = none_live (number c) (front c) (mine c knows) none },
    (λ i. record { number = is_number i; entries = own_none (number c) (front c) (mine c knows) none i }),
    (λ i. record { next = next i; away = away i; ended = parts_at (ended i) }),
  )
  caller_made gconv old new (Err e) mine knows is_number is_front none next away ended = knows

  -- Where none was made, its lead is as it was.
  pub caller_refused : {C E : Type 0} (old new : Lead L (Desk L) Noted Ground g) (r : Result C E) → OnErr r ((next_number new ≡ next_number old) × (away_of new ≡ away_of old)) → ended_of new ≡ ended_of old
      → OnErr r (roll_of new ≡ roll_of old)
  caller_refused old new (Ok c) same ended = tt
  caller_refused old new (Err e) same ended = λ i. record { next = same.0 i; away = same.1 i; ended = parts_at (ended i) }
