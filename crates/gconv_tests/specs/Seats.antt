-- Which callers sit in a runtime.
use Rattle.history_core.specs.declared.story.Story.{Ghosts}
use Rattle.runtime_room.specs.Grounds.{Ground}
use Rattle.runtime_room.specs.declared.desk.Desk.{Desk}
use Rattle.runtime_room.specs.declared.desk.Noted.{Noted}
use Rattle.runtime_room.specs.declared.story.Room.{Room}
use Rattle.gconv_runtime.specs.Tokens.{Knows}
use Rattle.gconv_runtime.specs.Owning.{Owns}
use Rattle.gconv_runtime.specs.declared.tokens.Gconv.{Gconv}
use Rattle.gconv_tests.specs.declared.seats.Seat.{Seat}
use Rattle.gconv_tests.specs.declared.seats.Seat.TheVariants.{Free, Idle, Busy}

module _ {L : Type 0} {g : Ghosts (Room L) (Desk L) Noted Ground} where
  -- Who sits there is a caller of the runtime, and owns what it has.
  abbrev pub Sits : Gconv L → Seat L (Desk L) Noted Ground g → Type 0
  Sits gconv Free = Unit {0}
  Sits gconv (Idle caller) = Knows gconv caller
  Sits gconv (Busy caller d) = Knows gconv caller × Owns gconv caller d
