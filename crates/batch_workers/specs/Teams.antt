-- Workers together.
use Rattle.std.specs.Prelude.{◌≡◌, ◌≤◌, ℕ, zero, suc, ◌+◌, Bool, true, false, ◌||◌, List, [], ◌∷◌, ◌++◌}
use Rattle.std.specs.Prelude.{map, Option, Some, None}
use Rattle.job_board.specs.Numbers.{AreSame, weight}
use Rattle.job_board.specs.Drawers.{IsSplit, away_from, drawn_by, is_drained, numbers_of}
use Rattle.job_board.specs.declared.board.Board.{Board}
use Rattle.job_board.specs.declared.board.Drawer.{Drawer}
use Rattle.batch_workers.specs.Parts.{Part, Roll}
use Rattle.batch_workers.specs.Stints.{Stint, stint_of}
use Rattle.batch_workers.specs.declared.piece.Piece.{Piece}
use Rattle.batch_workers.specs.declared.worker.Worker.{Worker}

-- the numbers from so many down to 1
abbrev pub countdown : ℕ → List ℕ
countdown zero = []
countdown (suc n) = suc n ∷ countdown n

-- what all drew
abbrev pub drawn_in : List Stint → List ℕ
drawn_in [] = []
drawn_in (d ∷ ds) = d.drawn ++ drawn_in ds

-- what all hand back
abbrev pub pieces_in : List Stint → List Piece
pieces_in [] = []
pieces_in (d ∷ ds) = d.pieces ++ pieces_in ds

-- memory was wanting to one
abbrev pub some_wanting : List Stint → Bool
some_wanting [] = false
some_wanting (d ∷ ds) = d.wanting || some_wanting ds

-- a piece in the slot at a place
abbrev pub slot_set : List (Option Piece) → ℕ → Piece → List (Option Piece)
slot_set [] place d = []
slot_set (o ∷ os) zero d = Some d ∷ os
slot_set (o ∷ os) (suc place) d = o ∷ slot_set os place d

-- pieces in the slots of their places, where the first counts of two at one place
abbrev pub filled : List (Option Piece) → List Piece → List (Option Piece)
filled slots [] = slots
filled slots (d ∷ ds) = slot_set (filled slots ds) d.place d

-- so many slots with nothing in them
abbrev pub no_pieces : ℕ → List (Option Piece)
no_pieces zero = []
no_pieces (suc n) = None ∷ no_pieces n

-- workers were made so far, whose drawers were split from this one
pub record HasMade (roll : Roll) (old new : Drawer) (count : ℕ) : Type 0 where
  pub next : roll.next ≡ count + 1
  pub away : roll.away ≡ countdown count
  pub none : roll.ended ≡ []
  pub numbers : numbers_of new ≡ numbers_of old
  pub drawn : drawn_by new ≡ drawn_by old
  pub drained : is_drained new ≡ is_drained old
  pub out : away_from new ≡ away_from old + count

-- the drawers of workers were joined to this one
pub record HasJoined (old new : Drawer) (ds : List Stint) : Type 0 where
  pub numbers : numbers_of new ≡ numbers_of old
  pub drawn : AreSame (drawn_by new) (drawn_by old ++ drawn_in ds)
  pub home : away_from new ≡ 0

module _ {C : Type 0} (part : C → Part) where
  -- what contracts see of workers
  abbrev pub stints_of : List (Worker C) → List Stint
  stints_of ws = map (stint_of part) ws

  -- their callers
  abbrev pub parts_of : List (Worker C) → List Part
  parts_of ws = map (λ (w : Worker C). part w.caller) ws

module _ {C : Type 0} where
  -- a worker that can be ended: its caller is the runtime's, and its drawer is the board's
  pub record IsReady (known : C → Type 0) (board : Board) (w : Worker C) : Type 0 where
    pub knows : known w.caller
    pub split : IsSplit board w.drawer

  -- one of the drawers knows that no number is left
  abbrev pub some_drained : List (Worker C) → Bool
  some_drained [] = false
  some_drained (w ∷ ws) = is_drained w.drawer || some_drained ws

-- workers drew some of these numbers, each once, and all of them where one found none left
pub record Draws (numbers : List ℕ) (ds : List Stint) (drained : Bool) : Type 0 where
  pub some : (of : ℕ → ℕ) → weight of (drawn_in ds) ≤ weight of numbers
  pub all : drained ≡ true → AreSame numbers (drawn_in ds)
