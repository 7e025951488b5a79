-- What one worker does.
use Rattle.std.specs.Prelude.{◌≡◌, ◌≤◌, ℕ, Bool, true, false, List, [], ◌∷◌, ◌++◌, map}
use Rattle.std.specs.List.{filter}
use Rattle.std.specs.List.{AllByRecursion}
use Rattle.job_board.specs.Drawers.{IsSplit, drawn_by, is_drained}
use Rattle.job_board.specs.declared.board.Board.{Board}
use Rattle.runtime_histories.specs.Settings.{Setting}
use Rattle.batch_jobs.specs.Jobs.{JobLine}
use Rattle.batch_runs.specs.Takings.{Taking}
use Rattle.batch_runs.specs.Works.{Works}
use Rattle.batch_runs.specs.Shares.{Share, AreOwn}
use Rattle.batch_alone.specs.Readings.{length_made, work_of}
use Rattle.batch_workers.specs.Parts.{Part, Serves}
use Rattle.batch_workers.specs.Toils.{AreOfJobs, is_taken, most_made, places_of, share_of, taking_at}
use Rattle.batch_workers.specs.declared.piece.Piece.{Piece}
use Rattle.batch_workers.specs.declared.worker.Worker.{Worker}

-- what a worker did so far: its own entries, the numbers that it drew, what it hands back, and
-- whether memory was wanting
pub record Stint : Type 0 where
  pub part : Part
  pub drawn : List ℕ
  pub pieces : List Piece
  pub wanting : Bool

-- the shares that a worker hands back, beside their jobs
abbrev pub shares_of : List JobLine → List Piece → List Share
shares_of jobs ds = map (share_of jobs) ds

-- a share's work is one that the input of its job allows, and made at most so many bytes
pub record IsAllowed (s : Setting) (inputs : List Taking) (d : Share) : Type 0 where
  pub works : Works s d.job (taking_at inputs d.place) d.work
  pub room : length_made d.work ≤ most_made

-- a worker's own entries are those of works of the jobs that it drew, each once; unless memory was
-- wanting these are the works that it hands back
pub record IsStint (s : Setting) (jobs : List JobLine) (inputs : List Taking) (d : Stint) : Type 0 where
  pub shares : List Share
  pub own : AreOwn s d.part.number shares d.part.entries
  pub of_jobs : AreOfJobs jobs shares
  pub drew : places_of shares ≡ filter (is_taken inputs) d.drawn
  pub whole : d.wanting ≡ false → (shares ≡ shares_of jobs d.pieces) × AllByRecursion (IsAllowed s inputs) shares

-- a worker did the work of a job at a place, and hands back what it gave
pub record Hands (s : Setting) (old new : Part) (before after : List Piece) (place : ℕ) (job : JobLine)
    (input : Taking) : Type 0 where
  pub piece : Piece
  pub is_place : piece.place ≡ place
  pub handed : after ≡ before ++ piece ∷ []
  pub serves : Serves s old new job input (work_of piece.worked piece.output.items)
  pub room : length_made (work_of piece.worked piece.output.items) ≤ most_made

-- a worker that has this part and hands these back, and whose memory was wanting or not
abbrev pub stint_with : Part → List ℕ → List Piece → Bool → Stint
stint_with p drawn pieces wanting =
    record { part = p; drawn = drawn; pieces = pieces; wanting = wanting }

-- a worker that drew one number more did what it stands for, or memory was wanting
abbrev pub GoesOn : Setting → List JobLine → List Taking → Part → Part → List Piece → List Piece → ℕ → Bool
    → Type 0
GoesOn s jobs inputs old new before after place wanting = (drawn : List ℕ)
    → IsStint s jobs inputs (stint_with old drawn before false)
    → IsStint s jobs inputs (stint_with new (drawn ++ place ∷ []) after wanting)

module _ {C : Type 0} (part : C → Part) where
  -- what contracts see of a worker
  abbrev pub stint_of : Worker C → Stint
  stint_of w = record {
    part = part w.caller;
    drawn = drawn_by w.drawer;
    pieces = w.pieces.items;
    wanting = w.wanting;
  }

  -- a worker of this runtime and this board that has done nothing
  pub record CanWork (known : C → Type 0) (board : Board) (w : Worker C) : Type 0 where
    pub knows : known w.caller
    pub split : IsSplit board w.drawer
    pub entries : (part w.caller).entries ≡ []
    pub drawn : drawn_by w.drawer ≡ []
    pub pieces : w.pieces.items ≡ []
    pub calm : w.wanting ≡ false

  -- a worker did what it drew, until the board was drained or memory was wanting
  pub record HasWorked (known : C → Type 0) (board : Board) (s : Setting) (jobs : List JobLine)
      (inputs : List Taking) (old new : Worker C) : Type 0 where
    pub knows : known new.caller
    pub split : IsSplit board new.drawer
    pub number : (part new.caller).number ≡ (part old.caller).number
    pub stint : IsStint s jobs inputs (stint_of new)
    pub drained : new.wanting ≡ false → is_drained new.drawer ≡ true
