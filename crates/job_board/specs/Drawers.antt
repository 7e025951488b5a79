-- What contracts see of a board's drawers.
use Rattle.std.specs.Prelude.{◌≡◌, ℕ, ◌+◌, ◌-◌, ◌≤◌, Bool, true, false, ◌||◌, List, [], ◌∷◌, ◌++◌, length}
use Rattle.crossbeam_queue.specs.Passes.{view, IsPassOf}
use Rattle.job_board.specs.declared.board.Board.{Board}
use Rattle.job_board.specs.declared.board.Drawer.{Drawer}
use Rattle.job_board.specs.declared.hand.Hand.{Hand}
use Rattle.job_board.specs.Numbers.{AreSame, most_numbers}
use Rattle.job_board.specs.Rule.{may_act}

-- The numbers that a drawer drew, the oldest first. A leader's are its own and those of the drawers that it joined.
abbrev pub drawn_by : Drawer → List ℕ
drawn_by d = (view d.pass).drawn

-- The drawer knows that no number is left.
abbrev pub is_drained : Drawer → Bool
is_drained d = (view d.pass).drained

-- The numbers that a leader's board was made with.
abbrev pub numbers_of : Drawer → List ℕ
numbers_of d = (view d.pass).all

-- How many drawers were split from a leader and not joined.
abbrev pub away_from : Drawer → ℕ
away_from d = (view d.pass).away

-- The drawer is one of this board.
abbrev pub IsDrawer : Board → Drawer → Type 0
IsDrawer board d = IsPassOf board.queue d.pass × (may_act (view d.pass) ≡ true)

-- The drawer is the one that leads: `new` gave it.
pub record IsLead (board : Board) (d : Drawer) : Type 0 where
  pub drawer : IsDrawer board d
  pub leads : (view d.pass).leads ≡ true
  pub few : length (numbers_of d) ≤ most_numbers

-- The drawer was split from the one that leads.
pub record IsSplit (board : Board) (d : Drawer) : Type 0 where
  pub drawer : IsDrawer board d
  pub out : (view d.pass).out ≡ true

-- A drawer stays what it is, of the same board, with as many away.
pub record StaysHand (v w : Hand) : Type 0 where
  pub leads : w.leads ≡ v.leads
  pub out : w.out ≡ v.out
  pub all : w.all ≡ v.all
  pub away : w.away ≡ v.away

-- The drawer found no number, and none will come.
pub record Drains (v w : Hand) : Type 0 where
  pub stays : StaysHand v w
  pub drawn : w.drawn ≡ v.drawn
  pub drained : w.drained ≡ true

-- The drawer drew a number, so it hadn't been drained.
pub record Draws (v w : Hand) (n : ℕ) : Type 0 where
  pub stays : StaysHand v w
  pub drawn : w.drawn ≡ v.drawn ++ n ∷ []
  pub left : v.drained ≡ false
  pub drained : w.drained ≡ false

-- A leader split a drawer: one more is away.
pub record Splits (board : Board) (old new : Drawer) : Type 0 where
  pub lead : IsLead board new
  pub numbers : numbers_of new ≡ numbers_of old
  pub drawn : drawn_by new ≡ drawn_by old
  pub drained : is_drained new ≡ is_drained old
  pub away : away_from new ≡ away_from old + 1

-- A leader took a drawer in: what that drew is the leader's, and one fewer is away.
pub record Joins (board : Board) (old drawer new : Drawer) : Type 0 where
  pub lead : IsLead board new
  pub numbers : numbers_of new ≡ numbers_of old
  pub drawn : drawn_by new ≡ drawn_by old ++ drawn_by drawer
  pub drained : is_drained new ≡ is_drained old || is_drained drawer
  pub away : away_from new ≡ away_from old - 1

-- So many numbers are left: with those that were drawn they are all, each once.
pub record Leaves (all drawn : List ℕ) (count : ℕ) : Type 0 where
  pub left : List ℕ
  pub many : length left ≡ count
  pub same : AreSame all (drawn ++ left)
