use Rattle.std.proofs.Common.{◌≡◌, ◌-◌, ℕ, vec_len}
use Rattle.runtime_room.specs.Desks.{layouts_at}
use Rattle.desk_openings.proofs.layouts.lengthen.Given as goal

abbrev pub invariant-loop-alloc : goal.invariant-loop-alloc
invariant-loop-alloc l = (m : ℕ) → layouts_at l.layouts.items m ≡ layouts_at l.initial.layouts.items m

abbrev pub decreases-loop-alloc : goal.decreases-loop-alloc
decreases-loop-alloc l = l.count - vec_len l.layouts
