use Rattle.std.proofs.Common.{map, take}
use Rattle.runtime_histories.specs.Entries.{loaded_of}
use Rattle.desk_openings.proofs.Keeping.{IsKeeping}
use Rattle.desk_openings.proofs.layouts.keep_layouts.Given as goal

abbrev pub invariant-loop-place : goal.invariant-loop-place
invariant-loop-place l = IsKeeping l.initial.layouts.items l.layouts.items (take l.place (map loaded_of l.loads))
