use Rattle.std.proofs.Common.{◌∙◌}
use Rattle.desk_openings.proofs.Keeping.{layouts_here, layouts_beyond}
use Rattle.desk_openings.proofs.pins.layouts_of.Goals as goal

pub returns-then-place-layouts : goal.returns-then-place-layouts
returns-then-place-layouts c = c.as_slice.ensures.value ∙ layouts_here c.args.layouts.now c.args.«module» c.index-layouts-place.result c.if-place-layouts.true c.index-layouts-place.is

pub returns-else-place-layouts : goal.returns-else-place-layouts
returns-else-place-layouts c = layouts_beyond c.args.layouts.now c.args.«module» c.if-place-layouts.false
