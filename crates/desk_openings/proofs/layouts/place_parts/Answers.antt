use Rattle.desk_openings.proofs.Keeping.{put_here, put_elsewhere}
use Rattle.desk_openings.proofs.layouts.place_parts.Goals as goal

pub returns-clause-own : goal.returns-clause-own
returns-clause-own c = put_here c.args.layouts.now c.args.«module» c.args.parts c.requires

pub returns-clause-others : goal.returns-clause-others
returns-clause-others c m ne = put_elsewhere c.args.layouts.now c.args.«module» m c.args.parts ne
