-- The outside of a run, put together.
use Rattle.outside.specs.Moments.{Outside, Written, Holdings}
use Rattle.batch_runs.specs.Batches.{World}

-- the outside, of its files, its library and its sink
abbrev pub world : Outside → Holdings → Written → World
world files library sink = record { files = files; library = library; sink = sink }
