use Rattle.wide_lanes.proofs.WindowLemmas.{bits_of_flags}
use Rattle.wide_lanes.proofs.ends.set_bits.Goals as goal

pub returns : goal.returns
returns c = λ ws t is. bits_of_flags ws t c.args.flags c.fits-flags.0 is
