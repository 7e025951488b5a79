use Rattle.std.proofs.Common.{subst}
use Rattle.runtime_histories.specs.Deeds.{IsIn}
use Rattle.gconv_tests.proofs.seats.kept.Goals as goal

pub unreachable-requires : goal.unreachable-requires
unreachable-requires g c = subst (IsIn c.requires.owns.desc) c.in-Ok.ensures.ended.0 c.requires.owns.live
