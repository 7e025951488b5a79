use Rattle.desk_openings.proofs.Begun.{refused_told, refused_count}
use Rattle.std.proofs.Common.{refl}
use Rattle.desk_openings.proofs.beginning.begin_on.Goals as goal

pub returns-in-Err-clause-desk : goal.returns-in-Err-clause-desk
returns-in-Err-clause-desk g c = record {
  graph = refl;
  aliases = refl;
  directory = refl;
  layouts = refl;
  cache = refl;
  first = refl;
  told = refused_told _ _ _ _ _ _ _ _ c.in-Err.why c.in-Err.ensures.err;
  count = refused_count _ _ _ _ _ _ _ _ c.in-Err.why c.in-Err.ensures.err;
}
