use Rattle.std.proofs.Common.{◌∙◌}
use Rattle.code_table.proofs.laws.hand_back_twice.Goals as goal

pub returns : goal.returns
returns g c = λ x y z first second. record {
  same = second.same ∙ first.same;
  ready = second.ready;
  kept = g.met.T.Lookup.kept_twice x y z first.kept second.kept;
}
