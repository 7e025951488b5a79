use Rattle.std.proofs.Common.{◌≡◌, ◌≤◌, ◌-◌, length, take}
use Rattle.code_table.specs.HandsBack.{HandsBack}
use Rattle.step_buffers.specs.Stands.{StandsFor}
use Rattle.batch_gconv.proofs.whole.feed_all.Given as goal

abbrev pub invariant-loop-at : goal.invariant-loop-at
invariant-loop-at g l = record {
  recipe : (g.C.Converter.machine l.converter).recipe ≡ (g.C.Converter.machine l.initial.converter).recipe;
  back : HandsBack g.C.Converter.tables g.C.Converter.ready g.C.Converter.kept l.initial.converter l.converter;
  stands : StandsFor (g.C.Converter.tables l.converter) (g.C.Converter.machine l.converter) l.session (take l.at l.input);
  taken : l.session.taken ≤ l.at;
  within : l.at ≤ length l.input;
}

abbrev pub decreases-loop-at : goal.decreases-loop-at
decreases-loop-at g l = length l.input - l.at
