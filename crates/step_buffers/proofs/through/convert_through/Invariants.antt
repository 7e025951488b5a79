use Rattle.std.proofs.Common.{◌≤◌, ◌-◌, length, take}
use Rattle.code_table.specs.HandsBack.{HandsBack}
use Rattle.step_buffers.specs.Steps.{HasWritten}
use Rattle.step_buffers.proofs.through.convert_through.Given as goal

abbrev pub invariant-loop-progress : goal.invariant-loop-progress
invariant-loop-progress g l = record {
  within : l.at ≤ length l.input;
  written : HasWritten (g.C.Converter.tables l.initial.converter) (g.C.Converter.machine l.initial.converter) (g.C.Converter.machine l.converter)
      (take l.at l.input) l.initial.output l.output;
  back : HandsBack g.C.Converter.tables g.C.Converter.ready g.C.Converter.kept l.initial.converter l.converter;
}

abbrev pub decreases-loop-progress : goal.decreases-loop-progress
decreases-loop-progress g l = length l.input - l.at
