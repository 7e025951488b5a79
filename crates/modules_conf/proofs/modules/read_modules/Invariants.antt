use Rattle.std.proofs.Common.{◌≡◌, ◌+◌, ◌≤◌, length}
use Rattle.std.specs.List.{enumerate_from}
use Rattle.text_lines.specs.Lines.{lines}
use Rattle.modules_conf.specs.Modules.{conf_of}
use Rattle.modules_conf.specs.Reading.{conf_with, IsFewEnough}
use Rattle.modules_conf.proofs.modules.read_modules.Given as goal

abbrev pub decreases-loop-line : goal.decreases-loop-line
decreases-loop-line l = length l.rest

abbrev pub invariant-loop-line : goal.invariant-loop-line
invariant-loop-line l = record {
  value : conf_of l.text ≡ conf_with l.conf (enumerate_from (l.number + 1) (lines l.rest));
  left : l.number + length l.rest ≤ length l.text;
  passed : l.conf.passed ≤ l.number;
  few : IsFewEnough l.conf;
}
