use Rattle.std.proofs.Common.{◌≡◌, ◌+◌, ◌≤◌, length, map}
use Rattle.std.specs.List.{enumerate_from}
use Rattle.text_lines.specs.Lines.{lines}
use Rattle.modules_conf.specs.Bindings.{bindings_of, rows_among}
use Rattle.modules_conf.specs.BindingRows.{with_rows}
use Rattle.modules_conf.proofs.binding_reader.read_bindings.Given as goal

abbrev pub decreases-loop-line : goal.decreases-loop-line
decreases-loop-line l = length l.rest

abbrev pub invariant-loop-line : goal.invariant-loop-line
invariant-loop-line l = record {
  value : bindings_of l.text ≡ with_rows (rows_among (enumerate_from (l.number + 1) (lines l.rest))) l.bindings;
  names : l.names.keys ≡ map (λ b. b.name) l.bindings;
  left : l.number + length l.rest ≤ length l.text;
}
