use Rattle.std.proofs.Common.{◌≡◌, ap, sym, ◌∙◌, arith, Ok, ◌+◌}
use Rattle.std.specs.List.{enumerate_from}
use Rattle.text_lines.specs.Lines.{lines}
use Rattle.modules_conf.specs.Bindings.{bindings_of, rows_among, rows}
use Rattle.modules_conf.specs.BindingRows.{with_rows}
use Rattle.modules_conf.proofs.BindingModel.{bindings_of-rows, with_rows-end, AreSound-bindings_of}
use Rattle.modules_conf.proofs.binding_reader.read_bindings.Goals as goal

pub loop-line-init : goal.loop-line-init
loop-line-init c = record {
  value = bindings_of-rows c.args.text.now ∙ ap (with_rows (rows c.args.text.now)) (sym c.new-bindings.ensures);
  names = rw c.new-bindings.ensures c.new-names.ensures.empty;
  left = omega arith;
}

pub returns-clause-value : goal.returns-clause-value
returns-clause-value c =
    c.loop-line.invariant.value
    ∙ ap (λ rest. with_rows (rows_among (enumerate_from (c.loop-line.number + 1) (lines rest))) c.loop-line.bindings) c.in_default.ensures.found
    ∙ with_rows-end c.loop-line.bindings

pub returns-clause-sound : goal.returns-clause-sound
returns-clause-sound c =
    let value : bindings_of c.args.text.now ≡ Ok c.loop-line.bindings =
    c.loop-line.invariant.value
    ∙ ap (λ rest. with_rows (rows_among (enumerate_from (c.loop-line.number + 1) (lines rest))) c.loop-line.bindings) c.in_default.ensures.found
    ∙ with_rows-end c.loop-line.bindings in
    AreSound-bindings_of c.args.text.now c.loop-line.bindings value
