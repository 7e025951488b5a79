use Rattle.std.proofs.Common.{◌+◌, ◌-◌, ◌++◌, map, refl, arith}
use Rattle.std.specs.List.{concat, range_with_len}
use Rattle.batch_jobs.specs.Generated.{all_mappings, mapping_line}
use Rattle.batch_jobs.proofs.Ranges.{finished, longer, texts_first, texts_none}
use Rattle.batch_jobs.proofs.made_charmaps.add_lines.Goals as goal

pub lines-init : goal.lines-init
unfolding all_mappings
lines-init c = refl

pub lines-preserved : goal.lines-preserved
lines-preserved c = longer (c.args.text.now.items ++ all_mappings c.args.number c.args.charmap) c.lines.text.items (mapping_line c.args.number c.args.charmap c.lines.line) c.add_line.new.text.items
    (concat (map (mapping_line c.args.number c.args.charmap) (range_with_len c.lines.line (1024 - c.lines.line))))
    (concat (map (mapping_line c.args.number c.args.charmap) (range_with_len (c.lines.line + 1) (1024 - (c.lines.line + 1)))))
    c.lines.invariant (texts_first (mapping_line c.args.number c.args.charmap) c.lines.line 1024 (omega (arith, c.lines-test.true))) c.in_ok-add_line.ensures

pub returns : goal.returns
returns c = finished (c.args.text.now.items ++ all_mappings c.args.number c.args.charmap) c.lines.text.items
    (concat (map (mapping_line c.args.number c.args.charmap) (range_with_len c.lines.line (1024 - c.lines.line))))
    c.lines.invariant (texts_none (mapping_line c.args.number c.args.charmap) c.lines.line 1024 (omega (arith, c.lines-test.false)))
