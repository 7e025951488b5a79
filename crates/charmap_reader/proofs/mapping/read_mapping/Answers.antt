use Rattle.std.proofs.Common.{◌≡◌, ◌+◌, ◌-◌, ◌++◌, ◌∙◌, map, arith, sym, ap, length, length-append, subst}
use Rattle.text_lines.specs.Lines.{lines}
use Rattle.code_pairs.specs.Tables.{HasPoints}
use Rattle.charmap_reader.specs.Rows.{row_of, rows_of}
use Rattle.charmap_reader.specs.Mapping.{row_pairs, ok_pairs}
use Rattle.charmap_reader.specs.Scan.{scan, pairs_then}
use Rattle.charmap_reader.proofs.Scans.{scan_step}
use Rattle.charmap_reader.proofs.Lines.{HasPoints-row, HasPoints-append, few_behind}
use Rattle.charmap_reader.proofs.mapping.read_mapping.Goals as goal

pub loop-line-preserved : goal.loop-line-preserved
loop-line-preserved c =
    let s = c.args.signs in
    let count = c.args.first + length (lines c.args.text.now) - 1 in
    let ps = c.loop-line.pairs.items in
    let r = row_of c.in-Some.line.now in
    let later = rows_of c.in-Some.behind.now in
    let step = rw c.in-Ok-More.field-0-is at c.in-Ok-More.ensures in
    let next = c.read_mapping_line.new.pairs.items in
    let more : next ≡ ps ++ ok_pairs (row_pairs s r) = step.2 in
    record {
      told = ap (λ xs. pairs_then xs (scan s count (c.loop-line.number + 1) (length xs) later)) more
          ∙ scan_step s count c.loop-line.number ps r later step.0 step.1
          ∙ ap (λ ls. pairs_then ps (scan s count c.loop-line.number (length ps) (map row_of ls)))
          (sym c.in-Some.ensures.found) ∙ c.loop-line.invariant.told;
      room = omega (arith, ap length c.in-Some.ensures.found, c.loop-line.invariant.room);
      some = omega (arith, c.loop-line.invariant.some);
      few = omega (
        arith,
        few_behind (length ps) (row_pairs s r) step.1,
        ap length more,
        length-append ps (ok_pairs (row_pairs s r)),
      );
      points = subst (λ xs. HasPoints xs) (sym more)
          (HasPoints-append ps (ok_pairs (row_pairs s r)) c.loop-line.invariant.points
          (HasPoints-row s r));
    }
