use Rattle.std.proofs.Common.{◌≡◌, ◌+◌, ◌-◌, ◌≤◌, length}
use Rattle.text_lines.specs.Lines.{lines}
use Rattle.code_pairs.specs.Tables.{HasPoints}
use Rattle.charmap_reader.specs.Rows.{rows_of}
use Rattle.charmap_reader.specs.Limits.{most_pairs}
use Rattle.charmap_reader.specs.Scan.{scan, scan_rest, pairs_then}
use Rattle.charmap_reader.proofs.mapping.read_mapping.Given as goal

abbrev pub decreases-loop-line : goal.decreases-loop-line
decreases-loop-line l = length l.rest

abbrev pub invariant-loop-line : goal.invariant-loop-line
invariant-loop-line l = record {
  told : pairs_then l.pairs.items
      (scan l.signs (l.first + length (lines l.text) - 1) l.number (length l.pairs.items)
      (rows_of l.rest))
      ≡ scan_rest l.signs l.first l.text;
  room : l.number + length (lines l.rest) ≡ l.first + length (lines l.text);
  some : l.first ≤ l.number;
  few : length l.pairs.items ≤ most_pairs;
  points : HasPoints l.pairs.items;
}
