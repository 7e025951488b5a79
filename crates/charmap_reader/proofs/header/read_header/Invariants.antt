use Rattle.std.proofs.Common.{◌≡◌, ◌+◌, ◌≤◌, length}
use Rattle.text_lines.specs.Lines.{lines}
use Rattle.charmap_reader.specs.Rows.{rows_of}
use Rattle.charmap_reader.specs.Scan.{scan_header, scan_text}
use Rattle.charmap_reader.proofs.header.read_header.Given as goal

abbrev pub decreases-loop-line : goal.decreases-loop-line
decreases-loop-line l = length l.rest

abbrev pub invariant-loop-line : goal.invariant-loop-line
invariant-loop-line l = record {
  told : scan_header l.signs (length (lines l.text)) l.number (rows_of l.rest) ≡ scan_text l.text;
  room : l.number + length (lines l.rest) ≡ length (lines l.text) + 1;
  some : 1 ≤ l.number;
}
