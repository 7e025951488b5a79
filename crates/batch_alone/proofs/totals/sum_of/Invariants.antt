use Rattle.std.proofs.Common.{◌≡◌, ◌≤◌, ◌+◌, ◌*◌, drop}
use Rattle.std.specs.Prelude.{sum}
use Rattle.batch_alone.proofs.totals.sum_of.Given as goal

abbrev pub invariant-bytes : goal.invariant-bytes
invariant-bytes l = record {
  whole : l.total + sum (drop l.byte-index l.bytes) ≡ sum l.bytes;
  low : l.total ≤ 255 * l.byte-index;
}
