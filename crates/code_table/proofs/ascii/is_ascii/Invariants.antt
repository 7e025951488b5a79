use Rattle.std.proofs.Common.{◌≡◌, ◌-◌, ◌≤◌, true}
use Rattle.code_pairs.specs.Tables.{Table}
use Rattle.code_table.specs.Ascii.{are_own}
use Rattle.code_table.specs.Images.{IsImageOf}
use Rattle.code_table.proofs.ascii.is_ascii.Given as goal

abbrev pub invariant-loop-byte : goal.invariant-loop-byte
invariant-loop-byte l = record {
  within : l.byte ≤ 128;
  own : (table : Table) → IsImageOf table l.layout.root l.layout.pages l.words → are_own table l.byte ≡ true;
}

abbrev pub decreases-loop-byte : goal.decreases-loop-byte
decreases-loop-byte l = 128 - l.byte
