use Rattle.std.proofs.Common.{◌≡◌, ◌*◌, ◌-◌, ◌≤◌, length, take}
use Rattle.code_pairs.specs.Tables.{Table}
use Rattle.code_table.specs.Eights.{AreCodes}
use Rattle.code_table.specs.Images.{IsImageOf}
use Rattle.code_table.proofs.eights.eight_in.Given as goal

abbrev pub invariant-loop-i : goal.invariant-loop-i
invariant-loop-i g l = record {
  few : l.i ≤ 8;
  long : length l.points ≡ 8;
  some : l.i ≤ l.used;
  most : l.used ≤ 4 * l.i;
  same : g.W.Words.words l.words ≡ g.W.Words.words l.initial.words;
  ready : g.W.Words.ready l.words;
  kept : g.W.Words.kept l.initial.words l.words;
  codes : (t : Table) → IsImageOf t l.layout.root l.layout.pages (g.W.Words.words l.initial.words) →
      AreCodes t (take l.i l.points) (take l.used l.input);
}

abbrev pub decreases-loop-i : goal.decreases-loop-i
decreases-loop-i g l = 8 - l.i
