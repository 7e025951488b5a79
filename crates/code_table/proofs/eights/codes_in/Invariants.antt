use Rattle.std.proofs.Common.{◌≡◌, ◌-◌, ◌≤◌, length, take}
use Rattle.code_pairs.specs.Tables.{Table}
use Rattle.code_table.specs.Eights.{AreCodesOf}
use Rattle.code_table.specs.Images.{IsImageOf}
use Rattle.code_table.proofs.eights.codes_in.Given as goal

abbrev pub invariant-loop-i : goal.invariant-loop-i
invariant-loop-i g l = record {
  few : l.i ≤ 8;
  long : length l.list ≡ 8;
  same : g.W.Words.words l.words ≡ g.W.Words.words l.initial.words;
  ready : g.W.Words.ready l.words;
  kept : g.W.Words.kept l.initial.words l.words;
  codes : (t : Table) → IsImageOf t l.layout.root l.layout.pages (g.W.Words.words l.initial.words) →
      AreCodesOf t (take l.i l.points) (take l.i l.list);
}

abbrev pub decreases-loop-i : goal.decreases-loop-i
decreases-loop-i g l = 8 - l.i
