use Rattle.std.proofs.Common.{◌≡◌, [], arith, refl, sym, ◌∙◌}
use Rattle.names_alias.proofs.Scans.{normal_by_scan, Pushes, scanned_slash, scanned_head, scanned_tail}
use Rattle.names_alias.proofs.form.normal.Goals as goal
use Rattle.names_alias.proofs.form.normal.Goals.{then-byte-eq47+else-slashes-eq2, else-byte-eq47+else-slashes-eq2-2+then-slashes-eq0, else-byte-eq47+else-slashes-eq2-2+else-slashes-eq0}

pub loop-at-init : goal.loop-at-init
loop-at-init c = record { head = []; tail = []; written = c.new-front.ensures; before = refl; few = omega arith; short = omega (arith, c.new-front.ensures.len); rest = normal_by_scan c.args.text.now }

pub loop-at-preserved : goal.loop-at-preserved
loop-at-preserved c =
    let s = c.loop-at.invariant in
    let lt = c.loop-at-test.true in
    let e = c.upper-byte.ensures in
    let k : _ ≡ _ = sym c.keeps.ensures ∙ c.if-not-keeps.false in
    let p : Pushes _ _ _ = (c.push.ensures.len, c.push.ensures.front) in
    elim c.if-byte-eq47.branch [
      | then-byte-eq47+else-slashes-eq2 w ↦ rw (w.first-is, w.slashes-is) (scanned_slash c.args.text.now _ _ _ c.upper-byte.result _ _ s lt e k w.if-byte-eq47.true (omega (arith, s.few, w.if-slashes-eq2.false)) p)
      | else-byte-eq47+else-slashes-eq2-2+then-slashes-eq0 w ↦ rw (w.first-is, w.slashes-is) (scanned_head c.args.text.now _ _ _ c.upper-byte.result _ _ s lt e k w.if-byte-eq47.false w.if-slashes-eq0.true p)
      | else-byte-eq47+else-slashes-eq2-2+else-slashes-eq0 w ↦ rw (w.first-is, w.slashes-is) (scanned_tail c.args.text.now _ _ _ c.upper-byte.result _ _ s lt e k w.if-byte-eq47.false w.if-slashes-eq0.false w.if-slashes-eq2-2.false p)
    ]
