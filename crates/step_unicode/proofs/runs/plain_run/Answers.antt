use Rattle.std.proofs.Common.{ℕ, take, sym, subst, true, false}
use Rattle.ascii_lanes.specs.Runs.{ascii_run, plain_units}
use Rattle.step_unicode.specs.declared.set.Uni.{Uni}
use Rattle.step_unicode.specs.declared.set.Uni.TheVariants.{Utf16}
use Rattle.step_unicode.specs.declared.set.State.{State}
use Rattle.step_unicode.specs.Sets.{IsUnit}
use Rattle.step_unicode.specs.Runs.{IsPointRun}
use Rattle.step_unicode.proofs.PointRuns.{ascii_set_points, utf8_points, low_points, high_points, marked_low_points, marked_high_points}
use Rattle.step_unicode.proofs.runs.plain_run.Goals as goal

pub returns-in-Ascii-clause-units : goal.returns-in-Ascii-clause-units
returns-in-Ascii-clause-units c =
    let x = c.args.input.now in
    subst (λ (k : ℕ). IsPointRun (IsUnit c.args.set) c.args.state (take k x)) (sym c.ascii_run.ensures)
    (subst (λ (set : Uni). IsPointRun (IsUnit set) c.args.state (take (ascii_run x) x)) (sym c.in-Ascii.is) (ascii_set_points c.args.state x))

pub returns-in-Utf8-clause-units : goal.returns-in-Utf8-clause-units
returns-in-Utf8-clause-units c =
    let x = c.args.input.now in
    subst (λ (k : ℕ). IsPointRun (IsUnit c.args.set) c.args.state (take k x)) (sym c.ascii_run-in-Utf8.ensures)
    (subst (λ (set : Uni). IsPointRun (IsUnit set) c.args.state (take (ascii_run x) x)) (sym c.in-Utf8.is) (utf8_points c.args.state x))

pub returns-in-Utf16Le-clause-units : goal.returns-in-Utf16Le-clause-units
returns-in-Utf16Le-clause-units c =
    let x = c.args.input.now in
    subst (λ (k : ℕ). IsPointRun (IsUnit c.args.set) c.args.state (take k x)) (sym c.plain_units-in-Utf16Le.ensures)
    (subst (λ (set : Uni). IsPointRun (IsUnit set) c.args.state (take (plain_units false x) x)) (sym c.in-Utf16Le.is) (low_points c.args.state x c.type_inv.input))

pub returns-in-Utf16Be-clause-units : goal.returns-in-Utf16Be-clause-units
returns-in-Utf16Be-clause-units c =
    let x = c.args.input.now in
    subst (λ (k : ℕ). IsPointRun (IsUnit c.args.set) c.args.state (take k x)) (sym c.plain_units-in-Utf16Be.ensures)
    (subst (λ (set : Uni). IsPointRun (IsUnit set) c.args.state (take (plain_units true x) x)) (sym c.in-Utf16Be.is) (high_points c.args.state x c.type_inv.input))

pub returns-in-Little-clause-units : goal.returns-in-Little-clause-units
returns-in-Little-clause-units c =
    let x = c.args.input.now in
    subst (λ (k : ℕ). IsPointRun (IsUnit c.args.set) c.args.state (take k x)) (sym c.plain_units.ensures)
    (subst (λ (set : Uni). IsPointRun (IsUnit set) c.args.state (take (plain_units false x) x)) (sym c.in-Utf16.is)
    (subst (λ (s : State). IsPointRun (IsUnit Utf16) s (take (plain_units false x) x)) (sym c.in-Little.is) (marked_low_points x c.type_inv.input)))

pub returns-in-Big-clause-units : goal.returns-in-Big-clause-units
returns-in-Big-clause-units c =
    let x = c.args.input.now in
    subst (λ (k : ℕ). IsPointRun (IsUnit c.args.set) c.args.state (take k x)) (sym c.plain_units-in-Big.ensures)
    (subst (λ (set : Uni). IsPointRun (IsUnit set) c.args.state (take (plain_units true x) x)) (sym c.in-Utf16.is)
    (subst (λ (s : State). IsPointRun (IsUnit Utf16) s (take (plain_units true x) x)) (sym c.in-Big.is) (marked_high_points x c.type_inv.input)))
