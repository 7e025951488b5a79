use Rattle.std.proofs.Common.{◌≡◌, ◌∙◌, List, Option, Some, map, position, get_or, sym, ap, subst, eqb, true≢false, is_some}
use Rattle.std.specs.Prelude.{IsSomeAnd}
use Rattle.chain_steps.specs.Machine.{Machine}
use Rattle.conversion_book.specs.declared.descriptor.Descriptor.{Descriptor}
use Rattle.conversion_book.specs.Descriptors.{held_as}
use Rattle.conversion_book.specs.Runtime.{Held}
use Rattle.conversion_book.proofs.Holding.{found_at, found_none, moved_at, run_at}
use Rattle.conversion_book.proofs.lent.run_held.Goals as goal

pub run-requires : goal.run-requires
run-requires g c =
    let ds : List Descriptor = c.args.held.now in
    let at = c.in-Some.at in
    let d = c.index-held-at.result in
    let pos : position (λ (x : Descriptor). eqb x.number c.args.number) ds ≡ Some at = sym c.place_of.ensures ∙ c.in-Some.is in
    record { ready = run_at c.args.number (map held_as ds) (held_as (get_or ds at d)) c.requires.runs (found_at c.args.number ds at d pos) }

pub unreachable-requires : goal.unreachable-requires
unreachable-requires g c = true≢false (sym c.requires.there ∙ ap is_some (found_none c.args.number c.args.held.now (sym c.place_of.ensures ∙ c.in-None.is)))

pub returns : goal.returns
returns g c =
    let ds : List Descriptor = c.args.held.now in
    let at = c.in-Some.at in
    let d = c.index-held-at.result in
    let pos : position (λ (x : Descriptor). eqb x.number c.args.number) ds ≡ Some at = sym c.place_of.ensures ∙ c.in-Some.is in
    let n : Machine = c.run.new.converter.runner in
    record {
      machine = n;
      does_so = subst (λ (o : Option Held). IsSomeAnd o (λ h. (n.recipe ≡ h.machine.recipe) × g.W.Work.does c.args.work h.tables h.machine n c.run.result)) (sym (found_at c.args.number ds at d pos)) (c.run.ensures.recipe, c.run.ensures.value);
      new_is = moved_at c.args.number n ds at d c.run.new.converter pos (λ i. record { number = c.run.ensures.back.kept i; tables = c.run.ensures.back.same i; machine = n });
    }
