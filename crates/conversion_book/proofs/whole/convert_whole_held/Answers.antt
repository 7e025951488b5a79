use Rattle.std.proofs.Common.{◌≡◌, ◌∙◌, List, Option, Some, map, position, get_or, sym, ap, subst, eqb, true≢false, is_some}
use Rattle.std.specs.Prelude.{IsSomeAnd, IfSome}
use Rattle.std.proofs.Math.ListN.{set}
use Rattle.chain_steps.specs.Chains.{initial}
use Rattle.chain_steps.specs.Machine.{Machine}
use Rattle.conversion_book.specs.declared.descriptor.Descriptor.{Descriptor}
use Rattle.conversion_book.specs.Calls.{Moves, ConvertsWhole}
use Rattle.conversion_book.specs.Descriptors.{held_as}
use Rattle.conversion_book.specs.Runtime.{Held}
use Rattle.conversion_book.proofs.Holding.{found_at, found_none, moved_at, run_at}
use Rattle.conversion_book.proofs.Wholes.{ok_so}
use Rattle.conversion_book.proofs.whole.convert_whole_held.Goals as goal

pub convert_by-requires-clause-runs : goal.convert_by-requires-clause-runs
convert_by-requires-clause-runs c =
    let ds : List Descriptor = c.args.held.now in
    let at = c.in-Some.at in
    let d = c.index-held-at.result in
    let pos : position (λ (x : Descriptor). eqb x.number c.args.number) ds ≡ Some at = sym c.place_of.ensures ∙ c.in-Some.is in
    run_at c.args.number (map held_as ds) (held_as (get_or ds at d)) c.requires.runs (found_at c.args.number ds at d pos)

pub convert_by-requires-clause-fresh : goal.convert_by-requires-clause-fresh
convert_by-requires-clause-fresh c =
    let ds : List Descriptor = c.args.held.now in
    let at = c.in-Some.at in
    let d = c.index-held-at.result in
    let pos : position (λ (x : Descriptor). eqb x.number c.args.number) ds ≡ Some at = sym c.place_of.ensures ∙ c.in-Some.is in
    subst (λ (o : Option Held). IfSome o (λ h. h.machine.states ≡ initial)) (found_at c.args.number ds at d pos) c.requires.fresh

pub unreachable-requires : goal.unreachable-requires
unreachable-requires c = true≢false (sym c.requires.there ∙ ap is_some (found_none c.args.number c.args.held.now (sym c.place_of.ensures ∙ c.in-None.is)))

pub returns-clause-ok : goal.returns-clause-ok
returns-clause-ok c =
    let ds : List Descriptor = c.args.held.now in
    let at = c.in-Some.at in
    let d = c.index-held-at.result in
    let pos : position (λ (x : Descriptor). eqb x.number c.args.number) ds ≡ Some at = sym c.place_of.ensures ∙ c.in-Some.is in
    let e = c.convert_by.new.descriptor in
    let n : Machine = e.runner in
    ok_so c.convert_by.result (λ r. ConvertsWhole c.args.input.now r.0.output.items r.1 (get_or ds at d).tables (get_or ds at d).runner n)
    (λ r. Moves (map held_as ds) (map held_as (set ds at e)) c.args.number (ConvertsWhole c.args.input.now r.0.output.items r.1)) (λ r z. record {
      machine = n;
      does_so = subst (λ (o : Option Held). IsSomeAnd o (λ h. ConvertsWhole c.args.input.now r.0.output.items r.1 h.tables h.machine n)) (sym (found_at c.args.number ds at d pos)) z;
      new_is = moved_at c.args.number n ds at d e pos (λ i. record { number = c.convert_by.ensures.number i; tables = c.convert_by.ensures.tables i; machine = n });
    }) c.convert_by.ensures.ok

pub returns-clause-moves : goal.returns-clause-moves
returns-clause-moves c =
    let ds : List Descriptor = c.args.held.now in
    let at = c.in-Some.at in
    let d = c.index-held-at.result in
    let pos : position (λ (x : Descriptor). eqb x.number c.args.number) ds ≡ Some at = sym c.place_of.ensures ∙ c.in-Some.is in
    let e = c.convert_by.new.descriptor in
    let n : Machine = e.runner in
    record {
      machine = n;
      does_so = subst (λ (o : Option Held). IsSomeAnd o (λ h. n.recipe ≡ h.machine.recipe)) (sym (found_at c.args.number ds at d pos)) c.convert_by.ensures.recipe;
      new_is = moved_at c.args.number n ds at d e pos (λ i. record { number = c.convert_by.ensures.number i; tables = c.convert_by.ensures.tables i; machine = n });
    }
