use Rattle.std.proofs.Common.{Some, sym, ◌∙◌, subst}
use Rattle.code_pairs.specs.Tables.{Tables}
use Rattle.chain_steps.specs.Chains.{chain, CanRun}
use Rattle.chain_steps.specs.Runs.{IsStep}
use Rattle.chain_steps.proofs.Calls.{run_more, window_run, window_stop, step_run, step_after}
use Rattle.chain_steps.proofs.engine.go_on.Goals as goal

pub units-stop-requires-clause-call : goal.units-stop-requires-clause-call
units-stop-requires-clause-call g c =
    let R = c.args.recipe.now in
    record {
      reader = c.requires.call.reader;
      writer = c.requires.call.writer;
      range = subst (λ (us : Tables). CanRun us R) (sym c.blocks-near.ensures.back.same) c.requires.call.range;
      states = c.chains_are_lawful.ensures.states _ R _ _ _ _ c.blocks-near.ensures.run.carried c.requires.call.states;
    }

pub next_unit-requires-clause-call : goal.next_unit-requires-clause-call
next_unit-requires-clause-call g c =
    let R = c.args.recipe.now in
    let first = c.chains_are_lawful.ensures.states _ R _ _ _ _ c.blocks-near.ensures.run.carried c.requires.call.states in
    let run = step_run _ _ _ _ _ _ _ c.units-stop.ensures.step in
    record {
      reader = c.requires.call.reader;
      writer = c.requires.call.writer;
      range = subst (λ (us : Tables). CanRun us R) (sym (c.units-stop.ensures.back.same ∙ c.blocks-near.ensures.back.same)) c.requires.call.range;
      states = c.chains_are_lawful.ensures.states _ R _ _ _ _ run.carried first;
    }

pub returns-then-is_final-clause-step : goal.returns-then-is_final-clause-step
returns-then-is_final-clause-step g c =
    let ts : Tables = g.T.Lookup.tables c.args.tables.now in
    let K = chain ts c.args.recipe.now in
    let join = c.chains_are_lawful.ensures.joins ts c.args.recipe.now in
    let x = c.args.input.now in
    let w = c.window-front.result.now in
    let v = c.in-Some.verdict in
    let a = c.blocks-near in
    let b = c.units-stop.new in
    let front = c.window-front.ensures.front in
    let step : IsStep K w a.new.output b.output a.result b.reached (Some v) =
    subst (λ (us : Tables). IsStep (chain us c.args.recipe.now) w a.new.output b.output a.result b.reached (Some v)) a.ensures.back.same c.in-Some.ensures.step in
    let run = window_run K x w a.new.output b.output a.result b.reached front step.0 in (
      run_more K join x c.args.output.now a.new.output b.output c.args.reached.now a.result b.reached a.ensures.run run,
      window_stop K x w b.output b.reached v step.0.within front (c.is_final.ensures c.if-is_final.true) step.1,
    )

pub returns-clause-step : goal.returns-clause-step
returns-clause-step g c =
    let ts : Tables = g.T.Lookup.tables c.args.tables.now in
    let K = chain ts c.args.recipe.now in
    let join = c.chains_are_lawful.ensures.joins ts c.args.recipe.now in
    let x = c.args.input.now in
    let w = c.window-front.result.now in
    let a = c.blocks-near in
    let b = c.units-stop.new in
    let d = c.next_unit in
    let step = subst (λ (us : Tables). IsStep (chain us c.args.recipe.now) w a.new.output b.output a.result b.reached c.units-stop.result) a.ensures.back.same c.units-stop.ensures.step in
    let part = step_run K w a.new.output b.output a.result b.reached c.units-stop.result step in
    let run = window_run K x w a.new.output b.output a.result b.reached c.window-front.ensures.front part in
    step_after K join x c.args.output.now b.output d.new.output c.args.reached.now b.reached d.new.reached d.result
    (run_more K join x c.args.output.now a.new.output b.output c.args.reached.now a.result b.reached a.ensures.run run)
    (subst (λ (us : Tables). IsStep (chain us c.args.recipe.now) x b.output d.new.output b.reached d.new.reached d.result) (c.units-stop.ensures.back.same ∙ a.ensures.back.same) d.ensures.step)
