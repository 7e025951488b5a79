use Rattle.std.proofs.Common.{refl}
use Rattle.code_pairs.specs.Tables.{Tables}
use Rattle.step_unicode.specs.declared.set.Unit.TheVariants.{Incomplete, Illegal}
use Rattle.step_unicode.specs.declared.wrote.Wrote.TheVariants as wrote
use Rattle.unit_relations.specs.declared.verdict.Verdict.TheVariants as verdict
use Rattle.chain_steps.specs.Chains.{chain}
use Rattle.chain_steps.proofs.Steps.{answer_as, read_as, pass_as, put_as, step_moved, step_passed, step_stopped, full_stop, lacks_stop, incomplete_stop, illegal_stop}
use Rattle.chain_steps.proofs.engine.advance.Goals as goal

pub returns-in-Bytes-clause-step : goal.returns-in-Bytes-clause-step
returns-in-Bytes-clause-step g c =
    let ts : Tables = g.T.Lookup.tables c.args.tables.now in
    let R = c.args.recipe.now in
    let a = c.in-Got-Some-default-default in
    let r = c.args.reached.now in
    step_moved (chain ts R) (c.chains_are_lawful.ensures.lawful ts R (λ k. g.met.T.Lookup.well_formed c.args.tables.now k c.requires.ready))
    c.args.input.now c.args.output.now c.put.new.output r a.point a.used c.in-Bytes.count a.state c.in-Bytes.after c.requires.place.consumed
    (read_as ts _ R.reader r.states.reading c.args.input.now r.consumed _ a.used a.state a.point c.requires.call.reader a.point-is a.ensures.unit)
    (put_as _ ts R r.states.writing a.point r.produced c.args.output.now c.put.new.output (wrote.Bytes c.in-Bytes.count c.in-Bytes.after) c.read.ensures.back.same c.in-Bytes.ensures.put)

pub returns-in-Full-clause-step : goal.returns-in-Full-clause-step
returns-in-Full-clause-step g c =
    let ts : Tables = g.T.Lookup.tables c.args.tables.now in
    let R = c.args.recipe.now in
    let a = c.in-Got-Some-default-default in
    let r = c.args.reached.now in
    let put = put_as _ ts R r.states.writing a.point r.produced c.args.output.now c.put.new.output wrote.Full c.read.ensures.back.same c.in-Full.ensures.put in
    step_stopped (chain ts R) (c.chains_are_lawful.ensures.lawful ts R (λ k. g.met.T.Lookup.well_formed c.args.tables.now k c.requires.ready))
    c.args.input.now c.args.output.now c.put.new.output r verdict.Full c.requires.place put.3
    (full_stop (chain ts R) c.args.input.now c.args.output.now c.put.new.output r a.point a.used a.state
    (read_as ts _ R.reader r.states.reading c.args.input.now r.consumed _ a.used a.state a.point c.requires.call.reader a.point-is a.ensures.unit) put)

pub returns-in-Lacks-clause-step : goal.returns-in-Lacks-clause-step
returns-in-Lacks-clause-step g c =
    let ts : Tables = g.T.Lookup.tables c.args.tables.now in
    let R = c.args.recipe.now in
    let a = c.in-Got-Some-default-default in
    let r = c.args.reached.now in
    let law = c.chains_are_lawful.ensures.lawful ts R (λ k. g.met.T.Lookup.well_formed c.args.tables.now k c.requires.ready) in
    let put = put_as _ ts R r.states.writing a.point r.produced c.args.output.now c.put.new.output wrote.Lacks c.read.ensures.back.same c.in-Lacks.ensures.put in
    step_stopped (chain ts R) law c.args.input.now c.args.output.now c.put.new.output r verdict.Illegal c.requires.place put.1
    (lacks_stop (chain ts R) law c.args.input.now c.args.output.now c.put.new.output r a.point a.used a.state c.requires.some
    (read_as ts _ R.reader r.states.reading c.args.input.now r.consumed _ a.used a.state a.point c.requires.call.reader a.point-is a.ensures.unit) put)

pub returns-in-Got-None-default-default-clause-step : goal.returns-in-Got-None-default-default-clause-step
returns-in-Got-None-default-default-clause-step g c =
    let ts : Tables = g.T.Lookup.tables c.args.tables.now in
    let R = c.args.recipe.now in
    let a = c.in-Got-None-default-default in
    let r = c.args.reached.now in
    step_passed (chain ts R) (c.chains_are_lawful.ensures.lawful ts R (λ k. g.met.T.Lookup.well_formed c.args.tables.now k c.requires.ready))
    c.args.input.now c.args.output.now r a.used a.state c.requires.place
    (pass_as ts _ R.reader r.states.reading c.args.input.now r.consumed _ a.used a.state c.requires.call.reader a.point-is a.ensures.unit)

pub returns-in-Incomplete-clause-step : goal.returns-in-Incomplete-clause-step
returns-in-Incomplete-clause-step g c =
    let ts : Tables = g.T.Lookup.tables c.args.tables.now in
    let R = c.args.recipe.now in
    let r = c.args.reached.now in
    step_stopped (chain ts R) (c.chains_are_lawful.ensures.lawful ts R (λ k. g.met.T.Lookup.well_formed c.args.tables.now k c.requires.ready))
    c.args.input.now c.args.output.now c.args.output.now r verdict.Incomplete c.requires.place refl
    (incomplete_stop (chain ts R) c.args.input.now c.args.output.now r c.requires.some
    (answer_as ts _ R.reader r.states.reading c.args.input.now r.consumed Incomplete c.requires.call.reader c.in-Incomplete.ensures.unit))

pub returns-in-Illegal-clause-step : goal.returns-in-Illegal-clause-step
returns-in-Illegal-clause-step g c =
    let ts : Tables = g.T.Lookup.tables c.args.tables.now in
    let R = c.args.recipe.now in
    let r = c.args.reached.now in
    step_stopped (chain ts R) (c.chains_are_lawful.ensures.lawful ts R (λ k. g.met.T.Lookup.well_formed c.args.tables.now k c.requires.ready))
    c.args.input.now c.args.output.now c.args.output.now r verdict.Illegal c.requires.place refl
    (illegal_stop (chain ts R) c.args.input.now c.args.output.now r c.requires.some
    (answer_as ts _ R.reader r.states.reading c.args.input.now r.consumed Illegal c.requires.call.reader c.in-Illegal.ensures.unit))
