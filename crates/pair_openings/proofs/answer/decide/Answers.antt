use Rattle.std.proofs.Common.{IfOk, IfErr, sym, subst}
use Rattle.runtime_histories.specs.declared.refusals.Asked as names
use Rattle.runtime_histories.specs.declared.refusals.Asked.TheVariants.{Good}
use Rattle.runtime_histories.specs.Entries.{deeds}
use Rattle.pair_openings.specs.Answers.{IsProper, Answers, Refuses}
use Rattle.pair_openings.specs.Loading.{Ground}
use Rattle.pair_openings.proofs.Answering.{answers_result, refuses_result}
use Rattle.pair_openings.proofs.answer.decide.Goals as goal

pub returns-in-Good-Good-clause-err : goal.returns-in-Good-Good-clause-err
returns-in-Good-Good-clause-err g c =
    let ground : Ground = record { directory = c.args.dir.now; graph = c.args.graph.now; pages = c.args.counts.now.pages; log = deeds c.args.counts.now.journal } in
    let old = g.L.Library.holdings c.args.library.now in
    let new = g.L.Library.holdings c.plan.new.library in
    let good = subst IsProper c.in-Good-Good.is-0 c.requires.from in
    let well = subst IsProper c.in-Good-Good.is-1 c.requires.to in
    let both = refuses_result ground old new c.in-Good-Good.from c.in-Good-Good.to good well c.plan.result c.plan.ensures.err in
    subst (λ (z : names.Asked). IfErr c.plan.result (Refuses ground old new z c.args.to.now)) (sym c.in-Good-Good.is-0)
    (subst (λ (z : names.Asked). IfErr c.plan.result (Refuses ground old new (Good c.in-Good-Good.from) z)) (sym c.in-Good-Good.is-1) both)

pub returns-in-Good-Good-clause-ok : goal.returns-in-Good-Good-clause-ok
returns-in-Good-Good-clause-ok g c =
    let ground : Ground = record { directory = c.args.dir.now; graph = c.args.graph.now; pages = c.args.counts.now.pages; log = deeds c.args.counts.now.journal } in
    let old = g.L.Library.holdings c.args.library.now in
    let new = g.L.Library.holdings c.plan.new.library in
    let good = subst IsProper c.in-Good-Good.is-0 c.requires.from in
    let well = subst IsProper c.in-Good-Good.is-1 c.requires.to in
    let both = answers_result ground old new c.in-Good-Good.from c.in-Good-Good.to good well c.plan.result c.plan.ensures.ok in
    subst (λ (z : names.Asked). IfOk c.plan.result (Answers ground old new z c.args.to.now)) (sym c.in-Good-Good.is-0)
    (subst (λ (z : names.Asked). IfOk c.plan.result (Answers ground old new (Good c.in-Good-Good.from) z)) (sym c.in-Good-Good.is-1) both)
