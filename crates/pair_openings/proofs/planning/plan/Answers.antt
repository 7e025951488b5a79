use Rattle.std.proofs.Common.{◌≡◌, ◌∙◌, ◌<◌, ℕ, List, Option, MatchOption, length, sym, ap, subst, arith}
use Rattle.std.specs.List.{All}
use Rattle.chain_search.specs.declared.chain.Chain.{Chain}
use Rattle.runtime_histories.specs.Entries.{deeds}
use Rattle.runtime_histories.specs.Legal.{absent_among}
use Rattle.runtime_histories.specs.Settings.{Leads, LeadsNowhere, modules_of}
use Rattle.pair_openings.specs.Loading.{Ground, IsLoaded, RefusesLoads}
use Rattle.pair_openings.specs.Plans.{IsArranged}
use Rattle.pair_openings.proofs.Deciding.{denied_nowhere, absent_known, denied_loads, length_fetched, planned, lost_loaded}
use Rattle.pair_openings.proofs.planning.plan.Goals as goal

pub returns-in-Ok-None-clause-err : goal.returns-in-Ok-None-clause-err
returns-in-Ok-None-clause-err g c =
    denied_nowhere (record { directory = c.args.dir.now; graph = c.args.graph.now; pages = c.args.counts.now.pages; log = deeds c.args.counts.now.journal })
    (g.L.Library.holdings c.args.library.now) c.args.from.now c.args.to.now
    (subst (λ (o : Option Chain). MatchOption o (LeadsNowhere c.args.graph.now c.args.from.now c.args.to.now) (Leads c.args.graph.now c.args.from.now c.args.to.now)) c.in-Ok-None.field-0-is c.in-Ok-None.ensures.ok)

pub load-requires-clause-known : goal.load-requires-clause-known
load-requires-clause-known g c =
    subst (All (λ m. m < length c.args.graph.now.kinds)) (sym (c.as_slice.ensures.value ∙ c.in-Ok.ensures))
    (absent_known c.args.graph.now c.edges-edges.ensures.graph (deeds c.args.counts.now.journal) c.in-Ok-Some.chain.ordinals)

pub returns-in-Err-load-clause-err : goal.returns-in-Err-load-clause-err
returns-in-Err-load-clause-err g c =
    let ground : Ground = record { directory = c.args.dir.now; graph = c.args.graph.now; pages = c.args.counts.now.pages; log = deeds c.args.counts.now.journal } in
    let old = g.L.Library.holdings c.args.library.now in
    let leads = subst (λ (o : Option Chain). MatchOption o (LeadsNowhere c.args.graph.now c.args.from.now c.args.to.now) (Leads c.args.graph.now c.args.from.now c.args.to.now)) c.in-Ok-Some.field-0-is c.in-Ok-Some.ensures.ok in
    let new = g.L.Library.holdings c.load.new.library in
    let missing : c.as_slice.result.now ≡ absent_among ground.log (modules_of ground.graph.edges c.in-Ok-Some.chain.ordinals) = c.as_slice.ensures.value ∙ c.in-Ok.ensures in
    denied_loads ground old new c.args.from.now c.args.to.now c.in-Ok-Some.chain leads c.in-Err-load.why
    (subst (λ (z : List ℕ). RefusesLoads ground old new z c.in-Err-load.why) missing c.in-Err-load.ensures.err)

pub arrange-requires-clause-same : goal.arrange-requires-clause-same
arrange-requires-clause-same g c =
    ap length c.as_slice-2.ensures.value
    ∙ (sym (ap length c.as_slice.ensures.value)
    ∙ length_fetched c.args.dir.now c.args.graph.now (g.L.Library.holdings c.args.library.now) (g.L.Library.holdings c.load.new.library) c.as_slice.result.now c.in-Ok-load.loading.tables.items c.in-Ok-load.ensures.ok.fetched)

pub arrange-requires-clause-few : goal.arrange-requires-clause-few
arrange-requires-clause-few g c = c.in-Ok-load.ensures.ok.few

pub arrange-requires-clause-enough : goal.arrange-requires-clause-enough
arrange-requires-clause-enough g c = let e = c.in-Ok-load.ensures.ok.enough in omega (arith, e)

pub returns-in-Ok-arrange-clause-ok : goal.returns-in-Ok-arrange-clause-ok
returns-in-Ok-arrange-clause-ok g c =
    let ground : Ground = record { directory = c.args.dir.now; graph = c.args.graph.now; pages = c.args.counts.now.pages; log = deeds c.args.counts.now.journal } in
    let old = g.L.Library.holdings c.args.library.now in
    let leads = subst (λ (o : Option Chain). MatchOption o (LeadsNowhere c.args.graph.now c.args.from.now c.args.to.now) (Leads c.args.graph.now c.args.from.now c.args.to.now)) c.in-Ok-Some.field-0-is c.in-Ok-Some.ensures.ok in
    let new = g.L.Library.holdings c.load.new.library in
    let missing : c.as_slice.result.now ≡ absent_among ground.log (modules_of ground.graph.edges c.in-Ok-Some.chain.ordinals) = c.as_slice.ensures.value ∙ c.in-Ok.ensures in
    let loaded = subst (λ (z : List ℕ). IsLoaded ground old new z c.in-Ok-load.loading.tables.items c.in-Ok-load.loading.pages.items) missing c.in-Ok-load.ensures.ok in
    let again : c.as_slice-2.result.now ≡ absent_among ground.log (modules_of ground.graph.edges c.in-Ok-Some.chain.ordinals) = c.as_slice-2.ensures.value ∙ c.in-Ok.ensures in
    planned ground old new c.args.from.now c.args.to.now c.in-Ok-Some.chain leads c.in-Ok-load.loading.tables.items c.in-Ok-load.loading.pages.items loaded c.in-Ok-arrange.opening
    (subst (λ (z : List ℕ). IsArranged ground.graph c.in-Ok-Some.chain z c.in-Ok-load.loading.tables.items c.in-Ok-load.loading.pages.items c.in-Ok-arrange.opening) again c.in-Ok-arrange.ensures)

pub returns-clause-err : goal.returns-clause-err
returns-clause-err g c =
    let ground : Ground = record { directory = c.args.dir.now; graph = c.args.graph.now; pages = c.args.counts.now.pages; log = deeds c.args.counts.now.journal } in
    let old = g.L.Library.holdings c.args.library.now in
    let leads = subst (λ (o : Option Chain). MatchOption o (LeadsNowhere c.args.graph.now c.args.from.now c.args.to.now) (Leads c.args.graph.now c.args.from.now c.args.to.now)) c.in-Ok-Some.field-0-is c.in-Ok-Some.ensures.ok in
    let new = g.L.Library.holdings c.load.new.library in
    let missing : c.as_slice.result.now ≡ absent_among ground.log (modules_of ground.graph.edges c.in-Ok-Some.chain.ordinals) = c.as_slice.ensures.value ∙ c.in-Ok.ensures in
    let loaded = subst (λ (z : List ℕ). IsLoaded ground old new z c.in-Ok-load.loading.tables.items c.in-Ok-load.loading.pages.items) missing c.in-Ok-load.ensures.ok in
    lost_loaded ground old new c.args.from.now c.args.to.now c.in-Ok-Some.chain leads c.in-Ok-load.loading.tables.items c.in-Ok-load.loading.pages.items loaded
