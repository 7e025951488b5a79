use Rattle.std.proofs.Common.{◌≡◌, ◌<◌, ◌++◌, ◌∷◌, [], List, length, take, ◌+◌, sym, subst, arith}
use Rattle.std.proofs.lemmas.Grind.{common_steps}
use Rattle.code_pairs.specs.Tables.{Tables}
use Rattle.charmap_library.specs.Fetching.{FetchesModules}
use Rattle.charmap_library.proofs.Fetching.{fetches_module, stops_module, gave_up_some}
use Rattle.charmap_library.proofs.fetch.fetch_missing.Goals as goal

pub returns-in-Err-clause-err : goal.returns-in-Err-clause-err
returns-in-Err-clause-err g c =
    let lt : c.loop-module.module-index < length c.args.missing.now = omega arith in
    stops_module c.args.dir.now c.args.graph.now (g.L.Library.holdings c.args.library.now) (g.L.Library.holdings c.loop-module.library) (g.L.Library.holdings c.fetch_module.new.library)
    c.args.missing.now c.loop-module.module-index lt c.kind_of.result.now c.kind_of.ensures c.loop-module.all.items c.loop-module.invariant.fetched c.in-Err.why c.in-Err.ensures.err

pub returns-then-is_err-clause-err : goal.returns-then-is_err-clause-err
returns-then-is_err-clause-err g c =
    let lt : c.loop-module.module-index < length c.args.missing.now = omega arith in
    let all = fetches_module c.args.dir.now c.args.graph.now (g.L.Library.holdings c.args.library.now) (g.L.Library.holdings c.loop-module.library) (g.L.Library.holdings c.fetch_module.new.library)
    c.args.missing.now c.loop-module.module-index lt c.kind_of.result.now c.kind_of.ensures c.loop-module.all.items c.loop-module.invariant.fetched c.in-Ok.tables c.in-Ok.ensures.ok in
    gave_up_some c.args.dir.now c.args.graph.now (g.L.Library.holdings c.args.library.now) (g.L.Library.holdings c.fetch_module.new.library) c.args.missing.now (c.loop-module.module-index + 1) (c.loop-module.all.items ++ c.in-Ok.tables ∷ []) all

pub loop-module-preserved : goal.loop-module-preserved
loop-module-preserved g c =
    let lt : c.loop-module.module-index < length c.args.missing.now = omega arith in
    let put : c.push.new.self.items ≡ c.loop-module.all.items ++ c.in-Ok.tables ∷ [] = grind (arith, common_steps) in
    record {
      fetched = subst (λ (z : List Tables). FetchesModules c.args.dir.now c.args.graph.now (g.L.Library.holdings c.args.library.now) (g.L.Library.holdings c.fetch_module.new.library) (take (c.loop-module.module-index + 1) c.args.missing.now) z) (sym put)
          (fetches_module c.args.dir.now c.args.graph.now (g.L.Library.holdings c.args.library.now) (g.L.Library.holdings c.loop-module.library) (g.L.Library.holdings c.fetch_module.new.library)
          c.args.missing.now c.loop-module.module-index lt c.kind_of.result.now c.kind_of.ensures c.loop-module.all.items c.loop-module.invariant.fetched c.in-Ok.tables c.in-Ok.ensures.ok);
    }
