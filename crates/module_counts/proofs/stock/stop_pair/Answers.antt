use Rattle.std.proofs.Common.{◌++◌, [], Bool, cond, map, sym, subst}
use Rattle.runtime_histories.specs.Deeds.{releases}
use Rattle.runtime_histories.specs.Settings.{modules_of}
use Rattle.module_counts.specs.Tracking.{IsTracking}
use Rattle.module_counts.proofs.stock.stop_pair.Goals as goal

pub returns-clause-tracks : goal.returns-clause-tracks
returns-clause-tracks c = λ ms t. subst (λ (b : Bool). IsTracking c.stop_all.new.self (ms ++ cond b [] (map releases (modules_of c.args.graph.now.edges c.args.chain.now)))) (sym c.if-is_live.false) (c.stop_all.ensures.tracks ms t)
