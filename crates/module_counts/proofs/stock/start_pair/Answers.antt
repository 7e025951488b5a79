use Rattle.std.proofs.Common.{◌++◌, [], Bool, cond, map, sym, subst}
use Rattle.runtime_histories.specs.Deeds.{uses}
use Rattle.runtime_histories.specs.Settings.{modules_of}
use Rattle.module_counts.specs.Tracking.{IsTracking}
use Rattle.module_counts.proofs.stock.start_pair.Goals as goal

pub returns-clause-tracks : goal.returns-clause-tracks
returns-clause-tracks c = λ ms t. subst (λ (b : Bool). IsTracking c.start_all.new.self (ms ++ cond b [] (map uses (modules_of c.args.graph.now.edges c.args.chain.now)))) (sym c.if-is_live.false) (c.start_all.ensures.tracks ms t)
