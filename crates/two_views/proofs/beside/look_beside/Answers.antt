use contract.Lifetimes.{Lfts}
use denote.Param.Send.{IsSend, IsSync, sendable, param_send, mut_send, shr_slice_send}
use mir.Syntax.{static}
use mathlib.Core.List.{[]}
use Rattle.derivation_cache.specs.contracts.pair.Pair as pairs
use Rattle.core.specs.contracts.atomic.AtomicBool as flag
use Rattle.derivation_cache.specs.contracts.cache.Cache as cache
use Rattle.std.proofs.Crossing.{crosses, sync}
use Rattle.derivation_cache.proofs.Crosses.{cache_send}
use Rattle.derivation_cache.proofs.pair.Pair.TheSendSync as pair
use Rattle.two_views.specs.contracts.beside.look_beside.{R-row}
use Rattle.two_views.proofs.beside.look_beside.Given.{Over}
use Rattle.two_views.proofs.beside.look_beside.Lts as lts
use Rattle.two_views.proofs.beside.look_beside.Goals as goal

flag_sync : IsSync flag.the_row
flag_sync = search (sendable, crosses) depth 20

-- by itself: beside the goal's facts `search` runs out of steps
sent : (g : Over) (κs : Lfts 15) → IsSync (R-row g.row.R) → IsSend (lts.arg-1-1 g.row.R g.R.laws g.R.Threads-dict g.R.Wait-dict κs)
sent g κs shared = record {
  owned = λ x vs vss. (
    tt,
    ((tt, shared.shared x.0.now x.0.ref_ptr.0 x.0.ref_ptr.1 _), ((tt, sync.shared x.1.now x.1.ref_ptr.0 x.1.ref_ptr.1 κs.0), ((mut_send static κs.0 cache.the_row cache_send).owned x.2 [], (((tt, (tt, tt)), ((shr_slice_send static κs.1.1.1.1.1.1.1.1.1.0 pairs.the_row pair.the_sync).owned x.3 []).1), ((tt, flag_sync.shared x.4.now x.4.ref_ptr.0 x.4.ref_ptr.1 κs.1.1.1.1.1.1.1.1.1.1.0), tt))))),
  );
  leaving = λ k x w. (tt, (tt, (tt, tt)));
}

pub join-requires-send-F : goal.join-requires-send-F
join-requires-send-F g c κs within = param_send 1 _ (sent g κs c.type_bounds.sync-R)
