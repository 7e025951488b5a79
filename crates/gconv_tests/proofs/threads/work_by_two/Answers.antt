use contract.Lifetimes.{Lfts}
use denote.Param.Send.{IsSend, IsSync, param_send, mut_send, sendable}
use denote.Plain.{UInt}
use mathlib.Core.List.{[]}
use mir.Syntax.{w32, static}
use Rattle.std.proofs.Crossing.{sync}
use Rattle.gconv_tests.proofs.Crosses.{shelf_sync, shelf_caller, shelf_caller_send}
use Rattle.gconv_tests.specs.contracts.threads.work_by_two.{R-row}
use Rattle.gconv_tests.proofs.threads.work_by_two.Given.{Over}
use Rattle.gconv_tests.proofs.threads.work_by_two.Lts as lts
use Rattle.gconv_tests.proofs.threads.work_by_two.Goals as goal

u32_sync : IsSync (UInt w32)
u32_sync = search sendable depth 20

-- one part a capture: `rt`, `alloc`, `gconv`, the caller and `times`
sent : (g : Over) (κs : Lfts 18) → IsSync (R-row g.row.R) → IsSend (lts.arg-0-1 g.row.R g.R.laws g.R.Threads-dict g.R.Wait-dict κs)
sent g κs shared = record {
  owned = λ x vs vss. (
    tt,
    ((tt, shared.shared x.0.now x.0.ref_ptr.0 x.0.ref_ptr.1 κs.1.1.1.1.1.1.1.1.0), ((tt, sync.shared x.1.now x.1.ref_ptr.0 x.1.ref_ptr.1 κs.1.1.1.1.1.1.1.1.1.0), ((tt, shelf_sync.shared x.2.now x.2.ref_ptr.0 x.2.ref_ptr.1 κs.1.1.1.1.1.1.1.1.1.1.0), ((mut_send static κs.1.1.1.1.1.1.1.1.1.1.1.0 shelf_caller shelf_caller_send).owned x.3 [], ((tt, u32_sync.shared x.4.now x.4.ref_ptr.0 x.4.ref_ptr.1 κs.1.1.1.1.1.1.1.1.1.1.1.1.0), tt))))),
  );
  leaving = λ k x w. (tt, (tt, (tt, (tt, tt))));
}

pub join_mut-requires-send-F : goal.join_mut-requires-send-F
join_mut-requires-send-F g c κs within = param_send 1 _ (sent g κs c.type_bounds.sync-R)
