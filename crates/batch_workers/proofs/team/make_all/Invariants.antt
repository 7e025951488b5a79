use Rattle.std.proofs.Common.{◌≡◌, ◌≤◌, All, vec_len, vec_capacity}
use Rattle.job_board.specs.Drawers.{IsLead}
use Rattle.batch_workers.specs.Toils.{AreNumbered}
use Rattle.batch_workers.specs.Stints.{CanWork}
use Rattle.batch_workers.specs.Teams.{HasMade, parts_of}
use Rattle.batch_workers.proofs.team.make_all.Given as goal

abbrev pub invariant-made : goal.invariant-made
invariant-made g l = record {
  leads : g.S.Shared.leads l.shared l.lead;
  lead : IsLead l.board l.drawer;
  can : All (CanWork g.S.Shared.part (g.S.Shared.knows l.shared) l.board) l.workers.items;
  numbered : AreNumbered 1 (parts_of g.S.Shared.part l.workers.items);
  made : HasMade (g.S.Shared.roll l.lead) l.initial.drawer l.drawer (vec_len l.workers);
  count : vec_len l.workers ≡ l.counter;
  room : l.initial.count ≤ vec_capacity l.workers;
}
