use Rattle.std.proofs.Common.{◌≡◌, ◌++◌, ◌||◌, All, length}
use Rattle.job_board.specs.Numbers.{AreSame}
use Rattle.job_board.specs.Drawers.{IsLead, away_from, drawn_by, is_drained, numbers_of}
use Rattle.batch_workers.specs.Toils.{AreNumbered}
use Rattle.batch_workers.specs.Teams.{IsReady, countdown, drawn_in, filled, parts_of, pieces_in, some_drained, some_wanting, stints_of}
use Rattle.batch_workers.proofs.team.end_all.Given as goal

abbrev pub invariant-workers : goal.invariant-workers
invariant-workers g l = record {
  leads : g.S.Shared.leads l.shared l.lead;
  lead : IsLead l.board l.drawer;
  ready : All (IsReady (g.S.Shared.knows l.shared) l.board) l.workers.items;
  numbered : AreNumbered 1 (parts_of g.S.Shared.part l.workers.items);
  away : (g.S.Shared.roll l.lead).away ≡ countdown (length l.workers.items);
  out : away_from l.drawer ≡ length l.workers.items;
  ended : parts_of g.S.Shared.part l.workers.items ++ (g.S.Shared.roll l.lead).ended
      ≡ parts_of g.S.Shared.part l.initial.workers.items ++ (g.S.Shared.roll l.initial.lead).ended;
  numbers : numbers_of l.drawer ≡ numbers_of l.initial.drawer;
  drawn : AreSame (drawn_by l.drawer ++ drawn_in (stints_of g.S.Shared.part l.workers.items))
      (drawn_by l.initial.drawer ++ drawn_in (stints_of g.S.Shared.part l.initial.workers.items));
  drained : is_drained l.drawer || some_drained l.workers.items ≡ is_drained l.initial.drawer || some_drained l.initial.workers.items;
  slots : filled l.slots (pieces_in (stints_of g.S.Shared.part l.workers.items))
      ≡ filled l.initial.slots (pieces_in (stints_of g.S.Shared.part l.initial.workers.items));
  wanting : l.wanting || some_wanting (stints_of g.S.Shared.part l.workers.items) ≡ some_wanting (stints_of g.S.Shared.part l.initial.workers.items);
}

abbrev pub decreases-workers : goal.decreases-workers
decreases-workers g l = goal.left-workers g l
