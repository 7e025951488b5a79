use Rattle.std.proofs.Common.{◌≡◌, ◌∙◌, List, true, false, length, map, ap, sym, subst, arith}
use Rattle.std.specs.Vec.{with_items}
use Rattle.std.proofs.lemmas.List.{with_items_is, length-map}
use Rattle.std.proofs.lemmas.List.Elements.{All-same}
use Rattle.job_board.specs.Drawers.{numbers_of}
use Rattle.job_board.specs.declared.hand.Hand.{Hand}
use Rattle.batch_jobs.specs.Jobs.{line_of}
use Rattle.batch_alone.specs.Readings.{taking_of}
use Rattle.batch_workers.specs.Toils.{AreNumbered}
use Rattle.batch_workers.specs.Stints.{CanWork}
use Rattle.batch_workers.specs.Teams.{IsReady, filled, no_pieces, parts_of, pieces_in, some_drained, some_wanting, stints_of}
use Rattle.batch_workers.proofs.Done.{AreStints}
use Rattle.batch_workers.specs.declared.worker.Worker.{Worker}
use Rattle.batch_workers.proofs.Boards.{taken-few}
use Rattle.batch_workers.proofs.Together.{begun-by, done-by, drained-worked, numbered-worked, on-ok, ready-can, ready-worked, stints-can, stints-worked}
use Rattle.batch_workers.proofs.sharing.share_jobs.Goals as goal

pub new-requires : goal.new-requires
new-requires g c =
    let a = ap length (c.as_slice.ensures.value ∙ c.in_ok-places.ensures) in
    let b = taken-few (map taking_of c.args.inputs.now) in
    let d = length-map c.args.inputs.now taking_of in
    let e = c.requires.alike in
    let f = c.requires.few in
    omega (arith, a, b, d, e, f)

pub wind_up-requires-clause-ready : goal.wind_up-requires-clause-ready
wind_up-requires-clause-ready g c κs within = ready-can g.S.Shared.part (g.S.Shared.knows c.args.shared.now) c.in_ok-board.board c.make_all.new.workers.items c.make_all.ensures.can

pub returns-then-is_err-clause-done : goal.returns-then-is_err-clause-done
returns-then-is_err-clause-done g c =
    begun-by g.S.Shared.part (g.S.Shared.base c.args.shared.now).setting (map line_of c.args.jobs.now) (map taking_of c.args.inputs.now) c.args.count c.make_all.new.workers.items
    (g.S.Shared.roll c.wind_up.new.lead).ended (numbers_of c.make_all.new.drawer) (some_drained c.make_all.new.workers.items)
    (stints-can g.S.Shared.part (g.S.Shared.knows c.args.shared.now) c.in_ok-board.board (g.S.Shared.base c.args.shared.now).setting (map line_of c.args.jobs.now) (map taking_of c.args.inputs.now) c.make_all.new.workers.items c.make_all.ensures.can)
    (length-map c.args.inputs.now taking_of ∙ c.requires.alike ∙ sym (length-map c.args.jobs.now line_of))
    c.make_all.ensures.numbered
    (let a = c.make_all.ensures.few in let b = c.make_all.new.workers.ok.0 in omega (arith, a, b))
    (c.make_all.ensures.made.numbers ∙ ap (λ (v : Hand). v.all) c.in_ok-board.ensures.1 ∙ c.as_slice.ensures.value ∙ c.in_ok-places.ensures)
    c.wind_up.ensures.draws c.wind_up.ensures.ended

pub work_in_threads-requires-clause-can : goal.work_in_threads-requires-clause-can
work_in_threads-requires-clause-can g c κs within =
    All-same (CanWork g.S.Shared.part (g.S.Shared.knows c.args.shared.now) c.in_ok-board.board) c.as_mut_slice-2.result.now c.make_all.new.workers.items c.as_mut_slice-2.ensures.value c.make_all.ensures.can

pub wind_up-requires-2-clause-ready : goal.wind_up-requires-2-clause-ready
wind_up-requires-2-clause-ready g c κs within =
    let known = g.S.Shared.knows c.args.shared.now in
    let s = (g.S.Shared.base c.args.shared.now).setting in
    let long : length c.work_in_threads.new.workers ≡ c.make_all.new.workers.len = omega (arith, c.work_in_threads.auto.workers, c.as_mut_slice-2.ensures.len) in
    All-same (IsReady known c.in_ok-board.board) (with_items c.make_all.new.workers c.work_in_threads.new.workers).items c.work_in_threads.new.workers
    (with_items_is c.make_all.new.workers c.work_in_threads.new.workers long)
    (ready-worked g.S.Shared.part known c.in_ok-board.board s (map line_of c.args.jobs.now) (map taking_of c.args.inputs.now) c.as_mut_slice-2.result.now c.work_in_threads.new.workers
    c.work_in_threads.auto.workers c.work_in_threads.ensures)

pub wind_up-requires-2-clause-numbered : goal.wind_up-requires-2-clause-numbered
wind_up-requires-2-clause-numbered g c κs within =
    let known = g.S.Shared.knows c.args.shared.now in
    let s = (g.S.Shared.base c.args.shared.now).setting in
    let long : length c.work_in_threads.new.workers ≡ c.make_all.new.workers.len = omega (arith, c.work_in_threads.auto.workers, c.as_mut_slice-2.ensures.len) in
    let N : List (Worker g.row.S-Caller.Denot) → Type 0 = λ ws. AreNumbered 1 (parts_of g.S.Shared.part ws) in
    subst N (sym (with_items_is c.make_all.new.workers c.work_in_threads.new.workers long))
    (numbered-worked g.S.Shared.part known c.in_ok-board.board s (map line_of c.args.jobs.now) (map taking_of c.args.inputs.now) 1 c.as_mut_slice-2.result.now c.work_in_threads.new.workers
    c.work_in_threads.auto.workers c.work_in_threads.ensures (subst N (sym c.as_mut_slice-2.ensures.value) c.make_all.ensures.numbered))

pub returns-then-wind_up-clause-done : goal.returns-then-wind_up-clause-done
returns-then-wind_up-clause-done g c =
    let known = g.S.Shared.knows c.args.shared.now in
    let s = (g.S.Shared.base c.args.shared.now).setting in
    let js = map line_of c.args.jobs.now in
    let ts = map taking_of c.args.inputs.now in
    let old = c.as_mut_slice-2.result.now in
    let new = c.work_in_threads.new.workers in
    let same = c.work_in_threads.auto.workers in
    let long : length new ≡ c.make_all.new.workers.len = omega (arith, same, c.as_mut_slice-2.ensures.len) in
    let is = with_items_is c.make_all.new.workers new long in
    let N : List (Worker g.row.S-Caller.Denot) → Type 0 = λ ws. AreNumbered 1 (parts_of g.S.Shared.part ws) in
    let A : List (Worker g.row.S-Caller.Denot) → Type 0 = λ ws. AreStints s js ts (stints_of g.S.Shared.part ws) in
    begun-by g.S.Shared.part s js ts c.args.count (with_items c.make_all.new.workers new).items
    (g.S.Shared.roll c.wind_up-2.new.lead).ended (numbers_of c.make_all.new.drawer) (some_drained (with_items c.make_all.new.workers new).items)
    (subst A (sym is) (stints-worked g.S.Shared.part known c.in_ok-board.board s js ts old new same c.work_in_threads.ensures))
    (length-map c.args.inputs.now taking_of ∙ c.requires.alike ∙ sym (length-map c.args.jobs.now line_of))
    (subst N (sym is) (numbered-worked g.S.Shared.part known c.in_ok-board.board s js ts 1 old new same c.work_in_threads.ensures (subst N (sym c.as_mut_slice-2.ensures.value) c.make_all.ensures.numbered)))
    (let a = c.make_all.ensures.few in let b = ap length is in omega (arith, a, b, long))
    (c.make_all.ensures.made.numbers ∙ ap (λ (v : Hand). v.all) c.in_ok-board.ensures.1 ∙ c.as_slice.ensures.value ∙ c.in_ok-places.ensures)
    c.wind_up-2.ensures.draws c.wind_up-2.ensures.ended

pub returns-clause-done : goal.returns-clause-done
returns-clause-done g c =
    let known = g.S.Shared.knows c.args.shared.now in
    let s = (g.S.Shared.base c.args.shared.now).setting in
    let js = map line_of c.args.jobs.now in
    let ts = map taking_of c.args.inputs.now in
    let old = c.as_mut_slice-2.result.now in
    let new = c.work_in_threads.new.workers in
    let same = c.work_in_threads.auto.workers in
    let long : length new ≡ c.make_all.new.workers.len = omega (arith, same, c.as_mut_slice-2.ensures.len) in
    let is = with_items_is c.make_all.new.workers new long in
    let ws = (with_items c.make_all.new.workers new).items in
    let N : List (Worker g.row.S-Caller.Denot) → Type 0 = λ ws. AreNumbered 1 (parts_of g.S.Shared.part ws) in
    let A : List (Worker g.row.S-Caller.Denot) → Type 0 = λ ws. AreStints s js ts (stints_of g.S.Shared.part ws) in
    let W : List (Worker g.row.S-Caller.Denot) → Type 0 = λ ws. some_wanting (stints_of g.S.Shared.part ws) ≡ false in
    let D : List (Worker g.row.S-Caller.Denot) → Type 0 = λ ws. some_drained ws ≡ true in
    let calm : some_wanting (stints_of g.S.Shared.part ws) ≡ false = sym c.wind_up-2.ensures.wanting ∙ c.if-wind_up.false in
    let count : c.make_all.new.workers.len ≡ c.args.count = on-ok c.make_all.result (c.make_all.new.workers.len ≡ c.args.count) (sym c.is_err.ensures.value ∙ c.if-is_err.false) c.make_all.ensures.ok in
    let room : length c.wind_up-2.new.slots ≡ c.in_ok-slots.slots.len = omega (arith, c.wind_up-2.auto.slots, c.as_mut_slice-3.ensures.len) in
    done-by g.S.Shared.part s js ts c.args.count ws
    (g.S.Shared.roll c.wind_up-2.new.lead).ended (numbers_of c.make_all.new.drawer) (some_drained ws) (with_items c.in_ok-slots.slots c.wind_up-2.new.slots).items
    (subst A (sym is) (stints-worked g.S.Shared.part known c.in_ok-board.board s js ts old new same c.work_in_threads.ensures))
    calm
    (length-map c.args.inputs.now taking_of ∙ c.requires.alike ∙ sym (length-map c.args.jobs.now line_of))
    (subst N (sym is) (numbered-worked g.S.Shared.part known c.in_ok-board.board s js ts 1 old new same c.work_in_threads.ensures (subst N (sym c.as_mut_slice-2.ensures.value) c.make_all.ensures.numbered)))
    (ap length is ∙ long ∙ count)
    (c.make_all.ensures.made.numbers ∙ ap (λ (v : Hand). v.all) c.in_ok-board.ensures.1 ∙ c.as_slice.ensures.value ∙ c.in_ok-places.ensures)
    c.wind_up-2.ensures.draws
    (subst D (sym is) (drained-worked g.S.Shared.part known c.in_ok-board.board s js ts old new same
    (let a = c.as_mut_slice-2.ensures.len in let b = c.requires.some in omega (arith, a, b, count)) c.work_in_threads.ensures (subst W is calm)))
    c.wind_up-2.ensures.ended
    (with_items_is c.in_ok-slots.slots c.wind_up-2.new.slots room ∙ c.wind_up-2.ensures.slots
    ∙ ap (λ os. filled os (pieces_in (stints_of g.S.Shared.part ws))) (c.as_mut_slice-3.ensures.value ∙ c.in_ok-slots.ensures ∙ ap no_pieces (sym (length-map c.args.inputs.now taking_of))))
