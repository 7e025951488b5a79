use Rattle.std.proofs.Common.{◌≡◌, ◌∙◌, ◌≤◌, ◌+◌, ap, subst, arith, take, not, length}
use Rattle.std.proofs.lemmas.List.{length-take-le, take_all}
use Rattle.module_graph.specs.Edges.{named_edges}
use Rattle.module_graph.specs.Drafts.{IsDraft}
use Rattle.module_graph.proofs.Whole.{lines_room, few_skipped, bit_is, bit_small, drafted_none, line_more}
use Rattle.module_graph.proofs.build.drafted.Goals as goal

pub add_line-requires-clause-room : goal.add_line-requires-clause-room
add_line-requires-clause-room c =
    let size : length (take c.loop-line.line-index c.args.lines.now) ≡ c.loop-line.line-index = length-take-le c.loop-line.line-index c.args.lines.now (omega arith) in
    lines_room (take c.loop-line.line-index c.args.lines.now) c.args.bindings.now c.loop-line.draft c.loop-line.skipped c.loop-line.invariant (omega (arith, size, c.requires.count))

pub overflow_add-skipped : goal.overflow_add-skipped
overflow_add-skipped c =
    let size : length (take c.loop-line.line-index c.args.lines.now) ≡ c.loop-line.line-index = length-take-le c.loop-line.line-index c.args.lines.now (omega arith) in
    let few = few_skipped (take c.loop-line.line-index c.args.lines.now) c.args.bindings.now c.loop-line.draft c.loop-line.skipped c.loop-line.invariant in
    let one : c.from-skipped.result ≤ 1 = rw (c.from-skipped.ensures, bit_is) (bit_small (not c.in_ok-added.added)) in
    omega (arith, size, few, one, c.requires.count)

pub loop-line-init : goal.loop-line-init
loop-line-init c = drafted_none c.args.bindings.now c.in_ok-draft.draft c.in_ok-draft.ensures

pub loop-line-preserved : goal.loop-line-preserved
loop-line-preserved c =
    let both = c.in_ok-added.ensures c.args.bindings.now (named_edges (take c.loop-line.line-index c.args.lines.now) c.args.bindings.now) c.in_ok-kinds.ensures c.loop-line.invariant.draft in
    line_more c.args.lines.now c.args.bindings.now c.loop-line.line-index c.line-item.result c.loop-line.draft c.add_line.new.draft c.loop-line.skipped (c.loop-line.skipped + c.from-skipped.result) c.in_ok-added.added
    c.loop-line-test.true c.loop-line.invariant (rw c.line-item.is at both.0) (rw c.line-item.is at both.1) (ap (λ n. c.loop-line.skipped + n) (c.from-skipped.ensures ∙ bit_is (not c.in_ok-added.added)))

pub returns-clause-draft : goal.returns-clause-draft
returns-clause-draft c = subst (λ ls. IsDraft (named_edges ls c.args.bindings.now) c.loop-line.draft) (take_all c.loop-line.line-index c.args.lines.now (omega arith)) c.loop-line.invariant.draft
