use Rattle.std.proofs.Common.{rules, ◌≡◌, ◌+◌, ◌-◌, ◌≤◌, ◌++◌, ◌∙◌, ℕ, List, length, take, drop, sym, ap, subst, arith, length-drop}
use Rattle.std.specs.Vec.{with_items}
use Rattle.std.proofs.lemmas.List.{take_rest, length-take-le}
use Rattle.step_buffers.specs.Steps.{IsConverted}
use Rattle.step_buffers.specs.declared.parts.Parts.{Parts}
use Rattle.step_buffers.specs.declared.limits.TheConstants.{BRIDGE}
use Rattle.step_buffers.proofs.Bridge.{bridged, bridge_stops}
use Rattle.step_buffers.proofs.Verdicts.{stops_illegal, going_legal}
use Rattle.step_buffers.proofs.feeding.take_bridged.Goals as goal

pub returns-then-is_stop-clause-taken : goal.returns-then-is_stop-clause-taken
returns-then-is_stop-clause-taken g c =
    let a = c.convert_through-first in
    let piece = c.args.piece.now in
    let joined = subst (λ (z : List ℕ). IsConverted (g.C.Converter.tables c.args.converter.now) (g.C.Converter.machine c.args.converter.now)
    (g.C.Converter.machine a.new.converter) z c.args.parts.now.output a.new.output a.result)
    (c.as_slice.ensures.value ∙ c.append_within.ensures.items) a.ensures.converted in
    let eight : length (take BRIDGE piece) ≡ BRIDGE = length-take-le BRIDGE piece c.requires.piece in
    bridge_stops c.illegal_stays.ensures _ _ _ c.args.parts.now _ piece BRIDGE a.result
    (stops_illegal a.result.verdict (sym c.is_stop.ensures ∙ c.if-is_stop.true))
    c.clear.ensures.items (search rules) (search rules) (search rules) (search rules) joined

pub returns-clause-taken : goal.returns-clause-taken
returns-clause-taken g c =
    let a = c.convert_through-first in
    let piece = c.args.piece.now in
    let waits = c.args.parts.now.tail.items in
    let k : ℕ = a.result.consumed - c.len-waited.result in
    let joined = subst (λ (z : List ℕ). IsConverted (g.C.Converter.tables c.args.converter.now) (g.C.Converter.machine c.args.converter.now)
    (g.C.Converter.machine a.new.converter) z c.args.parts.now.output a.new.output a.result)
    (c.as_slice.ensures.value ∙ c.append_within.ensures.items) a.ensures.converted in
    let legal = a.ensures.short (going_legal a.result.verdict (sym c.is_stop.ensures ∙ c.if-is_stop.false)) in
    let long = c.args.parts.now.tail.ok.0 in
    let eight : length (take BRIDGE piece) ≡ BRIDGE = length-take-le BRIDGE piece c.requires.piece in
    let both : length c.as_slice.result.now ≡ length waits + BRIDGE = omega (arith, c.as_slice.ensures.len, c.append_within.ensures.len) in
    let place : a.result.consumed ≡ length waits + k = omega (arith, c.len-waited.ensures) in
    let near : k ≤ BRIDGE = omega (arith, a.ensures.converted.within) in
    let left : List ℕ = take (length piece - k) (drop k piece) in
    let cleared : Parts = record {
      output = a.new.output;
      tail = c.clear.new.self;
      scratch = with_items c.args.parts.now.scratch a.new.scratch;
    } in
    bridged c.runs_join.ensures.both _ _ _ _ _ c.args.parts.now cleared _ piece left BRIDGE k a.result c.take_piece-rest.result a.ensures.back.same
    (ap (λ (z : List ℕ). z ++ left) c.clear.ensures.items ∙ take_rest piece k)
    place near (omega (arith, c.requires.piece))
    (omega (arith, c.clear.ensures.len, ap length (take_rest piece k), length-drop k piece, c.requires.piece))
    (search rules) (search rules) joined c.take_piece-rest.ensures.taken
