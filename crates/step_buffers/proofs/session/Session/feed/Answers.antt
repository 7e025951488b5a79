use Rattle.std.proofs.Common.{◌≡◌, ◌+◌, ◌++◌, List, ℕ, length, true, subst, sym}
use Rattle.code_pairs.specs.Tables.{Tables}
use Rattle.chain_steps.specs.Machine.{Machine}
use Rattle.step_buffers.specs.Held.{Held}
use Rattle.step_buffers.specs.Stands.{StandsFor}
use Rattle.step_buffers.specs.declared.parts.Parts.{Parts}
use Rattle.step_buffers.proofs.Streams.{stands_fed}
use Rattle.step_buffers.proofs.session.Session.feed.Goals as goal

pub returns-then-self-clause-stands : goal.returns-then-self-clause-stands
returns-then-self-clause-stands g c = λ x stands.
    c.stop_stays.ensures _ _ c.args.self.now x c.args.piece.now (subst (λ (h : Held). h.stopped ≡ true) c.self.view_is c.if-self.true) stands

pub returns-clause-stands : goal.returns-clause-stands
returns-clause-stands g c = λ x stands.
    let ts : Tables = g.C.Converter.tables c.args.converter.now in
    let m : Machine = g.C.Converter.machine c.args.converter.now in
    let took = c.take_in-reached in
    let n : Machine = g.C.Converter.machine took.new.converter in
    let f = c.self.inside in
    let p : Parts = record { output = c.reserve.new.self; tail = f.parts.tail; scratch = f.parts.scratch } in
    let held : (output : List ℕ) → Held = λ output.
    record { output = output; tail = f.parts.tail.items; offset = f.offset; taken = f.taken; stopped = f.stopped } in
    let stood : StandsFor ts m (held f.parts.output.items) x = subst (λ (h : Held). StandsFor ts m h x) (sym c.self.view_is) stands in
    let ready : StandsFor ts m (held p.output.items) x =
    subst (λ (z : List ℕ). StandsFor ts m (held z) x) (sym c.in_ok-reserve.ensures.items) stood in
    let fed = stands_fed c.meaning_goes_on.ensures ts m n p took.new.parts f.offset f.taken f.stopped x c.args.piece.now took.result
    c.if-self.false ready took.ensures.taken in
    let k : Held = record {
      output = took.new.parts.output.items;
      tail = took.new.parts.tail.items;
      offset = f.offset + took.result.consumed;
      taken = f.taken + length c.args.piece.now;
      stopped = c.is_stop-self-inside.result;
    } in
    subst (λ (us : Tables). StandsFor us n k (x ++ c.args.piece.now)) (sym took.ensures.back.same)
    (subst (λ b. StandsFor ts n (record k { stopped = b }) (x ++ c.args.piece.now)) (sym c.is_stop-self-inside.ensures) fed)
