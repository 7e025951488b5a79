use Rattle.std.proofs.Common.{arith}
use Rattle.code_pairs.specs.Tables.{Tables}
use Rattle.chain_steps.specs.Sets.{AreWellFormed}
use Rattle.step_buffers.proofs.Scratch.{call_little, call_written, full_moves}
use Rattle.step_buffers.proofs.through.convert_more.Goals as goal

pub append_within-requires : goal.append_within-requires
append_within-requires g c =
    let ts : Tables = g.C.Converter.tables c.args.converter.now in
    let well : AreWellFormed ts = λ k. g.met.C.Converter.well_formed c.args.converter.now k c.requires.ready in
    let few = call_little c.runs_are_short.ensures.run ts well _ _ _ _ _ _ c.convert-progress.ensures.call in
    let some = c.convert-progress.ensures.call.converts.within in
    omega (arith, c.requires.room)

pub returns-clause-written : goal.returns-clause-written
returns-clause-written g c =
    let ts : Tables = g.C.Converter.tables c.args.converter.now in
    let well : AreWellFormed ts = λ k. g.met.C.Converter.well_formed c.args.converter.now k c.requires.ready in
    let put = c.append_within.ensures in
    call_written c.runs_are_short.ensures.run ts well _ _ _ _ _ _ _ _ c.convert-progress.ensures.call put.items put.len put.capacity

pub returns-clause-moved : goal.returns-clause-moved
returns-clause-moved g c = λ full.
    let ts : Tables = g.C.Converter.tables c.args.converter.now in
    let well : AreWellFormed ts = λ k. g.met.C.Converter.well_formed c.args.converter.now k c.requires.ready in
    full_moves c.runs_are_short.ensures.run c.runs_are_short.ensures.unit ts well _ _ _ _ _ _ c.requires.scratch c.convert-progress.ensures.call full
