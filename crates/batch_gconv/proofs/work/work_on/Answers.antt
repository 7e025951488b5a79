use Rattle.std.proofs.Common.{◌≡◌, ◌∙◌, true, false, sym}
use Rattle.batch_jobs.specs.Jobs.{line_of}
use Rattle.batch_runs.specs.Meanings.{is_entered}
use Rattle.batch_gconv.proofs.Working.{IsServed, IsDenied, job_converted, job_cut, job_denied, job_lost, none_live, none_still}
use Rattle.batch_gconv.proofs.work.work_on.Goals as goal

pub returns-in-Ok-made-clause-idle : goal.returns-in-Ok-made-clause-idle
returns-in-Ok-made-clause-idle g c =
    let k : IsServed c.args.gconv.now c.args.caller.now c.opened.new.caller c.converted-made.new.caller c.close_desc.new.caller (line_of c.args.job.now) c.in-Ok.descriptor c.converted-made.new.descriptor =
    record {
      idle = c.requires.idle.none;
      opens_it = c.in-Ok.ensures.ok;
      legal_b = c.opened.ensures.knows.own.legal;
      number_b = c.opened.ensures.number;
      number_c = c.converted-made.ensures.same.0;
      front_c = c.converted-made.ensures.same.1;
      same = c.converted-made.ensures.same.2;
      owns = c.converted-made.ensures.owns;
      closes_it = c.close_desc.ensures.entry;
      legal_d = c.close_desc.ensures.knows.own.legal;
      number_d = c.close_desc.ensures.number;
    } in
    record { knows = c.close_desc.ensures.knows; none = none_live c.args.gconv.now c.args.caller.now c.opened.new.caller c.converted-made.new.caller c.close_desc.new.caller (line_of c.args.job.now) c.in-Ok.descriptor c.converted-made.new.descriptor k }

pub returns-in-Ok-made-clause-done : goal.returns-in-Ok-made-clause-done
returns-in-Ok-made-clause-done g c =
    let k : IsServed c.args.gconv.now c.args.caller.now c.opened.new.caller c.converted-made.new.caller c.close_desc.new.caller (line_of c.args.job.now) c.in-Ok.descriptor c.converted-made.new.descriptor =
    record {
      idle = c.requires.idle.none;
      opens_it = c.in-Ok.ensures.ok;
      legal_b = c.opened.ensures.knows.own.legal;
      number_b = c.opened.ensures.number;
      number_c = c.converted-made.ensures.same.0;
      front_c = c.converted-made.ensures.same.1;
      same = c.converted-made.ensures.same.2;
      owns = c.converted-made.ensures.owns;
      closes_it = c.close_desc.ensures.entry;
      legal_d = c.close_desc.ensures.knows.own.legal;
      number_d = c.close_desc.ensures.number;
    } in
    job_converted c.args.gconv.now c.args.caller.now c.opened.new.caller c.converted-made.new.caller c.close_desc.new.caller (line_of c.args.job.now) c.in-Ok.descriptor c.converted-made.new.descriptor k c.args.input.now c.in-Ok-made.buffers.output.items c.in-Ok-made.finish c.converted-made.new.descriptor.runner c.in-Ok-made.ensures.ok

pub returns-in-Err-made-clause-idle : goal.returns-in-Err-made-clause-idle
returns-in-Err-made-clause-idle g c =
    let k : IsServed c.args.gconv.now c.args.caller.now c.opened.new.caller c.converted-made.new.caller c.close_desc.new.caller (line_of c.args.job.now) c.in-Ok.descriptor c.converted-made.new.descriptor =
    record {
      idle = c.requires.idle.none;
      opens_it = c.in-Ok.ensures.ok;
      legal_b = c.opened.ensures.knows.own.legal;
      number_b = c.opened.ensures.number;
      number_c = c.converted-made.ensures.same.0;
      front_c = c.converted-made.ensures.same.1;
      same = c.converted-made.ensures.same.2;
      owns = c.converted-made.ensures.owns;
      closes_it = c.close_desc.ensures.entry;
      legal_d = c.close_desc.ensures.knows.own.legal;
      number_d = c.close_desc.ensures.number;
    } in
    record { knows = c.close_desc.ensures.knows; none = none_live c.args.gconv.now c.args.caller.now c.opened.new.caller c.converted-made.new.caller c.close_desc.new.caller (line_of c.args.job.now) c.in-Ok.descriptor c.converted-made.new.descriptor k }

pub returns-in-Err-made-clause-done : goal.returns-in-Err-made-clause-done
returns-in-Err-made-clause-done g c =
    let k : IsServed c.args.gconv.now c.args.caller.now c.opened.new.caller c.converted-made.new.caller c.close_desc.new.caller (line_of c.args.job.now) c.in-Ok.descriptor c.converted-made.new.descriptor =
    record {
      idle = c.requires.idle.none;
      opens_it = c.in-Ok.ensures.ok;
      legal_b = c.opened.ensures.knows.own.legal;
      number_b = c.opened.ensures.number;
      number_c = c.converted-made.ensures.same.0;
      front_c = c.converted-made.ensures.same.1;
      same = c.converted-made.ensures.same.2;
      owns = c.converted-made.ensures.owns;
      closes_it = c.close_desc.ensures.entry;
      legal_d = c.close_desc.ensures.knows.own.legal;
      number_d = c.close_desc.ensures.number;
    } in
    job_cut c.args.gconv.now c.args.caller.now c.opened.new.caller c.converted-made.new.caller c.close_desc.new.caller (line_of c.args.job.now) c.in-Ok.descriptor c.converted-made.new.descriptor k

pub returns-then-is_entered-clause-idle : goal.returns-then-is_entered-clause-idle
returns-then-is_entered-clause-idle g c =
    let k : IsDenied c.args.gconv.now c.args.caller.now c.opened.new.caller (line_of c.args.job.now) c.in-Err.why =
    record { idle = c.requires.idle.none; refuses = c.in-Err.ensures.err; legal = c.opened.ensures.knows.own.legal; number_is = c.opened.ensures.number } in
    record { knows = c.opened.ensures.knows; none = none_still c.args.gconv.now c.args.caller.now c.opened.new.caller (line_of c.args.job.now) c.in-Err.why k }

pub returns-then-is_entered-clause-done : goal.returns-then-is_entered-clause-done
returns-then-is_entered-clause-done g c =
    let e : is_entered c.in-Err.why ≡ true = sym c.is_entered.ensures ∙ c.if-is_entered.true in
    let k : IsDenied c.args.gconv.now c.args.caller.now c.opened.new.caller (line_of c.args.job.now) c.in-Err.why =
    record { idle = c.requires.idle.none; refuses = c.in-Err.ensures.err; legal = c.opened.ensures.knows.own.legal; number_is = c.opened.ensures.number } in
    job_denied c.args.gconv.now c.args.caller.now c.opened.new.caller (line_of c.args.job.now) c.in-Err.why k c.args.input.now e

pub returns-else-is_entered-clause-idle : goal.returns-else-is_entered-clause-idle
returns-else-is_entered-clause-idle g c =
    let k : IsDenied c.args.gconv.now c.args.caller.now c.opened.new.caller (line_of c.args.job.now) c.in-Err.why =
    record { idle = c.requires.idle.none; refuses = c.in-Err.ensures.err; legal = c.opened.ensures.knows.own.legal; number_is = c.opened.ensures.number } in
    record { knows = c.opened.ensures.knows; none = none_still c.args.gconv.now c.args.caller.now c.opened.new.caller (line_of c.args.job.now) c.in-Err.why k }

pub returns-else-is_entered-clause-done : goal.returns-else-is_entered-clause-done
returns-else-is_entered-clause-done g c =
    let e : is_entered c.in-Err.why ≡ false = sym c.is_entered.ensures ∙ c.if-is_entered.false in
    let k : IsDenied c.args.gconv.now c.args.caller.now c.opened.new.caller (line_of c.args.job.now) c.in-Err.why =
    record { idle = c.requires.idle.none; refuses = c.in-Err.ensures.err; legal = c.opened.ensures.knows.own.legal; number_is = c.opened.ensures.number } in
    job_lost c.args.gconv.now c.args.caller.now c.opened.new.caller (line_of c.args.job.now) c.in-Err.why k e
