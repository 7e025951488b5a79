use Rattle.std.proofs.Common.{◌≡◌, ◌∙◌, true, false, sym}
use Rattle.batch_jobs.specs.Jobs.{JobLine, line_of}
use Rattle.batch_runs.specs.Meanings.{asked_in, is_entered}
use Rattle.conversion_book.specs.Calls.{ConvertsWhole}
use Rattle.conversion_book.specs.Runtime.{setting_of}
use Rattle.batch_book.proofs.Working.{none_held, live_behind, opened_live, job_converted, cut_both, job_refused, job_lost, not_full}
use Rattle.batch_book.proofs.work.work_on.Goals as goal

pub close_desc-requires : goal.close_desc-requires
close_desc-requires g c =
    let a = c.args.book.now in
    let b = c.opened.new.book in
    let job : JobLine = line_of c.args.job.now in
    live_behind c.convert_whole-made.result (λ r. ConvertsWhole c.args.input.now r.0.output.items r.1) (λ ts m n. n.recipe ≡ m.recipe)
    b c.convert_whole-made.new.self c.in-Ok.number c.convert_whole-made.ensures.ok c.convert_whole-made.ensures.err
    (opened_live a b (asked_in (setting_of a) job.from) (asked_in (setting_of a) job.to) c.in-Ok.number c.in-Ok.ensures.ok c.opened.ensures.legal)

pub returns-in-Ok-made-clause-done : goal.returns-in-Ok-made-clause-done
returns-in-Ok-made-clause-done g c =
    job_converted c.args.book.now c.opened.new.book c.convert_whole-made.new.self c.close_desc.new.self (line_of c.args.job.now) c.in-Ok.number
    c.args.input.now c.in-Ok-made.buffers.output.items c.in-Ok-made.finish (none_held c.args.book.now.held c.requires.idle)
    c.in-Ok.ensures.ok c.in-Ok-made.ensures.ok c.close_desc.ensures

pub returns-in-Err-made-clause-done : goal.returns-in-Err-made-clause-done
returns-in-Err-made-clause-done g c =
    cut_both c.args.book.now c.opened.new.book c.convert_whole-made.new.self c.close_desc.new.self (line_of c.args.job.now) c.in-Ok.number
    (λ ts m n. n.recipe ≡ m.recipe) (none_held c.args.book.now.held c.requires.idle)
    c.in-Ok.ensures.ok c.in-Err-made.ensures.err c.close_desc.ensures

pub returns-then-is_entered-clause-done : goal.returns-then-is_entered-clause-done
returns-then-is_entered-clause-done g c =
    let e : is_entered c.in-Err.why ≡ true = sym c.is_entered.ensures ∙ c.if-is_entered.true in
    job_refused c.args.book.now c.opened.new.book (line_of c.args.job.now) c.args.input.now c.in-Err.why c.opened.ensures.legal c.in-Err.ensures.err e

pub returns-else-is_entered-clause-done : goal.returns-else-is_entered-clause-done
returns-else-is_entered-clause-done g c =
    let e : is_entered c.in-Err.why ≡ false = sym c.is_entered.ensures ∙ c.if-is_entered.false in
    job_lost c.args.book.now c.opened.new.book (line_of c.args.job.now) c.in-Err.why c.in-Err.ensures.err e

pub unreachable-requires : goal.unreachable-requires
unreachable-requires g c =
    not_full c.args.book.now c.opened.new.book (line_of c.args.job.now) c.in-Err.why c.in-Err.ensures.err c.requires.place (sym c.is_full.ensures ∙ c.if-is_full.true)
