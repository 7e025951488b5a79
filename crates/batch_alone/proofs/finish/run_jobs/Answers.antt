use Rattle.std.proofs.Common.{rules, ◌≡◌, ℕ, List, map, subst, sym}
use Rattle.std.specs.Prelude.{option_map}
use Rattle.outside.specs.Moments.{Written}
use Rattle.runtime_histories.specs.declared.entries.Entry.{Entry}
use Rattle.batch_jobs.specs.Jobs.{Text, line_of}
use Rattle.batch_runs.specs.Lines.{memory_line}
use Rattle.batch_runs.specs.Puts.{PutsJournal}
use Rattle.batch_runs.specs.Batches.{Writes}
use Rattle.batch_alone.proofs.OneThread.{finish_alone, halt_alone, settled_halts}
use Rattle.batch_alone.proofs.finish.run_jobs.Goals as goal

pub returns-in_default-clause-ended : goal.returns-in_default-clause-ended
returns-in_default-clause-ended g c = λ workers.
    let W : Text → Type 0 = λ x. Writes (g.O.Sink.written c.args.out.now) (g.O.Sink.written c.write.new.out) x c.write.result in
    halt_alone (g.B.Runtime.book c.args.book) (g.B.Runtime.book c.settle-settled.new.book)
    (g.F.Files.outside c.args.files.now) (g.F.Files.outside c.settle-settled.new.files) (g.F.Files.outside c.settle-settled.new.files)
    (map line_of c.args.jobs.now) c.args.sums _ _ workers _ c.write.result _ _ c.in_default.ensures.done c.done-library.ensures (search rules)
    (subst W c.as_bytes.ensures.value c.write.ensures)

pub returns-in_default-put_journal-clause-ended : goal.returns-in_default-put_journal-clause-ended
returns-in_default-put_journal-clause-ended g c = λ workers.
    let W : Text → Type 0 = λ x. Writes (g.O.Sink.written c.args.out.now) (g.O.Sink.written c.write-in_default-put_journal.new.out) x c.write-in_default-put_journal.result in
    halt_alone (g.B.Runtime.book c.args.book) (g.B.Runtime.book c.settle-settled.new.book)
    (g.F.Files.outside c.args.files.now) (g.F.Files.outside c.settle-settled.new.files) (g.F.Files.outside c.put_journal.new.files)
    (map line_of c.args.jobs.now) c.args.sums _ _ workers _ c.write-in_default-put_journal.result _ _
    (settled_halts (g.B.Runtime.book c.args.book) (g.B.Runtime.book c.settle-settled.new.book)
    (g.F.Files.outside c.args.files.now) (g.F.Files.outside c.settle-settled.new.files) (map line_of c.args.jobs.now) c.args.sums c.in-Ok.reported.text.items c.in-Ok.reported.good c.in-Ok.ensures.done)
    c.done-library.ensures c.in_default-put_journal.ensures.err
    (subst W c.as_bytes-in_default-put_journal.ensures.value c.write-in_default-put_journal.ensures)

pub returns-clause-ended : goal.returns-clause-ended
returns-clause-ended g c = λ workers.
    let W : Text → Type 0 = λ x. Writes (g.O.Sink.written c.args.out.now) (g.O.Sink.written c.write-sent.new.out) x c.write-sent.result in
    let J : List Entry → Type 0 = λ xs. PutsJournal (g.F.Files.outside c.settle-settled.new.files).told (option_map (λ s. s.now) c.args.file) xs c.in-Ok-put_journal.put (g.F.Files.outside c.put_journal.new.files).told in
    finish_alone (g.B.Runtime.book c.args.book) (g.B.Runtime.book c.settle-settled.new.book)
    (g.F.Files.outside c.args.files.now) (g.F.Files.outside c.settle-settled.new.files) (g.F.Files.outside c.put_journal.new.files)
    (map line_of c.args.jobs.now) c.args.sums c.in-Ok.reported.text.items c.in-Ok.reported.good _ _ workers _ c.in-Ok-put_journal.put c.write-sent.result _ _ c.cause_of-cause.result
    c.in-Ok.ensures.done c.done-library.ensures c.requires.fresh.empty (subst J c.as_slice.ensures.value c.in-Ok-put_journal.ensures.put)
    c.put_journal.ensures.takes c.in-Ok-put_journal.ensures.puts (subst W c.as_slice-2.ensures.value c.write-sent.ensures) c.cause_of-cause.ensures
