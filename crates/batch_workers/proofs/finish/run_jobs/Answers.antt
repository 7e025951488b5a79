use Rattle.std.proofs.Common.{◌≡◌, ◌∙◌, List, length, map, ap, sym, subst, refl}
use Rattle.std.proofs.lemmas.List.{length-map}
use Rattle.std.specs.Prelude.{option_map}
use Rattle.std.specs.declared.vec.Vec.{Vec}
use Rattle.std.specs.declared.alloc.Global.{Global}
use Rattle.runtime_histories.specs.declared.entries.Entry.{Entry}
use Rattle.batch_jobs.specs.Jobs.{JobLine, Text, line_of}
use Rattle.batch_runs.specs.Takings.{all_inputs}
use Rattle.batch_runs.specs.Puts.{PutsJournal}
use Rattle.batch_runs.specs.Batches.{Writes, report_by}
use Rattle.batch_alone.specs.Readings.{taking_of}
use Rattle.batch_alone.proofs.Snoc.{names_of}
use Rattle.batch_alone.proofs.SettleLemmas.{taken_alike}
use Rattle.batch_workers.specs.Toils.{works_in}
use Rattle.batch_workers.proofs.Endings.{ends-as, finish-shared, halts-before, halts-behind, settled-some}
use Rattle.batch_workers.proofs.finish.run_jobs.Goals as goal

pub returns-in_default-clause-ended : goal.returns-in_default-clause-ended
returns-in_default-clause-ended g c =
    ends-as _ (report_by c.args.sums) _ (g.F.Files.outside c.do_jobs.new.files) (g.O.Sink.written c.end_short.new.out)
    (g.S.Library.Library.holdings c.close-library.result.library) (g.S.Library.Library.holdings c.end_short.result.library)
    c.close-library.result.journal.items c.end_short.result.journal.items c.end_short.result.cause
    (halts-before (g.S.Shared.base c.args.shared) c.args.count (map line_of c.args.jobs.now) (g.S.Shared.roll c.do_jobs.new.lead).ended
    (g.F.Files.outside c.args.files.now) (g.F.Files.outside c.do_jobs.new.files) c.args.sums (g.S.Library.Library.holdings c.close-library.result.library)
    c.close-library.result.journal.items (option_map (λ s. s.now) c.args.file) (g.O.Sink.written c.args.out.now) (g.O.Sink.written c.end_short.new.out)
    c.in_default.ensures.done c.close-library.ensures c.in_default.ensures.told c.end_short.ensures.wrote)
    c.end_short.ensures.cause (ap g.S.Library.Library.holdings c.end_short.ensures.library) (ap (λ (v : Vec Entry Global). v.items) c.end_short.ensures.journal)

pub settle-requires-clause-alike : goal.settle-requires-clause-alike
settle-requires-clause-alike g c =
    let items = c.in-Ok.worked.inputs.list.items in
    let same : length (map taking_of items) ≡ length (names_of (map line_of c.args.jobs.now)) = taken_alike _ all_inputs _ _ c.in-Ok.ensures.done.taken in
    sym (length-map items taking_of) ∙ same ∙ length-map (map line_of c.args.jobs.now) (λ (j : JobLine). j.input) ∙ length-map c.args.jobs.now line_of

pub returns-in_default-settle-clause-ended : goal.returns-in_default-settle-clause-ended
returns-in_default-settle-clause-ended g c =
    ends-as _ (report_by c.args.sums) _ (g.F.Files.outside c.settle.new.files) (g.O.Sink.written c.end_short-in_default-settle.new.out)
    (g.S.Library.Library.holdings c.close-library-2.result.library) (g.S.Library.Library.holdings c.end_short-in_default-settle.result.library)
    c.close-library-2.result.journal.items c.end_short-in_default-settle.result.journal.items c.end_short-in_default-settle.result.cause
    (halts-behind (g.S.Shared.base c.args.shared) c.args.count (map line_of c.args.jobs.now) (map taking_of c.in-Ok.worked.inputs.list.items) (g.S.Shared.roll c.do_jobs.new.lead).ended
    (works_in (map taking_of c.in-Ok.worked.inputs.list.items) c.in-Ok.worked.slots.items)
    (g.F.Files.outside c.args.files.now) (g.F.Files.outside c.do_jobs.new.files) (g.F.Files.outside c.settle.new.files) (g.F.Files.outside c.settle.new.files) c.args.sums
    (g.S.Library.Library.holdings c.close-library-2.result.library)
    c.close-library-2.result.journal.items (option_map (λ s. s.now) c.args.file) (g.O.Sink.written c.args.out.now) (g.O.Sink.written c.end_short-in_default-settle.new.out)
    c.in-Ok.ensures.done c.in-Ok.ensures.told c.in_default-settle.ensures.done c.close-library-2.ensures c.requires.some refl c.end_short-in_default-settle.ensures.wrote)
    c.end_short-in_default-settle.ensures.cause (ap g.S.Library.Library.holdings c.end_short-in_default-settle.ensures.library)
    (ap (λ (v : Vec Entry Global). v.items) c.end_short-in_default-settle.ensures.journal)

pub returns-in_default-put_journal-clause-ended : goal.returns-in_default-put_journal-clause-ended
returns-in_default-put_journal-clause-ended g c =
    let ts = map taking_of c.in-Ok.worked.inputs.list.items in
    let ws = works_in ts c.in-Ok.worked.slots.items in
    ends-as _ (report_by c.args.sums) _ (g.F.Files.outside c.put_journal.new.files) (g.O.Sink.written c.end_short-in_default-put_journal.new.out)
    (g.S.Library.Library.holdings c.close-library-2.result.library) (g.S.Library.Library.holdings c.end_short-in_default-put_journal.result.library)
    c.close-library-2.result.journal.items c.end_short-in_default-put_journal.result.journal.items c.end_short-in_default-put_journal.result.cause
    (halts-behind (g.S.Shared.base c.args.shared) c.args.count (map line_of c.args.jobs.now) ts (g.S.Shared.roll c.do_jobs.new.lead).ended ws
    (g.F.Files.outside c.args.files.now) (g.F.Files.outside c.do_jobs.new.files) (g.F.Files.outside c.settle.new.files) (g.F.Files.outside c.put_journal.new.files) c.args.sums
    (g.S.Library.Library.holdings c.close-library-2.result.library)
    c.close-library-2.result.journal.items (option_map (λ s. s.now) c.args.file) (g.O.Sink.written c.args.out.now) (g.O.Sink.written c.end_short-in_default-put_journal.new.out)
    c.in-Ok.ensures.done c.in-Ok.ensures.told
    (settled-some (g.F.Files.outside c.do_jobs.new.files) (g.F.Files.outside c.settle.new.files) (map line_of c.args.jobs.now) ts ws c.args.sums c.in-Ok-settle.reported.text.items
    c.in-Ok-settle.reported.good (g.S.Shared.base c.args.shared).setting c.in-Ok.ensures.done.done.worked c.in-Ok-settle.ensures.done)
    c.close-library-2.ensures c.requires.some c.in_default-put_journal.ensures.err c.end_short-in_default-put_journal.ensures.wrote)
    c.end_short-in_default-put_journal.ensures.cause (ap g.S.Library.Library.holdings c.end_short-in_default-put_journal.ensures.library)
    (ap (λ (v : Vec Entry Global). v.items) c.end_short-in_default-put_journal.ensures.journal)

pub returns-clause-ended : goal.returns-clause-ended
returns-clause-ended g c =
    let ts = map taking_of c.in-Ok.worked.inputs.list.items in
    let ws = works_in ts c.in-Ok.worked.slots.items in
    let W : Text → Type 0 = λ x. Writes (g.O.Sink.written c.args.out.now) (g.O.Sink.written c.write-sent.new.out) x c.write-sent.result in
    let J : List Entry → Type 0 = λ xs. PutsJournal (g.F.Files.outside c.settle.new.files).told (option_map (λ s. s.now) c.args.file) xs c.in-Ok-put_journal.put (g.F.Files.outside c.put_journal.new.files).told in
    finish-shared (g.S.Shared.base c.args.shared) c.args.count (map line_of c.args.jobs.now) ts (g.S.Shared.roll c.do_jobs.new.lead).ended ws
    (g.F.Files.outside c.args.files.now) (g.F.Files.outside c.do_jobs.new.files) (g.F.Files.outside c.settle.new.files) (g.F.Files.outside c.put_journal.new.files) c.args.sums
    c.in-Ok-settle.reported.text.items c.in-Ok-settle.reported.good (g.S.Library.Library.holdings c.close-library-2.result.library) c.close-library-2.result.journal.items
    (option_map (λ s. s.now) c.args.file) c.in-Ok-put_journal.put c.write-sent.result (g.O.Sink.written c.args.out.now) (g.O.Sink.written c.write-sent.new.out) c.cause_of-cause.result
    c.in-Ok.ensures.done c.in-Ok.ensures.told c.in-Ok.ensures.puts c.in-Ok-settle.ensures.done c.close-library-2.ensures c.requires.some
    (subst J c.as_slice.ensures.value c.in-Ok-put_journal.ensures.put) c.put_journal.ensures.takes c.in-Ok-put_journal.ensures.puts
    (subst W c.as_slice-2.ensures.value c.write-sent.ensures) c.cause_of-cause.ensures
