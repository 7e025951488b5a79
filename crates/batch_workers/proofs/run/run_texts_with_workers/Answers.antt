use Rattle.std.proofs.Common.{◌∙◌, Ok, map, ap, sym, refl}
use Rattle.std.specs.Prelude.{option_map}
use Rattle.batch_jobs.specs.Jobs.{line_of}
use Rattle.batch_words.specs.Asked.{Texts, Request}
use Rattle.batch_runs.specs.Batches.{World}
use Rattle.batch_alone.proofs.Outer.{OnlyTook, stops_for}
use Rattle.batch_workers.proofs.Started.{started-with}
use Rattle.batch_workers.proofs.run.run_texts_with_workers.Goals as goal

pub returns-in-Err-clause-ran : goal.returns-in-Err-clause-ran
returns-in-Err-clause-ran g c =
    let q : Request = record {
      source = Texts c.args.modules.now c.args.bindings.now c.args.charmaps.now c.args.jobs.now;
      pages = c.args.pages;
      journal = option_map (λ s. s.now) c.args.file;
      workers = c.args.count;
    } in
    let old : World = record { files = g.F.Files.outside c.args.files.now; library = g.L.Library.holdings c.args.library; sink = g.O.Sink.written c.args.out.now } in
    let new : World = record { files = g.F.Files.outside c.prepare.new.files; library = g.L.Library.holdings c.args.library; sink = g.O.Sink.written c.tell_stop-cause.new.out } in
    stops_for q old new c.tell_stop-cause.result c.new.result.items c.in-Err.halt c.in-Err.ensures.read c.tell_stop-cause.ensures
    (record { told = c.prepare.ensures.told; puts = c.prepare.ensures.puts; library = refl; empty = c.new.ensures.items }) c.in-Err.ensures.failed

pub returns-clause-ran : goal.returns-clause-ran
returns-clause-ran g c =
    let q : Request = record {
      source = Texts c.args.modules.now c.args.bindings.now c.args.charmaps.now c.args.jobs.now;
      pages = c.args.pages;
      journal = option_map (λ s. s.now) c.args.file;
      workers = c.args.count;
    } in
    let ready = c.in-Ok.ensures.read in
    let old : World = record { files = g.F.Files.outside c.args.files.now; library = g.L.Library.holdings c.args.library; sink = g.O.Sink.written c.args.out.now } in
    let mid : World = record { files = g.F.Files.outside c.prepare.new.files; library = g.L.Library.holdings c.args.library; sink = g.O.Sink.written c.args.out.now } in
    let new : World = record { files = g.F.Files.outside c.run_with_workers.new.files; library = g.L.Library.holdings c.run_with_workers.result.library; sink = g.O.Sink.written c.run_with_workers.new.out } in
    let took : OnlyTook old mid = record {
      told = c.prepare.ensures.told;
      puts = c.prepare.ensures.puts;
      takes = c.prepare.ensures.count;
      library = refl;
      sink = refl;
    } in
    started-with q old mid new c.run_with_workers.result.cause c.run_with_workers.result.journal.items ready.modules_text ready.bindings_text ready.jobs_text
    c.args.modules.now c.args.bindings.now c.args.charmaps.now c.args.jobs.now c.in-Ok.ready.conf c.in-Ok.ready.bindings (map line_of c.as_slice.result.now) refl ready.read
    ready.conf ready.bound (ready.lines ∙ ap (λ js. Ok (map line_of js)) (sym c.as_slice.ensures.value)) took c.run_with_workers.ensures.started
