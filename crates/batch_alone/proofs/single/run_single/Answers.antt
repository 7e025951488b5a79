use Rattle.std.proofs.Common.{◌≡◌, ◌∙◌, List, [], ◌∷◌, map, ap, sym, refl}
use Rattle.std.specs.Prelude.{option_map}
use Rattle.batch_jobs.specs.Jobs.{line_of}
use Rattle.batch_words.specs.Asked.{Single, Request}
use Rattle.batch_runs.specs.Batches.{World}
use Rattle.batch_alone.proofs.Outer.{single_for}
use Rattle.batch_alone.proofs.single.run_single.Goals as goal

pub returns-clause-ran : goal.returns-clause-ran
returns-clause-ran g c = λ workers.
    let q : Request = record {
      source = Single c.args.from.now c.args.to.now c.args.input.now c.args.output.now;
      pages = c.args.pages;
      journal = option_map (λ s. s.now) c.args.file;
      workers = workers;
    } in
    let old : World = record { files = g.F.Files.outside c.args.files.now; library = g.B.Library.Library.holdings c.args.library; sink = g.O.Sink.written c.args.out.now } in
    let new : World = record { files = g.F.Files.outside c.run_prepared.new.files; library = g.B.Library.Library.holdings c.run_prepared.result.library; sink = g.O.Sink.written c.run_prepared.new.out } in
    single_for q old new c.run_prepared.result.cause c.run_prepared.result.journal.items
    c.args.from.now c.args.to.now c.args.input.now c.args.output.now c.in-Ok.ready.conf c.in-Ok.ready.bindings (map line_of c.as_slice.result.now) refl
    c.in-Ok.ensures.conf c.in-Ok.ensures.bindings (ap (map line_of) c.as_slice.ensures.value ∙ c.in-Ok.ensures.jobs) c.run_prepared.ensures.started
