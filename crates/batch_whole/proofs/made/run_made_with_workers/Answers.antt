use Rattle.std.proofs.Common.{◌∙◌, Ok, map, ap, sym, refl}
use Rattle.std.specs.Prelude.{option_map}
use Rattle.modules_conf.specs.Modules.{conf_of}
use Rattle.modules_conf.specs.Bindings.{bindings_of}
use Rattle.batch_jobs.specs.Jobs.{jobs_of, line_of}
use Rattle.batch_jobs.specs.Generated.{input_of}
use Rattle.batch_whole.proofs.MadeRuns.{made_with, in_memory}
use Rattle.batch_whole.proofs.made.run_made_with_workers.Goals as goal

pub returns-clause-ran : goal.returns-clause-ran
returns-clause-ran g c = λ files.
    let texts = c.in-Ok-read_made in
    made_with c.args.number c.args.pages (option_map (λ s. s.now) c.args.file) c.args.count files
    (g.L.Library.holdings c.args.library) (g.O.Sink.written c.args.out.now)
    (g.O.Sink.written c.run_with_workers-status.new.out) c.run_with_workers-status.result.cause
    c.run_with_workers-status.result.journal.items (input_of c.in-Ok.made) texts.texts.conf
    texts.texts.bindings (map line_of c.as_slice-4.result.now) _ _ _ c.in-Ok.ensures
    (record {
      conf_is = ap conf_of (sym c.as_slice.ensures.value) ∙ texts.ensures.conf;
      bound_is = ap bindings_of (sym c.as_slice-2.ensures.value) ∙ texts.ensures.bindings;
      jobs_is = ap jobs_of (sym c.as_slice-3.ensures.value) ∙ texts.ensures.jobs
          ∙ ap (λ js. Ok (map line_of js)) (sym c.as_slice-4.ensures.value);
    })
    (in_memory (input_of c.in-Ok.made) (g.O.Sink.written c.args.out.now) c.new-files.result
    c.new-charmaps.result c.new-files.ensures c.new-charmaps.ensures)
    c.run_with_workers-status.ensures.started (record { takes = refl; puts = refl; faults = refl })
