use Rattle.std.proofs.Common.{◌+◌, ◌-◌, ◌++◌, [], ◌∷◌, map, ap, arith, ◌∙◌}
use Rattle.std.specs.List.{range_with_len}
use Rattle.std.proofs.lemmas.List.{map-append}
use Rattle.outside.specs.Stored.{file_of, shelf_of}
use Rattle.batch_jobs.specs.Limits.{made_jobs}
use Rattle.batch_jobs.specs.Generated.{input_file}
use Rattle.batch_jobs.proofs.Ranges.{longer, map_range_first}
use Rattle.batch_jobs.proofs.generated.input_files.Goals as goal

pub jobs-preserved : goal.jobs-preserved
jobs-preserved c = longer (map (input_file c.args.number) (range_with_len 1 made_jobs)) (shelf_of c.jobs.files.items)
    (input_file c.args.number c.jobs.job ∷ []) (shelf_of c.push.new.self.items)
    (map (input_file c.args.number) (range_with_len c.jobs.job (65 - c.jobs.job)))
    (map (input_file c.args.number) (range_with_len (c.jobs.job + 1) (65 - (c.jobs.job + 1))))
    c.jobs.invariant (map_range_first (input_file c.args.number) c.jobs.job 65 (omega (arith, c.jobs-test.true)))
    (ap shelf_of c.in_ok-push.ensures.items ∙ map-append file_of c.jobs.files.items _
    ∙ ap (λ f. shelf_of c.jobs.files.items ++ f ∷ []) c.in_ok-input_file.ensures)
