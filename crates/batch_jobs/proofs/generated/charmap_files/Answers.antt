use Rattle.std.proofs.Common.{◌+◌, ◌-◌, ◌++◌, [], ◌∷◌, map, ap, arith, ◌∙◌}
use Rattle.std.specs.List.{range_with_len}
use Rattle.std.proofs.lemmas.List.{map-append}
use Rattle.outside.specs.Stored.{file_of, shelf_of}
use Rattle.batch_jobs.specs.Limits.{made_charmaps}
use Rattle.batch_jobs.specs.Generated.{charmap_file}
use Rattle.batch_jobs.proofs.Ranges.{longer, map_range_first}
use Rattle.batch_jobs.proofs.generated.charmap_files.Goals as goal

pub charmaps-preserved : goal.charmaps-preserved
charmaps-preserved c = longer (map (charmap_file c.args.number) (range_with_len 0 made_charmaps)) (shelf_of c.charmaps.files.items)
    (charmap_file c.args.number c.charmaps.charmap ∷ []) (shelf_of c.push.new.self.items)
    (map (charmap_file c.args.number) (range_with_len c.charmaps.charmap (8 - c.charmaps.charmap)))
    (map (charmap_file c.args.number) (range_with_len (c.charmaps.charmap + 1) (8 - (c.charmaps.charmap + 1))))
    c.charmaps.invariant (map_range_first (charmap_file c.args.number) c.charmaps.charmap 8 (omega (arith, c.charmaps-test.true)))
    (ap shelf_of c.in_ok-push.ensures.items ∙ map-append file_of c.charmaps.files.items _
    ∙ ap (λ f. shelf_of c.charmaps.files.items ++ f ∷ []) c.in_ok-charmap_file.ensures)
