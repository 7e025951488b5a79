use Rattle.std.proofs.Common.{◌≡◌, ◌-◌, ◌++◌, map}
use Rattle.std.specs.List.{range_with_len}
use Rattle.outside.specs.Stored.{shelf_of}
use Rattle.batch_jobs.specs.Limits.{made_charmaps}
use Rattle.batch_jobs.specs.Generated.{charmap_file}
use Rattle.batch_jobs.proofs.generated.charmap_files.Given as goal

abbrev pub invariant-charmaps : goal.invariant-charmaps
invariant-charmaps l = map (charmap_file l.number) (range_with_len 0 made_charmaps)
    ≡ shelf_of l.files.items ++ map (charmap_file l.number) (range_with_len l.charmap (made_charmaps - l.charmap))
