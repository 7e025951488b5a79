use Rattle.std.proofs.Common.{◌≡◌, ◌-◌, ◌++◌, map}
use Rattle.std.specs.List.{concat, range_with_len}
use Rattle.batch_jobs.specs.Limits.{made_charmaps}
use Rattle.batch_jobs.specs.Generated.{all_modules, module_lines}
use Rattle.batch_jobs.proofs.made_lists.add_modules.Given as goal

abbrev pub invariant-sets : goal.invariant-sets
invariant-sets l = l.initial.text.items ++ all_modules
    ≡ l.text.items ++ concat (map module_lines (range_with_len l.set (made_charmaps - l.set)))
