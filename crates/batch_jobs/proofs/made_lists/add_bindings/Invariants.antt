use Rattle.std.proofs.Common.{◌≡◌, ◌-◌, ◌++◌, map}
use Rattle.std.specs.List.{concat, range_with_len}
use Rattle.batch_jobs.specs.Limits.{made_charmaps}
use Rattle.batch_jobs.specs.Generated.{all_bindings, binding_line}
use Rattle.batch_jobs.proofs.made_lists.add_bindings.Given as goal

abbrev pub invariant-sets : goal.invariant-sets
invariant-sets l = l.initial.text.items ++ all_bindings
    ≡ l.text.items ++ concat (map binding_line (range_with_len l.set (made_charmaps - l.set)))
