use Rattle.std.proofs.Common.{◌≡◌, ◌-◌, ◌++◌, map}
use Rattle.std.specs.List.{concat, range_with_len}
use Rattle.batch_jobs.specs.Limits.{made_lines}
use Rattle.batch_jobs.specs.Generated.{all_mappings, mapping_line}
use Rattle.batch_jobs.proofs.made_charmaps.add_lines.Given as goal

abbrev pub invariant-lines : goal.invariant-lines
invariant-lines l = l.initial.text.items ++ all_mappings l.number l.charmap
    ≡ l.text.items ++ concat (map (mapping_line l.number l.charmap) (range_with_len l.line (made_lines - l.line)))
