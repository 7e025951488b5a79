use Rattle.std.proofs.Common.{◌≡◌, ◌++◌, drop}
use Rattle.std.specs.Fmt.{decimal}
use Rattle.batch_jobs.specs.Journals.{more_of}
use Rattle.batch_jobs.proofs.journals.add_more_numbers.Given as goal

abbrev pub invariant-numbers : goal.invariant-numbers
invariant-numbers l = l.initial.text.items ++ more_of decimal l.numbers
    ≡ l.text.items ++ more_of decimal (drop l.number-index l.numbers)
