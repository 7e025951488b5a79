use Rattle.std.proofs.Common.{◌≡◌, ◌++◌, drop}
use Rattle.batch_jobs.specs.Journals.{more_of, load_text}
use Rattle.batch_jobs.proofs.journals.add_more_loads.Given as goal

abbrev pub invariant-loads : goal.invariant-loads
invariant-loads l = l.initial.text.items ++ more_of load_text l.loads
    ≡ l.text.items ++ more_of load_text (drop l.load-index l.loads)
