use Rattle.std.proofs.Common.{◌≡◌, ◌++◌, drop}
use Rattle.batch_jobs.specs.Journals.{journal_from}
use Rattle.batch_jobs.proofs.journals.journal_text.Given as goal

abbrev pub invariant-entries : goal.invariant-entries
invariant-entries l = (journal_from 0 l.entries ≡ l.text.items ++ journal_from l.position (drop l.entry-index l.entries))
    × (l.position ≡ l.entry-index)
