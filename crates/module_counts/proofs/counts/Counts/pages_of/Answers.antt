use Rattle.std.proofs.Common.{◌≡◌, true, ◌∙◌, sym, subst}
use Rattle.runtime_histories.specs.Deeds.{marks}
use Rattle.runtime_histories.specs.Entries.{deeds}
use Rattle.runtime_histories.specs.Residence.{resident}
use Rattle.runtime_histories.specs.Places.{pages_of, places}
use Rattle.module_counts.specs.Counting.{Booked}
use Rattle.module_counts.proofs.Asking.{row_is}
use Rattle.module_counts.proofs.counts.Counts.pages_of.Goals as goal

pub returns : goal.returns
returns c =
    subst (λ (z : Booked). c.row.result.now ≡ pages_of c.args.«module» (places z.pages (deeds z.journal))) c.self.view_is
    (c.row.ensures ∙ row_is _ c.self.inside.stock (deeds c.self.inside.journal.items) c.self.invariant.stock c.args.«module»
    (subst (λ (z : Booked). resident (marks (deeds z.journal)) c.args.«module» ≡ true) (sym c.self.view_is) c.requires))
