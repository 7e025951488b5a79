use Rattle.std.proofs.Common.{subst}
use Rattle.std.specs.Prelude.{IsSome}
use Rattle.runtime_histories.specs.Entries.{deeds}
use Rattle.conversion_book.specs.Runtime.{Runtime, held_at}
use Rattle.conversion_book.proofs.Holding.{live_held}
use Rattle.conversion_book.proofs.book.Book.is_live.Goals as goal

pub returns-clause-held : goal.returns-clause-held
returns-clause-held g c = λ yes.
    subst (λ (z : Runtime). IsSome (held_at c.args.number z.held)) c.self.view_is
    (live_held (deeds c.self.inside.counts.journal) c.args.caller c.args.number _ c.self.invariant.0.numbers (c.is_live.ensures.0 yes))
