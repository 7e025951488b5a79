use Rattle.std.proofs.Common.{◌∙◌}
use Rattle.two_threads.proofs.measure.time_pages.Goals as goal

pub take-taken-requires-clause-pages : goal.take-taken-requires-clause-pages
take-taken-requires-clause-pages g c = c.as_slice.ensures.value ∙ c.in-Some.ensures.all.numbers
