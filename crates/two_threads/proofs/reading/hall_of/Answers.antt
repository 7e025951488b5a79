use Rattle.std.proofs.Common.{sym, subst, ◌<◌, ◌^◌}
use Rattle.two_threads.specs.Shelves.{IsGood}
use Rattle.two_threads.proofs.reading.hall_of.Goals as goal

pub new-requires-clause-legal : goal.new-requires-clause-legal
new-requires-clause-legal c = subst IsGood (sym c.of.ensures) record {
  well_formed = c.requires.well_formed;
  numbers = c.requires.numbers;
  few = λ count is. subst (λ n. n < 2 ^ 32) is c.pages_are_counted.ensures.few;
}
