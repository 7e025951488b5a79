use Rattle.std.proofs.Common.{◌≡◌, ℕ, [], length, get_or}
use Rattle.module_counts.specs.Stocks.{lists}
use Rattle.module_counts.proofs.homes.no_rows.Given as goal

abbrev pub invariant-loop : goal.invariant-loop
invariant-loop l = record {
  count : length l.rows.items ≡ l.counter;
  empty : (m : ℕ) → get_or (lists l.rows.items) m [] ≡ [];
}
