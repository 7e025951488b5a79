use Rattle.std.proofs.Common.{◌≡◌, drop}
use Rattle.module_counts.specs.Stocks.{lists}
use Rattle.desk_openings.specs.Pinning.{given_to}
use Rattle.desk_openings.proofs.pins.given_pages.Given as goal

abbrev pub invariant-loop-place : goal.invariant-loop-place
invariant-loop-place l = record {
  same : given_to l.«module» l.loads (lists l.places) ≡ given_to l.«module» (drop l.place l.loads) (drop l.place (lists l.places));
}
