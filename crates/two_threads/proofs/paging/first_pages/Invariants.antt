use Rattle.std.proofs.Common.{◌≡◌, ◌≤◌, ◌-◌}
use Rattle.std.specs.List.{range_with_len}
use Rattle.two_threads.proofs.paging.first_pages.Given as goal

abbrev pub invariant-loop-page : goal.invariant-loop-page
invariant-loop-page l = (l.pages.items ≡ range_with_len 0 l.page) × (l.page ≤ l.count)

abbrev pub decreases-loop-page : goal.decreases-loop-page
decreases-loop-page l = l.count - l.page
