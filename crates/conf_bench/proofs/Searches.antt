-- The counts of some searches.
use Rattle.std.proofs.Common.{ℕ, ◌+◌, ◌*◌, ◌≤◌, arith}

-- each search finds one chain at most, and looks at each edge once at most
pub record Counted (found search start steps edges : ℕ) : Type 0 where
  pub found_of : found ≤ search
  pub looked : steps ≤ start + search * edges

-- one search more
pub counted_more : (found later search start steps after edges : ℕ) → Counted found search start steps edges → later ≤ found + 1 → after ≤ steps + edges → Counted later (search + 1) start after edges
counted_more found later search start steps after edges c f n = record { found_of = omega (arith, c.found_of); looked = grind (arith, c.looked) }

pub counted_less : (found search start steps edges total : ℕ) → Counted found search start steps edges → search ≤ total → steps ≤ start + total * edges
counted_less found search start steps edges total c le = grind (arith, c.looked)

-- the count after a search that was cut off
pub counted_part : (found search start steps after edges total : ℕ) → Counted found search start steps edges → search + 1 ≤ total → after ≤ steps + edges → after ≤ start + total * edges
counted_part found search start steps after edges total c lt n = counted_less found (search + 1) start after edges total (counted_more found found search start steps after edges c (omega arith) n) lt
