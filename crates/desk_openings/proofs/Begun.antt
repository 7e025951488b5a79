-- What a refusal leaves of the library.
use Rattle.std.proofs.Common.{◌≡◌, ℕ, ◌≤◌, List, ap, arith}
use Rattle.outside.specs.Moments.{Holdings}
use Rattle.module_counts.specs.Counting.{Booked}
use Rattle.pair_openings.specs.Answers.{Loses}
use Rattle.pair_openings.specs.Entered.{HasRefused}
use Rattle.pair_openings.specs.Loading.{Ground}
use Rattle.pair_openings.specs.Plans as plans
use Rattle.runtime_histories.specs.declared.refusals.Asked.{Asked}
use Rattle.runtime_histories.specs.declared.refusals.Asked.TheVariants.{Good, Bad}
use Rattle.runtime_histories.specs.declared.refusals.Refusal.{Refusal}
use Rattle.runtime_histories.specs.declared.refusals.Refusal.TheVariants.{BadName, NoConversion, LibraryFault, NoCharmap, BadCharmap, StoreFull, JournalFull, Memory}

-- The texts stay, and the count of faults doesn't fall.
pub record Grew (old new : Holdings) : Type 0 where
  pub told : new.told ≡ old.told
  pub count : old.faults ≤ new.faults

by_asked : (old new : Holdings) (more : List (List ℕ)) → plans.Asked old new more → Grew old new
by_asked old new more a = record { told = a.told; count = a.count }

lost : (g : Ground) (old new : Holdings) (from to : Asked) → Loses g old new from to → Grew old new
lost g old new (Good from) (Good to) l = by_asked old new l.more l.asked
lost g old new (Good from) (Bad f) l = record { told = l.told; count = l.count }
lost g old new (Bad f) to l = record { told = l.told; count = l.count }

same : (old new : Holdings) → new ≡ old → Grew old new
same old new e = record { told = ap (λ (z : Holdings). z.told) e; count = let q = ap (λ (z : Holdings). z.faults) e in omega arith }

grew : (directory : List ℕ) (a b : Booked) (old new : Holdings) (caller : ℕ) (from to : Asked) (why : Refusal) → HasRefused directory a b old new caller from to why → Grew old new
grew d a b old new c from to (BadName which f) h = by_asked old new h.0.replies.more h.0.replies.asked
grew d a b old new c from to NoConversion h = by_asked old new h.0.replies.more h.0.replies.asked
grew d a b old new c from to (LibraryFault m w) h = by_asked old new h.0.replies.more h.0.replies.asked
grew d a b old new c from to (NoCharmap m w) h = by_asked old new h.0.replies.more h.0.replies.asked
grew d a b old new c from to (BadCharmap m w f) h = by_asked old new h.0.replies.more h.0.replies.asked
grew d a b old new c from to (StoreFull n l) h = by_asked old new h.0.replies.more h.0.replies.asked
grew d a b old new c from to (JournalFull n) h = same old new h.2
grew d a b old new c from to Memory h = lost _ old new from to h.1

pub refused_told : (directory : List ℕ) (a b : Booked) (old new : Holdings) (caller : ℕ) (from to : Asked) (why : Refusal) → HasRefused directory a b old new caller from to why → new.told ≡ old.told
refused_told d a b old new c from to why h = (grew d a b old new c from to why h).told

pub refused_count : (directory : List ℕ) (a b : Booked) (old new : Holdings) (caller : ℕ) (from to : Asked) (why : Refusal) → HasRefused directory a b old new caller from to why → old.faults ≤ new.faults
refused_count d a b old new c from to why h = (grew d a b old new c from to why h).count
