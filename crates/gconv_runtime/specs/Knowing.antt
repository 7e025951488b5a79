-- What a caller is told of a pair.
use Rattle.std.specs.Prelude.{◌≡◌, ℕ, false, List}
use Rattle.derivation_cache.specs.Views.{TellsPair}
use Rattle.history_core.specs.History.{History}
use Rattle.module_graph.specs.Graph.{Shape}
use Rattle.runtime_histories.specs.declared.refusals.Asked.{Asked}
use Rattle.runtime_histories.specs.declared.refusals.Asked.TheVariants.{Good, Bad}
use Rattle.runtime_histories.specs.declared.refusals.End.TheVariants.{From, To}
use Rattle.runtime_room.specs.Published.{has_opened}
use Rattle.runtime_room.specs.declared.desk.Noted.{Noted}
use Rattle.gconv_runtime.specs.declared.tokens.Known.{Known}
use Rattle.gconv_runtime.specs.declared.tokens.Known.TheVariants.{Found, Unknown, BadName}

-- Of a pair of good names: its least chain; or that no opening of it stands in the history, and nothing is copied.
abbrev pub IsFoundAs : Shape → History Noted → List ℕ → List ℕ → List ℕ → List ℕ → Known → Type 0
IsFoundAs graph log from to old new (Found f) = TellsPair graph from to f old new
IsFoundAs graph log from to old new Unknown = (has_opened from to log ≡ false) × (new ≡ old)
IsFoundAs graph log from to old new (BadName which fault) = ⊥

-- Of two names as asked: a bad name is told, From before To.
abbrev pub IsKnownAs : Shape → History Noted → Asked → Asked → List ℕ → List ℕ → Known → Type 0
IsKnownAs graph log (Good from) (Good to) old new k = IsFoundAs graph log from to old new k
IsKnownAs graph log (Good from) (Bad fault) old new k = (k ≡ BadName To fault) × (new ≡ old)
IsKnownAs graph log (Bad fault) to old new k = (k ≡ BadName From fault) × (new ≡ old)
