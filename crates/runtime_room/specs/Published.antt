-- What is published after a history: the pairs that were opened, each with its least chain.
use Rattle.std.specs.Prelude.{◌≡◌, ◌++◌, ℕ, Bool, false, List, [], ◌∷◌, Option, Some, None, is_some}
use Rattle.std.specs.List.{list_any}
use Rattle.chain_search.specs.declared.chain.Chain.{Chain}
use Rattle.derivation_cache.specs.Known.{Known, Extends, none_known, added, is_of, pair_of, pair_by}
use Rattle.derivation_cache.specs.declared.pair.Pair.{Pair}
use Rattle.history_core.specs.History.{History}
use Rattle.module_graph.specs.Graph.{Shape}
use Rattle.runtime_histories.specs.declared.entries.Entry.{Entry}
use Rattle.runtime_histories.specs.declared.entries.Event.{Event}
use Rattle.runtime_histories.specs.declared.entries.Event.TheVariants.{Opening, Closing}
use Rattle.runtime_histories.specs.declared.entries.Reply.{Reply}
use Rattle.runtime_histories.specs.declared.entries.Reply.TheVariants.{Opened, Refused}
use Rattle.runtime_histories.specs.declared.refusals.Asked.{Asked}
use Rattle.runtime_histories.specs.declared.refusals.Asked.TheVariants.{Good, Bad}
use Rattle.runtime_room.specs.Rooms.{entries_of}
use Rattle.runtime_room.specs.declared.desk.Noted.{Noted}

-- Two good names and a chain are a pair.
abbrev pub pair_for : Asked → Asked → Chain → Option Pair
pair_for (Good from) (Good to) chain = Some (pair_by from to chain)
pair_for (Good from) (Bad fault) chain = None
pair_for (Bad fault) to chain = None

-- The pair that was opened, with its chain.
abbrev pub pair_opened : Asked → Asked → Reply → Option Pair
pair_opened from to (Opened ordinals cost loads modules) =
    pair_for from to (record { ordinals = ordinals; cost = cost })
pair_opened from to (Refused why) = None

abbrev pub pair_in : Event → Option Pair
pair_in (Opening from to reply) = pair_opened from to reply
pair_in (Closing number) = None

-- The pair is published too, unless it is already.
abbrev pub with_pair : Known → Option Pair → Known
with_pair k None = k
with_pair k (Some p) = added k p

-- What is published after some entries more.
abbrev pub published_after : Known → List Entry → Known
published_after k [] = k
published_after k (e ∷ es) = published_after (with_pair k (pair_in e.event)) es

-- The pairs that were opened in a history, each at its first opening, in order.
abbrev pub published : Shape → History Noted → Known
published graph log = published_after (none_known graph) (entries_of log)

-- What is known of the pair of two names as asked.
abbrev pub pair_asked : Known → Asked → Asked → Option Pair
pair_asked k (Good from) (Good to) = pair_of k from to
pair_asked k (Good from) (Bad fault) = None
pair_asked k (Bad fault) to = None

-- It is the pair of these names that was opened.
abbrev pub is_named : List ℕ → List ℕ → Option Pair → Bool
is_named from to None = false
is_named from to (Some p) = is_of from to p

-- The pair was opened in a history.
abbrev pub has_opened : List ℕ → List ℕ → History Noted → Bool
has_opened from to log = list_any (λ (e : Entry). is_named from to (pair_in e.event)) (entries_of log)

-- What is published after a longer history begins with what is published after a shorter one.
abbrev pub PublishedGrows : Type 0
PublishedGrows = (graph : Shape) (front rest : History Noted)
    → Extends (published graph (front ++ rest)) (published graph front)

-- A pair is published exactly where it was opened.
abbrev pub OpenedArePublished : Type 0
OpenedArePublished = (graph : Shape) (log : History Noted) (from to : List ℕ)
    → is_some (pair_of (published graph log) from to) ≡ has_opened from to log
