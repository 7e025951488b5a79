-- What an opening by two names as asked is answered.
use Rattle.std.specs.Prelude.{◌≡◌, ℕ, List, [], map}
use Rattle.std.specs.declared.snapshot.Snapshot.{Snapshot}
use Rattle.names_alias.specs.CallerNames.{IsGood, IsFault}
use Rattle.outside.specs.Moments.{Holdings}
use Rattle.runtime_histories.specs.declared.entries.Reply.{Reply}
use Rattle.runtime_histories.specs.declared.entries.Reply.TheVariants.{Opened, Refused}
use Rattle.runtime_histories.specs.declared.refusals.Asked as names
use Rattle.runtime_histories.specs.declared.refusals.Asked.TheVariants.{Good, Bad}
use Rattle.runtime_histories.specs.declared.refusals.Refusal.{Refusal}
use Rattle.runtime_histories.specs.declared.refusals.Refusal.TheVariants as refusals
use Rattle.runtime_histories.specs.Entries.{loaded_of}
use Rattle.runtime_histories.specs.Fetches.{AsksFor}
use Rattle.runtime_histories.specs.Legal.{IsAnswered}
use Rattle.runtime_histories.specs.Places.{places}
use Rattle.runtime_histories.specs.Settings.{Setting}
use Rattle.module_counts.specs.Stocks.{lists, places_for}
use Rattle.pair_openings.specs.Loading.{Ground}
use Rattle.pair_openings.specs.Plans.{IsSettled, Asked, IsBlamed, IsLost}
use Rattle.pair_openings.specs.declared.planning.Opening.{Opening}

-- A name as asked is good, or has a fault that fits.
abbrev pub IsProper : names.Asked → Type 0
IsProper (Good name) = IsGood name
IsProper (Bad fault) = IsFault fault

-- What contracts alone see.
abbrev pub snapshot : {T : Type 0} → T → Snapshot T
snapshot x = record { marker = record {}; value = x }

-- The reply of an opening that can be made.
abbrev pub reply_of : Opening → Reply
reply_of o = Opened o.chain.ordinals o.chain.cost o.loads.items (snapshot o.modules)

-- The reply is legal next in each such setting, and the library was asked for exactly what such an opening asks
-- for.
pub record Replies (g : Ground) (old new : Holdings) (from to : names.Asked) (reply : Reply) : Type 0 where
  pub more : List (List ℕ)
  pub asked : Asked old new more
  pub legal : (s : Setting) → IsSettled s g old
      → IsAnswered s g.graph g.log from to reply × AsksFor s g.graph g.log from to reply more

-- The opening is answered by its chain, and these are the places of what it loads.
pub record Answers (g : Ground) (old new : Holdings) (from to : names.Asked) (o : Opening) : Type 0 where
  pub reply : Replies g old new from to (reply_of o)
  pub placed : lists o.places.items ≡ places_for g.pages (map loaded_of o.loads.items) (places g.pages g.log)
  pub tables : map (λ l. l.tables) (map loaded_of o.loads.items) ≡ o.tables.items

-- Memory was wanting: the library was asked for a front of what such an opening asks for, which is nothing where
-- a name is bad.
abbrev pub Loses : Ground → Holdings → Holdings → names.Asked → names.Asked → Type 0
Loses g old new (Good from) (Good to) = IsLost g old new from to
Loses g old new (Good from) (Bad fault) = Asked old new []
Loses g old new (Bad fault) to = Asked old new []

-- Why the opening is refused: for the cause that the histories demand, or for want of memory.
abbrev pub Refuses : Ground → Holdings → Holdings → names.Asked → names.Asked → Refusal → Type 0
Refuses g old new from to refusals.Memory = Loses g old new from to
Refuses g old new from to why = Replies g old new from to (Refused why) × IsBlamed why old new
