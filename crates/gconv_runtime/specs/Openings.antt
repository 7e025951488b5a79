-- What an opening does to its caller.
use Rattle.std.specs.Prelude.{◌≡◌, ◌⊎◌, ◌+◌, ◌<◌, ◌≤◌, ℕ, true, List, [], ◌∷◌, ◌++◌, length, Some}
use Rattle.std.specs.List.{flat_map}
use Rattle.chain_recipes.specs.Recipes.{recipe_for}
use Rattle.chain_search.specs.declared.chain.Chain.{Chain}
use Rattle.chain_steps.specs.Chains.{initial}
use Rattle.chain_steps.specs.declared.recipe.Recipe.{Recipe}
use Rattle.history_core.specs.History.{History, Grows}
use Rattle.history_core.specs.declared.story.Story.{Ghosts}
use Rattle.pair_openings.specs.Answers.{snapshot}
use Rattle.pair_openings.specs.Asking.{asked_of}
use Rattle.pair_openings.specs.Entered.{entry_of}
use Rattle.runtime_histories.specs.declared.entries.Reply.{Reply}
use Rattle.runtime_histories.specs.declared.entries.Reply.TheVariants as replies
use Rattle.runtime_histories.specs.declared.loads.Load.{Load}
use Rattle.runtime_histories.specs.declared.refusals.Asked.{Asked}
use Rattle.runtime_histories.specs.declared.refusals.Asked.TheVariants.{Good, Bad}
use Rattle.runtime_histories.specs.declared.refusals.Refusal.{Refusal}
use Rattle.runtime_histories.specs.declared.refusals.Refusal.TheVariants.{JournalFull, Memory}
use Rattle.runtime_histories.specs.Charmaps.{AreTablesOf}
use Rattle.runtime_histories.specs.Deeds.{live}
use Rattle.runtime_histories.specs.Legal.{IsAnswered}
use Rattle.runtime_histories.specs.Settings.{Setting, charmaps_at}
use Rattle.runtime_room.specs.Grounds.{Ground}
use Rattle.runtime_room.specs.Published.{has_opened}
use Rattle.runtime_room.specs.Rooms.{deeds_of}
use Rattle.runtime_room.specs.declared.desk.Desk.{Desk}
use Rattle.runtime_room.specs.declared.desk.Noted.{Noted}
use Rattle.runtime_room.specs.declared.story.Room.{Room}
use Rattle.gconv_runtime.specs.Entries.{Adds}
use Rattle.gconv_runtime.specs.Owning.{tables_of}
use Rattle.gconv_runtime.specs.Tokens.{number, front, ground}
use Rattle.gconv_runtime.specs.declared.tokens.Gconv.{Gconv}
use Rattle.gconv_runtime.specs.declared.tokens.Caller.{Caller}
use Rattle.gconv_runtime.specs.declared.tokens.Descriptor.{Descriptor}

-- The entry is a caller's opening by two names as asked, with this reply.
abbrev pub IsOpening : ℕ → Asked → Asked → Reply → Noted → Type 0
IsOpening caller from to reply e = e.entry.value ≡ entry_of caller from to reply

-- The reply to two names as asked is legal after a history.
abbrev pub IsReply : Setting → History Noted → Asked → Asked → Reply → Type 0
IsReply s log from to reply = IsAnswered s s.first.graph (deeds_of log) from to reply

-- With an entry behind a history and all closings, its own too, the journal is within its limit.
abbrev pub HasRoom : Ground → History Noted → Type 0
HasRoom g log = length log + length (live (deeds_of log)) + 2 ≤ g.limit

-- It isn't.
abbrev pub LacksRoom : Ground → History Noted → Type 0
LacksRoom g log = g.limit < length log + length (live (deeds_of log)) + 2

-- The pair was opened in a history.
abbrev pub WasOpened : Asked → Asked → History Noted → Type 0
WasOpened (Good from) (Good to) log = has_opened from to log ≡ true
WasOpened (Good from) (Bad fault) log = ⊥
WasOpened (Bad fault) to log = ⊥

-- An opening that was answered by a chain.
pub record Answered : Type 0 where
  pub chain : Chain
  pub modules : List ℕ
  pub loads : List Load

-- Its reply.
abbrev pub reply_of : Answered → Reply
reply_of o = replies.Opened o.chain.ordinals o.chain.cost o.loads (snapshot o.modules)

module _ {L : Type 0} {g : Ghosts (Room L) (Desk L) Noted Ground} where
  -- What a text asks for: the name that it stands for, or why it stands for none.
  abbrev pub asked : Gconv L → Caller L (Desk L) Noted Ground g → List ℕ → Asked
  asked gconv caller text = asked_of (ground gconv caller).setting.first.aliases text

  -- The entry of the opening, if it has one, stands behind what the caller had then seen. At most one step was
  -- counted for each edge, and none where the pair was opened before.
  pub record Searches (gconv : Gconv L) (before after : Caller L (Desk L) Noted Ground g) (from to : Asked)
      (old new : ℕ) : Type 0 where
    pub seen : History Noted
    pub grows : Grows (number before) (front before) seen
    pub point : (front after ≡ seen) ⊎ ((e : Noted) × (front after ≡ seen ++ (number before, e) ∷ []))
    pub most : new ≤ old + length (ground gconv before).setting.first.graph.edges
    pub none : WasOpened from to seen → new ≡ old

  -- A pair was opened. The entry is the one that is legal next. The new descriptor's number is the entry's
  -- position, its recipe is that of the entry's chain, its states are initial, and its tables are those of the
  -- charmaps of the chain's modules.
  pub record Opens (gconv : Gconv L) (before after : Caller L (Desk L) Noted Ground g) (from to : Asked)
      (d : Descriptor) : Type 0 where
    pub answer : Answered
    pub recipe : Recipe
    pub adds : Adds before after (IsOpening (number before) from to (reply_of answer))
    pub legal : IsReply (ground gconv before).setting adds.seen from to (reply_of answer)
    pub room : HasRoom (ground gconv before) adds.seen
    pub number_is : d.number ≡ length adds.seen
    pub recipe_is : recipe_for (ground gconv before).setting.first.graph answer.chain.ordinals ≡ Some recipe
    pub runner_is : d.runner ≡ record { recipe = recipe; states = initial }
    pub read : AreTablesOf (ground gconv before).setting.source
        (flat_map (charmaps_at (ground gconv before).setting.first.graph) answer.modules)
        (tables_of gconv after d)

  -- A pair wasn't opened, and the refusal was entered: it is the one that is legal next.
  pub record Denies (gconv : Gconv L) (before after : Caller L (Desk L) Noted Ground g) (from to : Asked)
      (why : Refusal) : Type 0 where
    pub adds : Adds before after (IsOpening (number before) from to (replies.Refused why))
    pub legal : IsReply (ground gconv before).setting adds.seen from to (replies.Refused why)
    pub room : HasRoom (ground gconv before) adds.seen

  -- The caller saw what others had added, and added nothing.
  abbrev pub Sees : Caller L (Desk L) Noted Ground g → Caller L (Desk L) Noted Ground g → Type 0
  Sees before after = Grows (number before) (front before) (front after)

  -- Why a pair wasn't opened. A full journal is told exactly where it is full; that and want of memory leave no
  -- entry.
  abbrev pub Refuses : Gconv L → Caller L (Desk L) Noted Ground g → Caller L (Desk L) Noted Ground g → Asked → Asked
      → Refusal → Type 0
  Refuses gconv before after from to (JournalFull count) = Sees before after
      × (count ≡ length (front after)) × LacksRoom (ground gconv before) (front after)
  Refuses gconv before after from to Memory = Sees before after × HasRoom (ground gconv before) (front after)
  Refuses gconv before after from to why = Denies gconv before after from to why
