-- What the entries of a journal do.
use Rattle.std.specs.Prelude.{ℕ, List, map}
use Rattle.runtime_histories.specs.declared.refusals.Asked.{Asked}
use Rattle.runtime_histories.specs.declared.refusals.Asked.TheVariants.{Good, Bad}
use Rattle.runtime_histories.specs.declared.loads.Load.{Load}
use Rattle.runtime_histories.specs.declared.entries.Reply.{Reply}
use Rattle.runtime_histories.specs.declared.entries.Reply.TheVariants.{Opened, Refused}
use Rattle.runtime_histories.specs.declared.entries.Event.{Event}
use Rattle.runtime_histories.specs.declared.entries.Event.TheVariants.{Opening, Closing}
use Rattle.runtime_histories.specs.declared.entries.Entry.{Entry}
use Rattle.runtime_histories.specs.Deeds.{Deed, opens, closes, rests, Deeds, Loaded, act}

-- What a load loaded, with the tables that contracts alone see.
abbrev pub loaded_of : Load → Loaded
loaded_of l = record { «module» = l.«module»; tables = l.tables.value }

-- The deed of an opening of a generation by two names as asked.
abbrev pub opening_of : ℕ → Asked → Asked → Reply → Deed
opening_of g (Good from) (Good to) (Opened chain cost loads modules) =
    opens (record { generation = g; from = from; to = to }) modules.value (map loaded_of loads)
opening_of g (Good from) (Good to) (Refused why) = rests
opening_of g (Good from) (Bad fault) reply = rests
opening_of g (Bad fault) to reply = rests

-- The deed of an entry. All openings are of the first generation.
abbrev pub deed_of : Event → Deed
deed_of (Opening from to reply) = opening_of 0 from to reply
deed_of (Closing number) = closes number

-- The deeds of a journal.
abbrev pub deeds : List Entry → Deeds
deeds entries = map (λ e. act e.caller (deed_of e.event)) entries
