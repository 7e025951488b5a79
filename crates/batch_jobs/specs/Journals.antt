-- The text of a journal.
use Rattle.std.specs.Prelude.{ℕ, List, [], ◌∷◌, ◌++◌, map, codes}
use Rattle.std.specs.List.{concat, enumerate_from}
use Rattle.std.specs.Fmt.{decimal}
use Rattle.runtime_histories.specs.declared.refusals.Asked.{Asked}
use Rattle.runtime_histories.specs.declared.refusals.Asked.TheVariants.{Good, Bad}
use Rattle.runtime_histories.specs.declared.loads.Load.{Load}
use Rattle.runtime_histories.specs.declared.entries.Reply.{Reply}
use Rattle.runtime_histories.specs.declared.entries.Reply.TheVariants.{Opened, Refused}
use Rattle.runtime_histories.specs.declared.entries.Event.{Event}
use Rattle.runtime_histories.specs.declared.entries.Event.TheVariants.{Opening, Closing}
use Rattle.runtime_histories.specs.declared.entries.Entry.{Entry}
use Rattle.batch_jobs.specs.Jobs.{Text}
use Rattle.batch_jobs.specs.Refusals.{refusal_text}

-- The texts of items, each behind a comma.
abbrev pub more_of : {A : Type 0} → (A → Text) → List A → Text
more_of text xs = concat (map (λ x. codes "," ++ text x) xs)

-- The texts of items with commas between them.
abbrev pub joined : {A : Type 0} → (A → Text) → List A → Text
joined text [] = []
joined text (x ∷ xs) = text x ++ more_of text xs

-- A module that was loaded, and its pages.
abbrev pub load_text : Load → Text
load_text l = decimal l.«module» ++ (codes ":" ++ decimal l.pages)

-- What was loaded, or a dash for nothing.
abbrev pub loads_text : List Load → Text
loads_text [] = codes "-"
loads_text (l ∷ ls) = joined load_text (l ∷ ls)

-- What a name was resolved to, or a question mark for a bad one.
abbrev pub name_text : Asked → Text
name_text (Good name) = name
name_text (Bad fault) = codes "?"

-- What an opening was answered.
abbrev pub reply_text : Reply → Text
reply_text (Opened chain cost loaded modules) = codes "ok cost " ++ (decimal cost
    ++ (codes " chain " ++ (joined decimal chain ++ (codes " loaded " ++ loads_text loaded))))
reply_text (Refused refusal) = codes "refused " ++ refusal_text refusal

-- An opening or a closing.
abbrev pub event_text : Event → Text
event_text (Opening from to reply) = codes "open "
    ++ (name_text from ++ (codes " " ++ (name_text to ++ (codes " " ++ reply_text reply))))
event_text (Closing number) = codes "close " ++ decimal number

-- The line of the entry at this position.
abbrev pub entry_line : ℕ → Entry → Text
entry_line position e = decimal position
    ++ (codes " " ++ (decimal e.caller ++ (codes " " ++ (event_text e.event ++ codes "\n"))))

-- The lines of entries, the first of which stands at this position.
abbrev pub journal_from : ℕ → List Entry → Text
journal_from position entries = concat (map (λ p. entry_line p.0 p.1) (enumerate_from position entries))

-- The text of a journal: a line for each entry, with its position from 0.
abbrev pub journal_text : List Entry → Text
journal_text entries = journal_from 0 entries
