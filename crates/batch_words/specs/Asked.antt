-- What the words of the program ask for.
use Rattle.std.specs.Prelude.{◌≡◌, ◌==◌, ◌&&◌, ◌||◌, ◌≤◌, ℕ, Bool, true, false, nat_le, List, [], length, Option, Some, None, Result, Ok, Err, if◌then◌else◌, codes, is_some, option_map, slice_index_or, string_bytes}
use Rattle.std.specs.Str.{bytes_eq}
use Rattle.std.specs.Borrow.{Bor}
use Rattle.clap.specs.Words.{Text, matches_of, Row, first_of}
use Rattle.batch_words.specs.Command.{the_app, is_taken}
use Rattle.batch_words.specs.Numbers.{number_in, number_or}
use Rattle.batch_words.specs.Limits.{longest_name, most_pages, usual_pages, most_workers, usual_workers, most_number}
use Rattle.batch_words.specs.declared.requests.Plan.{Plan}
use Rattle.batch_words.specs.declared.requests.PlanSource.{PlanSource}
use Rattle.batch_words.specs.declared.requests.PlanSource.TheVariants as plan
use Rattle.batch_words.specs.declared.requests.Words.{Words}
use Rattle.batch_words.specs.declared.requests.Refusal.{Refusal}
use Rattle.batch_words.specs.declared.requests.Refusal.TheVariants as refusal

-- where the jobs come from: four texts, a job by itself, or the input that is made for a number
pub data Source : Type 0 where
  Texts : Text → Text → Text → Text → Source
  Single : Text → Text → Text → Text → Source
  Generated : ℕ → Source

-- what words ask for: the jobs, the pages of the store, a file for the journal, and workers
pub record Request : Type 0 where
  pub source : Source
  pub pages : ℕ
  pub journal : Option Text
  pub workers : ℕ

-- what contracts see of a source
abbrev pub source_of : PlanSource → Source
source_of (plan.Texts a b c d) =
    Texts (string_bytes a) (string_bytes b) (string_bytes c) (string_bytes d)
source_of (plan.Single a b c d) = Single a.items b.items (string_bytes c) (string_bytes d)
source_of (plan.Generated n) = Generated n

-- what contracts see of a plan that goes to so many workers
abbrev pub plan_of : Plan → ℕ → Request
plan_of p workers = record {
  source = source_of p.source;
  pages = p.pages;
  journal = option_map string_bytes p.journal;
  workers = workers;
}

-- what contracts see of what the words ask for
abbrev pub request_of : Words → Request
request_of w = plan_of w.plan w.workers

-- names are no longer than they may be, and a number for an input is one of 1 to 1,000
abbrev pub IsWithin : Source → Type 0
IsWithin (Texts a b c d) = Unit {0}
IsWithin (Single from to input output) = (length from ≤ longest_name) × (length to ≤ longest_name)
IsWithin (Generated n) = (1 ≤ n) × (n ≤ most_number)

-- an answer of a call that reads: what was asked, that nothing was, or want of memory
abbrev pub Answers : {T M : Type 0} → Option M → (T → M) → Result T Refusal → Type 0
Answers asked model (Ok t) = asked ≡ Some (model t)
Answers asked model (Err refusal.Usage) = asked ≡ None
Answers asked model (Err refusal.Memory) = Unit {0}

-- the four texts go together
abbrev pub texts_asked : Option Text → Option Text → Option Text → Option Text → Option Source
texts_asked (Some a) (Some b) (Some c) (Some d) = Some (Texts a b c d)
texts_asked _ _ _ _ = None

-- a made input stands alone, without the texts and a journal's file
abbrev pub generated_asked : Bool → Text → Option Source
generated_asked true text = None
generated_asked false text = option_map Generated (number_in 1 most_number text)

-- the source, by the number to generate, the four texts and the journal's file
abbrev pub source_asked : Option Text → Option Text → Option Text → Option Text → Option Text
    → Option Text → Option Source
source_asked None a b c d journal = texts_asked a b c d
source_asked (Some text) a b c d journal = generated_asked
    (is_some a || (is_some b || (is_some c || (is_some d || is_some journal)))) text

-- the source that the values of a long form ask for
abbrev pub source_given : List Row → Option Source
source_given rows = source_asked (first_of (codes "generate") rows)
    (first_of (codes "modules") rows) (first_of (codes "bindings") rows)
    (first_of (codes "charmaps") rows) (first_of (codes "jobs") rows)
    (first_of (codes "journal") rows)

-- a request, where its numbers are within their limits
abbrev pub with_numbers : Option Source → Option ℕ → Option ℕ → Option Text → Option Request
with_numbers (Some source) (Some pages) (Some workers) journal =
    Some (record { source = source; pages = pages; journal = journal; workers = workers })
with_numbers _ _ _ journal = None

-- what the values of a long form ask for
unfoldable pub long_asked : List Row → Option Request
long_asked rows = with_numbers (source_given rows)
    (number_or usual_pages most_pages (first_of (codes "pages") rows))
    (number_or usual_workers most_workers (first_of (codes "workers") rows))
    (first_of (codes "journal") rows)

-- what words in the long form ask for
unfoldable pub long_form : List Text → Option Request
long_form words = if is_taken words then long_asked (matches_of the_app words) else None

-- a borrowed text, if there is one
abbrev pub text_in : Option (Bor Text) → Option Text
text_in = option_map (λ s. s.now)

-- the word at a place, from 0
abbrev pub word : List Text → ℕ → Text
word words k = slice_index_or words k []

-- the short form is `-f FROM -t TO IN OUT`, whatever the other words are
abbrev pub is_short : List Text → Bool
is_short words = length words == 6
    && (bytes_eq (word words 0) (codes "-f") && bytes_eq (word words 2) (codes "-t"))

-- what words in the short form ask for: one job, without pages and without workers
unfoldable pub short_asked : List Text → Option Request
short_asked words =
    if nat_le (length (word words 1)) longest_name && nat_le (length (word words 3)) longest_name
    then Some (record {
      source = Single (word words 1) (word words 3) (word words 4) (word words 5);
      pages = 0;
      journal = None;
      workers = 0;
    }) else None

-- what the words ask for, if they are a command
unfoldable pub asked : List Text → Option Request
asked words = if is_short words then short_asked words else long_form words
