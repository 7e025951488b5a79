-- The long form of the words, as clap sees it.
use Rattle.std.specs.Prelude.{◌≡◌, Bool, true, false, List, [], ◌∷◌, Option, Some, None, Result, Ok, Err, codes}
use Rattle.clap.specs.Words.{App, Rule, Text, new_app, new_rule, with_rule, fault_of, matches_of, Kinds, rows_of, found_of}
use Rattle.clap.specs.declared.parser.matches.ArgMatches.{ArgMatches}
use Rattle.batch_words.specs.declared.requests.Refusal.{Refusal}
use Rattle.batch_words.specs.declared.requests.Refusal.TheVariants as refusal

-- an option of one text value, which has a long name alone
abbrev pub option_rule : Text → Rule
option_rule name = record (new_rule name) { long = Some name }

-- a simple command without options, whose words don't begin with its own name
abbrev pub no_options : App
no_options = let a = new_app (codes "iconv_batch") in record a { top = record a.top { no_binary_name = true } }

-- the command of the long form
unfoldable pub the_app : App
the_app = with_rule (with_rule (with_rule (with_rule (with_rule (with_rule (with_rule (with_rule no_options
    (option_rule (codes "modules"))) (option_rule (codes "bindings")))
    (option_rule (codes "charmaps"))) (option_rule (codes "jobs")))
    (option_rule (codes "workers"))) (option_rule (codes "pages")))
    (option_rule (codes "journal"))) (option_rule (codes "generate"))

-- there is no kind among these
abbrev pub is_none_of : Kinds → Bool
is_none_of [] = true
is_none_of (k ∷ ks) = false

-- clap takes the words, as a function of the words alone
abbrev pub is_taken : List Text → Bool
is_taken words = is_none_of (fault_of the_app words)

-- what clap found in words that it takes; it refuses the others, whatever the kind of the refusal
abbrev pub Matched : List Text → Result ArgMatches Refusal → Type 0
Matched words (Ok m) = (is_taken words ≡ true) × (rows_of (found_of m) ≡ matches_of the_app words)
Matched words (Err refusal.Usage) = is_taken words ≡ false
Matched words (Err refusal.Memory) = Unit {0}
