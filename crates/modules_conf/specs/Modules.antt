-- What a gconv-modules text stands for.
use Rattle.std.specs.Prelude.{ℕ, Bool, ◌&&◌, not, ◌==◌, if◌then◌else◌, nat_le, nat_lt, List, ◌∷◌, length, Option, Some, None, is_some, Result, Ok, Err, codes, slice_get, min, count_by}
use Rattle.std.specs.List.{before_first, filter_map}
use Rattle.std.specs.Option.{option_map}
use Rattle.std.specs.Str.{bytes_eq}
use Rattle.text_lines.specs.Lines.{numbered_lines}
use Rattle.text_lines.specs.Words.{words}
use Rattle.names_alias.specs.NameForm.{normal_of}
use Rattle.modules_conf.specs.Cost.{cost_of}
use Rattle.modules_conf.specs.Numbers.{most_lines}
use Rattle.modules_conf.specs.declared.lines.EdgeLine.{EdgeLine}
use Rattle.modules_conf.specs.declared.lines.AliasLine.{AliasLine}
use Rattle.modules_conf.specs.declared.conf.Conf.{Conf}
use Rattle.modules_conf.specs.declared.fault.ConfFault.{ConfFault}
use Rattle.modules_conf.specs.declared.fault.ConfFault.TheVariants.{TooManyLines}

-- The words of a line are those before its first #.
abbrev pub conf_words : List ℕ → List (List ℕ)
conf_words line = words (before_first (λ b. b == 35) line)

-- Two names, where both are there.
abbrev pub both : {X : Type 0} → Result (List ℕ) X → Result (List ℕ) X → Option (List ℕ × List ℕ)
both (Ok a) (Ok b) = Some (a, b)
both (Ok a) (Err _) = None
both (Err _) _ = None

-- The module line between two names, where they are there and its module has at most 64 bytes.
abbrev pub edge_between : ℕ → List ℕ → List (List ℕ) → Option (List ℕ × List ℕ) → Option EdgeLine
edge_between line bound more None = None
edge_between line bound more (Some ends) =
    if nat_le (length bound) 64
    then Some (record { line = line; source = ends.0; target = ends.1; «module» = bound; cost = cost_of more })
    else None

-- Words are a module line where they are `module`, two names, a module of at most 64 bytes and
-- anything.
abbrev pub edge_line : ℕ → List (List ℕ) → Option EdgeLine
edge_line line (key ∷ source ∷ target ∷ bound ∷ more) =
    if bytes_eq key (codes "module")
    then edge_between line bound more (both (normal_of source) (normal_of target)) else None
edge_line line _ = None

-- The alias line between two names, where they are there.
abbrev pub alias_between : ℕ → Option (List ℕ × List ℕ) → Option AliasLine
alias_between line None = None
alias_between line (Some ends) = Some (record { line = line; alias = ends.0; original = ends.1 })

-- Words are an alias line where they are `alias`, two names and anything.
abbrev pub alias_line : ℕ → List (List ℕ) → Option AliasLine
alias_line line (key ∷ alias ∷ original ∷ _) =
    if bytes_eq key (codes "alias")
    then alias_between line (both (normal_of alias) (normal_of original)) else None
alias_line line _ = None

-- The module lines among numbered lines, in order.
abbrev pub edges_among : List (ℕ × List ℕ) → List EdgeLine
edges_among ps = filter_map (λ p. edge_line p.0 (conf_words p.1)) ps

-- The alias lines among numbered lines, in order.
abbrev pub aliases_among : List (ℕ × List ℕ) → List AliasLine
aliases_among ps = filter_map (λ p. alias_line p.0 (conf_words p.1)) ps

-- Words are passed over where there are some, and they are neither a module line nor an alias line.
abbrev pub is_passed : ℕ → List (List ℕ) → Bool
is_passed line ws =
    nat_lt 0 (length ws) && not (is_some (edge_line line ws)) && not (is_some (alias_line line ws))

-- How many of the numbered lines are passed over.
abbrev pub passed_among : List (ℕ × List ℕ) → ℕ
passed_among ps = count_by (λ p. is_passed p.0 (conf_words p.1)) ps

-- The module lines of a text.
abbrev pub edge_lines : List ℕ → List EdgeLine
edge_lines text = edges_among (numbered_lines text)

-- The alias lines of a text.
abbrev pub alias_lines : List ℕ → List AliasLine
alias_lines text = aliases_among (numbered_lines text)

-- How many lines of a text are passed over.
abbrev pub passed_lines : List ℕ → ℕ
passed_lines text = passed_among (numbered_lines text)

-- The smaller of two numbers, where they are there.
abbrev pub least_of : Option ℕ → Option ℕ → Option ℕ
least_of None b = b
least_of (Some a) None = Some a
least_of (Some a) (Some b) = Some (min a b)

-- The line of the first module line or alias line that is one more than the limit.
abbrev pub line_too_many : Conf → Option ℕ
line_too_many conf =
    least_of (option_map (λ e. e.line) (slice_get conf.edges most_lines))
    (option_map (λ a. a.line) (slice_get conf.aliases most_lines))

-- The fault that a line is one too many, if one is, else the configuration.
abbrev pub conf_or_fault : Option ℕ → Conf → Result Conf ConfFault
conf_or_fault None conf = Ok conf
conf_or_fault (Some line) conf = Err (TooManyLines line)

-- A configuration, or the fault of the first line of it that is one too many.
abbrev pub checked_conf : Conf → Result Conf ConfFault
checked_conf conf = conf_or_fault (line_too_many conf) conf

-- The configuration that a text stands for, unless a line is one too many.
abbrev pub conf_of : List ℕ → Result Conf ConfFault
conf_of text =
    checked_conf (record { edges = edge_lines text; aliases = alias_lines text; passed = passed_lines text })
