-- What a bindings text stands for.
use Rattle.std.specs.Prelude.{ℕ, Bool, false, ◌&&◌, not, ◌==◌, if◌then◌else◌, nat_le, List, [], ◌∷◌, length, take, map, filter, Option, Some, None, Result, Ok, Err, codes, slice_get, slice_index, slice_index_or}
use Rattle.std.specs.List.{list_any, filter_map, enumerate_from}
use Rattle.std.specs.Str.{bytes_eq}
use Rattle.text_lines.specs.Lines.{numbered_lines}
use Rattle.text_lines.specs.Words.{words}
use Rattle.modules_conf.specs.Charmaps.{names_charmaps}
use Rattle.modules_conf.specs.Numbers.{most_lines}
use Rattle.modules_conf.specs.declared.kind.Kind.{Kind}
use Rattle.modules_conf.specs.declared.kind.Kind.TheVariants.{Table, Iso2022Jp, Recode}
use Rattle.modules_conf.specs.declared.bindings.Binding.{Binding}
use Rattle.modules_conf.specs.declared.fault.BindFault.{BindFault}
use Rattle.modules_conf.specs.declared.fault.BindFault.TheVariants.{BadKind, WordCount, Twice, BadWord, TooMany}

-- A line by its number and its words.
abbrev pub Row : Type 0
Row = ℕ × List (List ℕ)

-- A line counts where it has a word, and that doesn't begin with #.
abbrev pub counts : List (List ℕ) → Bool
counts [] = false
counts (w ∷ _) = not (slice_index w 0 == 35)

-- The lines that count among numbered lines, in order.
abbrev pub rows_among : List (ℕ × List ℕ) → List Row
rows_among ps = filter (λ row. counts row.1) (map (λ p. (p.0, words p.1)) ps)

-- The lines of a text that count.
abbrev pub rows : List ℕ → List Row
rows text = rows_among (numbered_lines text)

-- The kind of one charmap word.
abbrev pub one_map : List (List ℕ) → Option Kind
one_map (map ∷ []) = Some (Table map)
one_map _ = None

-- The kind of two charmap words.
abbrev pub two_maps : (List ℕ → List ℕ → Kind) → List (List ℕ) → Option Kind
two_maps make (first ∷ second ∷ []) = Some (make first second)
two_maps make _ = None

-- The kind, or the fault that the line has a wrong number of words.
abbrev pub kind_or_fault : ℕ → Option Kind → Result Kind BindFault
kind_or_fault line None = Err (WordCount line)
kind_or_fault line (Some kind) = Ok kind

-- The kind that the words behind a name stand for, or what is wrong with them.
abbrev pub kind_of_words : ℕ → List ℕ → List (List ℕ) → Result Kind BindFault
kind_of_words line kind maps =
    if bytes_eq kind (codes "table") then kind_or_fault line (one_map maps)
    else (if bytes_eq kind (codes "iso2022jp") then kind_or_fault line (two_maps Iso2022Jp maps)
    else (if bytes_eq kind (codes "recode") then kind_or_fault line (two_maps Recode maps)
    else Err (BadKind line)))

-- The binding of a name by a kind, or the fault of the words: their own, or that the name has more than
-- 64 bytes or a word names no charmap.
abbrev pub binding_or_fault : ℕ → List ℕ → Result Kind BindFault → Result Binding BindFault
binding_or_fault line name (Err fault) = Err fault
binding_or_fault line name (Ok kind) =
    if nat_le (length name) 64 && names_charmaps kind
    then Ok (record { line = line; name = name; kind = kind })
    else Err (BadWord line)

-- The binding of a line that counts, or what is wrong with the line alone.
abbrev pub binding_of : ℕ → List (List ℕ) → Result Binding BindFault
binding_of line [] = Err (WordCount line)
binding_of line (name ∷ []) = Err (WordCount line)
binding_of line (name ∷ kind ∷ maps) = binding_or_fault line name (kind_of_words line kind maps)

-- The name that a line binds is its first word.
abbrev pub bound_name : Row → List ℕ
bound_name row = slice_index_or row.1 0 []

-- Whether one of these lines binds the name.
abbrev pub is_bound : List Row → List ℕ → Bool
is_bound earlier name = list_any (λ row. bytes_eq name (bound_name row)) earlier

-- The fault of a line alone, else that its name is bound twice, if it is.
abbrev pub fault_or_twice : ℕ → Bool → Result Binding BindFault → Option BindFault
fault_or_twice line twice (Ok _) = if twice then Some (Twice line) else None
fault_or_twice line twice (Err fault) = Some fault

-- The fault of the line at a place among those that count: that it is one too many, else its own,
-- else that an earlier line binds its name.
abbrev pub fault_at : List Row → ℕ → Row → Option BindFault
fault_at all place row =
    if nat_le most_lines place then Some (TooMany row.0)
    else fault_or_twice row.0 (is_bound (take place all) (bound_name row)) (binding_of row.0 row.1)

-- The fault of the first faulty line of a text.
abbrev pub bind_fault : List ℕ → Option BindFault
bind_fault text =
    slice_get (filter_map (λ p. fault_at (rows text) p.0 p.1) (enumerate_from 0 (rows text))) 0

-- The binding, if there is one.
abbrev pub ok_of : Result Binding BindFault → Option Binding
ok_of (Ok b) = Some b
ok_of (Err _) = None

-- The bindings of the lines of a text, in order.
abbrev pub bind_lines : List ℕ → List Binding
bind_lines text = filter_map (λ row. ok_of (binding_of row.0 row.1)) (rows text)

-- The fault, if there is one, else the bindings.
abbrev pub bindings_or_fault : Option BindFault → List Binding → Result (List Binding) BindFault
bindings_or_fault None bindings = Ok bindings
bindings_or_fault (Some fault) bindings = Err fault

-- The bindings that a text stands for, or its first fault.
abbrev pub bindings_of : List ℕ → Result (List Binding) BindFault
bindings_of text = bindings_or_fault (bind_fault text) (bind_lines text)
