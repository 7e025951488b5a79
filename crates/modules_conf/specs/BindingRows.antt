-- What a reader that stands between two lines of a bindings text will answer. No public clause cites it.
use Rattle.std.specs.Prelude.{◌≡◌, ℕ, Bool, nat_le, if◌then◌else◌, List, [], ◌∷◌, ◌++◌, length, Option, Some, None, Result, Ok, Err}
use Rattle.std.specs.List.{list_any}
use Rattle.std.specs.Str.{bytes_eq}
use Rattle.modules_conf.specs.Bindings.{Row, bound_name, binding_of, rows_among}
use Rattle.modules_conf.specs.Charmaps.{names_charmaps}
use Rattle.modules_conf.specs.declared.kind.Kind.{Kind}
use Rattle.modules_conf.specs.Numbers.{most_lines}
use Rattle.modules_conf.specs.declared.bindings.Binding.{Binding}
use Rattle.modules_conf.specs.declared.fault.BindFault.{BindFault}
use Rattle.modules_conf.specs.declared.fault.BindFault.TheVariants.{Twice, TooMany}

-- Whether one of these bindings has the name.
abbrev pub is_name_of : List Binding → List ℕ → Bool
is_name_of done name = list_any (λ b. bytes_eq name b.name) done

-- The bindings with one more, unless its name is bound already.
abbrev pub with_binding : List Binding → ℕ → Bool → Result Binding BindFault → Result (List Binding) BindFault
with_binding done line twice (Ok b) = if twice then Err (Twice line) else Ok (done ++ b ∷ [])
with_binding done line twice (Err fault) = Err fault

-- The bindings behind one more line that counts.
abbrev pub with_row : List Binding → Row → Result (List Binding) BindFault
with_row done row =
    if nat_le most_lines (length done) then Err (TooMany row.0)
    else with_binding done row.0 (is_name_of done (bound_name row)) (binding_of row.0 row.1)

-- What follows bindings, unless there is a fault.
abbrev pub continued : Result (List Binding) BindFault → (List Binding → Result (List Binding) BindFault)
    → Result (List Binding) BindFault
continued (Ok done) rest = rest done
continued (Err fault) rest = Err fault

-- The bindings behind all of these lines, one after another.
unfoldable pub with_rows : List Row → List Binding → Result (List Binding) BindFault
with_rows [] done = Ok done
with_rows (row ∷ rest) done = continued (with_row done row) (with_rows rest)

-- The line takes the bindings from old to new, whatever lines follow.
abbrev pub Binds : List Binding → ℕ → List ℕ → List Binding → Type 0
Binds old number line new =
    (ps : List (ℕ × List ℕ)) → with_rows (rows_among ((number, line) ∷ ps)) old ≡ with_rows (rows_among ps) new

-- The line is refused, whatever lines follow.
abbrev pub RefusesRow : List Binding → ℕ → List ℕ → BindFault → Type 0
RefusesRow old number line fault =
    (ps : List (ℕ × List ℕ)) → with_rows (rows_among ((number, line) ∷ ps)) old ≡ Err fault

-- A kind whose words name charmaps.
abbrev pub checked_kind : Result Kind BindFault → Result (Option Kind) BindFault
checked_kind (Ok kind) = Ok (if names_charmaps kind then Some kind else None)
checked_kind (Err fault) = Err fault
