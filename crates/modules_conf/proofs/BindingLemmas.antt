-- One more line of a bindings text.
use Rattle.std.proofs.Common.{◌≡◌, ℕ, ◌<◌, Bool, true, false, cond, List, [], ◌∷◌, ◌++◌, length, take, map, filter, Result, Ok, Err, refl, sym, ap, ◌∙◌}
use Rattle.std.specs.Prelude.{nat_le, ◌&&◌, ◌||◌}
use Rattle.std.specs.List.{list_any}
use Rattle.std.specs.Str.{bytes_eq}
use Rattle.std.proofs.lemmas.Bool.{lt-leb}
use Rattle.modules_conf.specs.Charmaps.{names_charmaps}
use Rattle.text_lines.specs.Words.{words}
use Rattle.modules_conf.specs.Bindings.{Row, counts, rows_among, bound_name, binding_of, binding_or_fault, kind_of_words}
use Rattle.modules_conf.specs.BindingRows.{is_name_of, with_row, with_binding, continued, with_rows, Binds, RefusesRow}
use Rattle.modules_conf.specs.Numbers.{most_lines}
use Rattle.modules_conf.specs.declared.kind.Kind.{Kind}
use Rattle.modules_conf.specs.declared.bindings.Binding.{Binding}
use Rattle.modules_conf.specs.declared.fault.BindFault.{BindFault}
use Rattle.modules_conf.specs.declared.fault.BindFault.TheVariants.{Twice, BadWord}

kept_name : (t : Bool) (line : ℕ) (name : List ℕ) (kind : Kind) (fault : BindFault) (b : Binding)
    → cond t (Ok (record { line = line; name = name; kind = kind })) (Err fault) ≡ Ok b → b.name ≡ name
kept_name true line name kind fault b is = let same : record { line = line; name = name; kind = kind } ≡ b = cc in sym (ap (λ (x : Binding). x.name) same)
kept_name false line name kind fault b is = absurd (cc)

name-binding_or_fault : (line : ℕ) (name : List ℕ) (kind : Result Kind BindFault) (b : Binding) → binding_or_fault line name kind ≡ Ok b → b.name ≡ name
name-binding_or_fault line name (Err fault) b is = absurd (cc)
name-binding_or_fault line name (Ok kind) b is = kept_name (nat_le (length name) 64 && names_charmaps kind) line name kind (BadWord line) b is

-- A binding has the name that its line binds.
pub name-binding_of : (line : ℕ) (ws : List (List ℕ)) (b : Binding) → binding_of line ws ≡ Ok b → b.name ≡ bound_name (line, ws)
name-binding_of line [] b is = absurd (cc)
name-binding_of line (name ∷ []) b is = absurd (cc)
name-binding_of line (name ∷ kind ∷ maps) b is = name-binding_or_fault line name (kind_of_words line kind maps) b is

-- A name is that of a binding where it is among the names of the bindings.
pub is_name_of-map : (done : List Binding) (name : List ℕ) → list_any (bytes_eq name) (map (λ (b : Binding). b.name) done) ≡ is_name_of done name
is_name_of-map [] name = refl
is_name_of-map (b ∷ bs) name = ap (λ t. bytes_eq name b.name || t) (is_name_of-map bs name)

with_row-at : (done : List Binding) (line : ℕ) (ws : List (List ℕ)) (b : Binding) (twice : Bool) → length done < most_lines → binding_of line ws ≡ Ok b
    → list_any (bytes_eq b.name) (map (λ (b : Binding). b.name) done) ≡ twice → with_row done (line, ws) ≡ with_binding done line twice (Ok b)
with_row-at done line ws b twice few is bound =
    let same : is_name_of done (bound_name (line, ws)) ≡ twice =
    ap (is_name_of done) (sym (name-binding_of line ws b is)) ∙ sym (is_name_of-map done b.name) ∙ bound in
    rw (lt-leb most_lines (length done) few, same, is) refl

-- A line that binds a bound name is refused.
pub with_row-twice : (done : List Binding) (line : ℕ) (ws : List (List ℕ)) (b : Binding) → length done < most_lines → binding_of line ws ≡ Ok b
    → list_any (bytes_eq b.name) (map (λ (b : Binding). b.name) done) ≡ true → with_row done (line, ws) ≡ Err (Twice line)
with_row-twice done line ws b few is bound = with_row-at done line ws b true few is bound

-- A line that binds a new name adds its binding.
pub with_row-next : (done new : List Binding) (line : ℕ) (ws : List (List ℕ)) (b : Binding) → length done < most_lines → binding_of line ws ≡ Ok b
    → list_any (bytes_eq b.name) (map (λ (b : Binding). b.name) done) ≡ false → new ≡ done ++ b ∷ [] → with_row done (line, ws) ≡ Ok new
with_row-next done new line ws b few is bound pushed = with_row-at done line ws b false few is bound ∙ ap Ok (sym pushed)

-- The first five words decide what binding words are.
pub binding_of-take : (line : ℕ) (ws : List (List ℕ)) → binding_of line (take 5 ws) ≡ binding_of line ws
binding_of-take line [] = refl
binding_of-take line (a ∷ []) = refl
binding_of-take line (a ∷ b ∷ []) = refl
binding_of-take line (a ∷ b ∷ c ∷ []) = refl
binding_of-take line (a ∷ b ∷ c ∷ d ∷ []) = refl
binding_of-take line (a ∷ b ∷ c ∷ d ∷ e ∷ more) = refl

bound_name-take : (line : ℕ) (ws : List (List ℕ)) → bound_name (line, take 5 ws) ≡ bound_name (line, ws)
bound_name-take line [] = refl
bound_name-take line (a ∷ ws) = refl

counts-take : (ws : List (List ℕ)) → counts (take 5 ws) ≡ counts ws
counts-take [] = refl
counts-take (a ∷ ws) = refl

with_row-take : (done : List Binding) (line : ℕ) (ws : List (List ℕ)) → with_row done (line, take 5 ws) ≡ with_row done (line, ws)
with_row-take done line ws = rw (binding_of-take line ws, bound_name-take line ws) refl

with_rows-counting : (done : List Binding) (line : ℕ) (ws : List (List ℕ)) (rest : List Row) (t : Bool) → counts ws ≡ t
    → with_rows (filter (λ row. counts row.1) ((line, ws) ∷ rest)) done
    ≡ with_rows (cond t ((line, ws) ∷ filter (λ row. counts row.1) rest) (filter (λ row. counts row.1) rest)) done
with_rows-counting done line ws rest t is = rw is refl

-- A line that doesn't count binds nothing.
pub Binds-none : (done : List Binding) (number : ℕ) (line : List ℕ) (front : List (List ℕ)) → front ≡ take 5 (words line) → counts front ≡ false → Binds done number line done
Binds-none done number line front is no_row = λ ps.
    with_rows-counting done number (words line) (map (λ p. (p.0, words p.1)) ps) false (sym (counts-take (words line)) ∙ ap counts (sym is) ∙ no_row)

-- A line that counts binds what its row binds.
pub Binds-row : (done new : List Binding) (number : ℕ) (line : List ℕ) (front : List (List ℕ)) → front ≡ take 5 (words line) → counts front ≡ true
    → with_row done (number, front) ≡ Ok new → Binds done number line new
unfolding with_rows
Binds-row done new number line front is row taken = λ ps.
    with_rows-counting done number (words line) (map (λ p. (p.0, words p.1)) ps) true (sym (counts-take (words line)) ∙ ap counts (sym is) ∙ row)
    ∙ ap (λ r. continued r (with_rows (rows_among ps))) (sym (with_row-take done number (words line)) ∙ ap (λ ws. with_row done (number, ws)) (sym is) ∙ taken)

-- A line that counts is refused where its row is.
pub RefusesRow-row : (done : List Binding) (number : ℕ) (line : List ℕ) (fault : BindFault) (front : List (List ℕ)) → front ≡ take 5 (words line) → counts front ≡ true
    → with_row done (number, front) ≡ Err fault → RefusesRow done number line fault
unfolding with_rows
RefusesRow-row done number line fault front is row refused = λ ps.
    with_rows-counting done number (words line) (map (λ p. (p.0, words p.1)) ps) true (sym (counts-take (words line)) ∙ ap counts (sym is) ∙ row)
    ∙ ap (λ r. continued r (with_rows (rows_among ps))) (sym (with_row-take done number (words line)) ∙ ap (λ ws. with_row done (number, ws)) (sym is) ∙ refused)
