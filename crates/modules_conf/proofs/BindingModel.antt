-- Reading one line after another gives what the model of a bindings text says.
use Rattle.std.proofs.Common.{◌≡◌, ◌≢◌, ℕ, zero, suc, ◌+◌, ◌<◌, Bool, true, false, cond, List, [], ◌∷◌, ◌++◌, length, get_or, take, Some, Result, Ok, Err, refl, sym, ap, subst, ◌∙◌, arith, append-nil, append_assoc, length-append}
use Rattle.std.specs.Prelude.{nat_le, slice_get, ◌&&◌, ◌||◌}
use Rattle.std.specs.List.{filter_map, cons_option, enumerate_from}
use Rattle.std.specs.Str.{bytes_eq}
use Rattle.std.proofs.Math.Seq.{take-append_seam}
use Rattle.std.proofs.lemmas.List.Elements.{All-nil, All-push}
use Rattle.std.proofs.lemmas.List.Folds.{list_any-append}
use Rattle.std.proofs.lemmas.List.Quantifiers.{all_pairs_push}
use Rattle.std.proofs.lemmas.Slice.Eq.{bytes_eq-Decides}
use Rattle.modules_conf.specs.Charmaps.{names_charmaps}
use Rattle.modules_conf.specs.Bindings.{Row, rows, bound_name, binding_of, binding_or_fault, kind_of_words, is_bound, fault_or_twice, fault_at, ok_of, bindings_or_fault, bindings_of}
use Rattle.modules_conf.specs.BindingRows.{is_name_of, with_row, with_binding, continued, with_rows}
use Rattle.modules_conf.specs.Limits.{AreSound}
use Rattle.modules_conf.specs.Numbers.{most_lines}
use Rattle.modules_conf.specs.declared.kind.Kind.{Kind}
use Rattle.modules_conf.specs.declared.bindings.Binding.{Binding}
use Rattle.modules_conf.specs.declared.fault.BindFault.{BindFault}
use Rattle.modules_conf.specs.declared.fault.BindFault.TheVariants.{TooMany, BadWord}
use Rattle.modules_conf.proofs.BindingLemmas.{name-binding_of}

one_row : (many twice : Bool) (line : ℕ) (read : Result Binding BindFault) (done : List Binding) (faults : List BindFault) (oks : List Binding)
    (rest : List Binding → Result (List Binding) BindFault)
    → ((b : Binding) → read ≡ Ok b → bindings_or_fault (slice_get faults 0) ((done ++ b ∷ []) ++ oks) ≡ rest (done ++ b ∷ []))
    → bindings_or_fault (slice_get (cons_option (cond many (Some (TooMany line)) (fault_or_twice line twice read)) faults) 0) (done ++ cons_option (ok_of read) oks)
    ≡ continued (cond many (Err (TooMany line)) (with_binding done line twice read)) rest
one_row true twice line read done faults oks rest more = refl
one_row false twice line (Err fault) done faults oks rest more = refl
one_row false true line (Ok b) done faults oks rest more = refl
one_row false false line (Ok b) done faults oks rest more = ap (bindings_or_fault (slice_get faults 0)) (sym (append_assoc done (b ∷ []) oks)) ∙ more b refl

-- The names of the lines that were read are those of the bindings that they gave.
abbrev SameNames : List Row → List Binding → Type 0
SameNames read done = (name : List ℕ) → is_bound read name ≡ is_name_of done name

SameNames-push : (read : List Row) (done : List Binding) (row : Row) (b : Binding) → SameNames read done → b.name ≡ bound_name row → SameNames (read ++ row ∷ []) (done ++ b ∷ [])
SameNames-push read done row b same is = λ name.
    list_any-append (λ r. bytes_eq name (bound_name r)) read (row ∷ [])
    ∙ ap (λ t. t || (bytes_eq name (bound_name row) || false)) (same name)
    ∙ ap (λ n. is_name_of done name || (bytes_eq name n || false)) (sym is)
    ∙ sym (list_any-append (λ (x : Binding). bytes_eq name x.name) done (b ∷ []))

fault_here : (all read rest : List Row) (row : Row) (done : List Binding) (n : ℕ) → all ≡ read ++ row ∷ rest → n ≡ length read → n ≡ length done → SameNames read done
    → fault_at all n row ≡ cond (nat_le most_lines (length done)) (Some (TooMany row.0)) (fault_or_twice row.0 (is_name_of done (bound_name row)) (binding_of row.0 row.1))
fault_here all read rest row done n is at count same =
    let front : take n all ≡ read = ap (λ k. take k all) at ∙ ap (take (length read)) is ∙ take-append_seam read (row ∷ rest) in
    ap (λ before. cond (nat_le most_lines n) (Some (TooMany row.0)) (fault_or_twice row.0 (is_bound before (bound_name row)) (binding_of row.0 row.1))) front
    ∙ ap (λ t. cond (nat_le most_lines n) (Some (TooMany row.0)) (fault_or_twice row.0 t (binding_of row.0 row.1))) (same (bound_name row))
    ∙ ap (λ k. cond (nat_le most_lines k) (Some (TooMany row.0)) (fault_or_twice row.0 (is_name_of done (bound_name row)) (binding_of row.0 row.1))) count

with_rows-left : (all read rest : List Row) (done : List Binding) (n : ℕ) → all ≡ read ++ rest → n ≡ length read → n ≡ length done → SameNames read done
    → bindings_or_fault (slice_get (filter_map (λ p. fault_at all p.0 p.1) (enumerate_from n rest)) 0) (done ++ filter_map (λ row. ok_of (binding_of row.0 row.1)) rest) ≡ with_rows rest done
unfolding with_rows
with_rows-left all read [] done n is at count same = ap Ok (append-nil done)
with_rows-left all read (row ∷ rest) done n is at count same =
    let faults : List BindFault = filter_map (λ p. fault_at all p.0 p.1) (enumerate_from (n + 1) rest) in
    let oks : List Binding = filter_map (λ row. ok_of (binding_of row.0 row.1)) rest in
    ap (λ o. bindings_or_fault (slice_get (cons_option o faults) 0) (done ++ cons_option (ok_of (binding_of row.0 row.1)) oks)) (fault_here all read rest row done n is at count same)
    ∙ one_row (nat_le most_lines (length done)) (is_name_of done (bound_name row)) row.0 (binding_of row.0 row.1) done faults oks (with_rows rest)
    (λ b read_as. with_rows-left all (read ++ row ∷ []) rest (done ++ b ∷ []) (n + 1) (is ∙ sym (append_assoc read (row ∷ []) rest))
    (omega (arith, length-append read (row ∷ []))) (omega (arith, length-append done (b ∷ [])))
    (SameNames-push read done row b same (name-binding_of row.0 row.1 b read_as)))

-- The model of a text is what its lines give, one after another.
pub bindings_of-rows : (text : List ℕ) → bindings_of text ≡ with_rows (rows text) []
bindings_of-rows text = with_rows-left (rows text) [] (rows text) [] 0 refl refl refl (λ name. refl)

-- At the end nothing is left.
pub with_rows-end : (done : List Binding) → with_rows [] done ≡ Ok done
unfolding with_rows
with_rows-end done = refl

charmaps_kept : (t : Bool) (line : ℕ) (name : List ℕ) (kind : Kind) (fault : BindFault) (b : Binding)
    → cond (t && names_charmaps kind) (Ok (record { line = line; name = name; kind = kind })) (Err fault) ≡ Ok b → names_charmaps b.kind ≡ true
charmaps_kept t line name kind fault b is = at t (names_charmaps kind) refl is
  where
    at : (t u : Bool) → names_charmaps kind ≡ u → cond (t && u) (Ok (record { line = line; name = name; kind = kind })) (Err fault) ≡ Ok b → names_charmaps b.kind ≡ true
    at true true u is = let same : record { line = line; name = name; kind = kind } ≡ b = cc in ap (λ (x : Binding). names_charmaps x.kind) (sym same) ∙ u
    at true false u is = absurd (cc)
    at false u e is = absurd (cc)

charmaps-binding_or_fault : (line : ℕ) (name : List ℕ) (kind : Result Kind BindFault) (b : Binding) → binding_or_fault line name kind ≡ Ok b → names_charmaps b.kind ≡ true
charmaps-binding_or_fault line name (Err fault) b is = absurd (cc)
charmaps-binding_or_fault line name (Ok kind) b is = charmaps_kept (nat_le (length name) 64) line name kind (BadWord line) b is

charmaps-binding_of : (line : ℕ) (ws : List (List ℕ)) (b : Binding) → binding_of line ws ≡ Ok b → names_charmaps b.kind ≡ true
charmaps-binding_of line [] b is = absurd (cc)
charmaps-binding_of line (name ∷ []) b is = absurd (cc)
charmaps-binding_of line (name ∷ kind ∷ maps) b is = charmaps-binding_or_fault line name (kind_of_words line kind maps) b is

-- A name that is no binding's differs from each.
other_names : (done : List Binding) (name : List ℕ) → is_name_of done name ≡ false → (k : ℕ) (d : Binding) → k < length done → (get_or done k d).name ≢ name
other_names [] name free k d lt = absurd (omega arith)
other_names (b ∷ bs) name free zero d lt = λ same. absurd (first (bytes_eq name b.name) free ((bytes_eq-Decides name b.name).1 (sym same)))
  where
    first : (t : Bool) → (t || is_name_of bs name) ≡ false → t ≡ true → ⊥
    first true free is = cc
    first false free is = cc
other_names (b ∷ bs) name free (suc k) d lt = other_names bs name (later (bytes_eq name b.name) free) k d (omega arith)
  where
    later : (t : Bool) → (t || is_name_of bs name) ≡ false → is_name_of bs name ≡ false
    later true free = absurd (cc)
    later false free = free

AreSound-push : (done : List Binding) (b : Binding) → AreSound done → is_name_of done b.name ≡ false → names_charmaps b.kind ≡ true → AreSound (done ++ b ∷ [])
AreSound-push done b sound free charmaps = record {
  distinct = all_pairs_push (λ (x y : Binding). x.name ≢ y.name) done b sound.distinct (other_names done b.name free);
  charmaps = All-push (λ (x : Binding). names_charmaps x.kind ≡ true) done b sound.charmaps charmaps;
}

AreSound-unless : (done more : List Binding) (line : ℕ) (ws : List (List ℕ)) (twice : Bool) (read : Result Binding BindFault) → AreSound done → binding_of line ws ≡ read
    → is_name_of done (bound_name (line, ws)) ≡ twice → with_binding done line twice read ≡ Ok more → AreSound more
AreSound-unless done more line ws twice (Err fault) sound is bound taken = absurd (cc)
AreSound-unless done more line ws true (Ok b) sound is bound taken = absurd (cc)
AreSound-unless done more line ws false (Ok b) sound is bound taken =
    let same : done ++ b ∷ [] ≡ more = cc in
    subst AreSound same (AreSound-push done b sound (ap (is_name_of done) (name-binding_of line ws b is) ∙ bound) (charmaps-binding_of line ws b is))

AreSound-row : (done more : List Binding) (row : Row) (many : Bool) → AreSound done
    → cond many (Err (TooMany row.0)) (with_binding done row.0 (is_name_of done (bound_name row)) (binding_of row.0 row.1)) ≡ Ok more → AreSound more
AreSound-row done more row true sound taken = absurd (cc)
AreSound-row done more row false sound taken = AreSound-unless done more row.0 row.1 (is_name_of done (bound_name row)) (binding_of row.0 row.1) sound refl refl taken

AreSound-rest : (r : Result (List Binding) BindFault) (rest : List Binding → Result (List Binding) BindFault) (bs : List Binding)
    → ((more : List Binding) → r ≡ Ok more → rest more ≡ Ok bs → AreSound bs) → continued r rest ≡ Ok bs → AreSound bs
AreSound-rest (Ok more) rest bs sound is = sound more refl is
AreSound-rest (Err fault) rest bs sound is = absurd (cc)

AreSound-with_rows : (rest : List Row) (done bs : List Binding) → AreSound done → with_rows rest done ≡ Ok bs → AreSound bs
unfolding with_rows
AreSound-with_rows [] done bs sound is = let same : done ≡ bs = cc in subst AreSound same sound
AreSound-with_rows (row ∷ rest) done bs sound is =
    AreSound-rest (with_row done row) (with_rows rest) bs
    (λ more taken left. AreSound-with_rows rest more bs (AreSound-row done more row (nat_le most_lines (length done)) sound taken) left) is

-- The bindings that a text stands for are sound.
pub AreSound-bindings_of : (text : List ℕ) (bs : List Binding) → bindings_of text ≡ Ok bs → AreSound bs
AreSound-bindings_of text bs is =
    AreSound-with_rows (rows text) [] bs (record { distinct = λ i j d below lt. absurd (omega arith); charmaps = All-nil (λ (x : Binding). names_charmaps x.kind ≡ true) })
    (sym (bindings_of-rows text) ∙ is)
