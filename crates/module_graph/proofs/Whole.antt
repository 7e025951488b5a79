-- The draft of all edges.
use Rattle.std.proofs.Common.{◌≡◌, ℕ, ◌+◌, ◌*◌, ◌<◌, ◌≤◌, Bool, true, false, cond, not, List, [], ◌∷◌, ◌++◌, length, take, get_or, count_by, Option, Some, None, is_some, refl, sym, ap, ◌∙◌, subst, inl, inr, arith, append_assoc, append-nil, length-append, add-zero}
use mir.Val.{bool_byte}
use Rattle.std.specs.List.{filter_map, flat_map, enumerate_from, cons_option}
use Rattle.std.proofs.lemmas.Grind.{flat_map-append}
use Rattle.std.proofs.lemmas.List.{take_more, length-take-le}
use Rattle.std.proofs.lemmas.List.Elements.{filter_map-append}
use Rattle.std.proofs.lemmas.List.FromFn.{length-enumerate_from}
use Rattle.std.proofs.lemmas.List.Sums.{count_by-le-length, count_by_more_yes, count_by_more_no}
use Rattle.std.proofs.lemmas.Bool.{cases_Bool}
use Rattle.names_alias.specs.Builtin.{builtin_sets, internal_name}
use Rattle.modules_conf.specs.declared.lines.EdgeLine.{EdgeLine}
use Rattle.modules_conf.specs.declared.bindings.Binding.{Binding}
use Rattle.module_graph.specs.declared.draft.Draft.{Draft}
use Rattle.module_graph.specs.Edges.{NamedEdge, builtin_pair, builtin_edges, named_edges, skipped_lines, edge_of_line, kind_of_line}
use Rattle.module_graph.specs.Drafts.{IsDraft, IsRoomy}
use Rattle.module_graph.proofs.Drafting.{roomy}

-- the edges of the first built-in sets
abbrev pub builtin_upto : ℕ → List NamedEdge
builtin_upto n = flat_map builtin_pair (enumerate_from 0 (take n builtin_sets))

enumerate_push : (k : ℕ) (xs : List (List ℕ)) (y : List ℕ) → enumerate_from k (xs ++ y ∷ []) ≡ enumerate_from k xs ++ (k + length xs, y) ∷ []
enumerate_push k [] y = let e : k ≡ k + 0 = omega arith in ap (λ n. (n, y) ∷ []) e
enumerate_push k (x ∷ xs) y =
    let e : k + 1 + length xs ≡ k + length (x ∷ xs) = omega arith in
    ap (λ r. (k, x) ∷ r) (enumerate_push (k + 1) xs y ∙ ap (λ n. enumerate_from (k + 1) xs ++ (n, y) ∷ []) e)

-- the edges of one set more
pub builtin_more : (n : ℕ) → n < 6 → builtin_upto n ++ builtin_pair (n, get_or builtin_sets n []) ≡ builtin_upto (n + 1)
builtin_more n lt =
    let size : length (take n builtin_sets) ≡ n = length-take-le n builtin_sets (omega arith) in
    let once : enumerate_from 0 (take (n + 1) builtin_sets) ≡ enumerate_from 0 (take n builtin_sets) ++ (n, get_or builtin_sets n []) ∷ [] =
    ap (enumerate_from 0) (take_more builtin_sets n [] lt) ∙ enumerate_push 0 (take n builtin_sets) (get_or builtin_sets n []) ∙ ap (λ m. enumerate_from 0 (take n builtin_sets) ++ (m, get_or builtin_sets n []) ∷ []) (omega (arith, size)) in
    sym (ap (flat_map builtin_pair) once ∙ flat_map-append builtin_pair (enumerate_from 0 (take n builtin_sets)) ((n, get_or builtin_sets n []) ∷ []))

-- the step over a set whose two edges were added
pub builtin_step : (n : ℕ) (set internal : List ℕ) (d : Draft) → n < 6 → set ≡ get_or builtin_sets n [] → internal ≡ internal_name
    → IsDraft ((builtin_upto n ++ record { ordinal = 2 * n; source = set; target = internal; cost = 1; kind = None } ∷ []) ++ record { ordinal = 2 * n + 1; source = internal; target = set; cost = 1; kind = None } ∷ []) d
    → IsDraft (builtin_upto (n + 1)) d
builtin_step n set internal d lt set_is internal_is is =
    let first : NamedEdge = record { ordinal = 2 * n; source = set; target = internal; cost = 1; kind = None } in
    let next : NamedEdge = record { ordinal = 2 * n + 1; source = internal; target = set; cost = 1; kind = None } in
    let pair : first ∷ next ∷ [] ≡ builtin_pair (n, get_or builtin_sets n []) = rw (set_is, internal_is) refl in
    subst (λ es. IsDraft es d) (append_assoc (builtin_upto n) (first ∷ []) (next ∷ []) ∙ ap (λ es. builtin_upto n ++ es) pair ∙ builtin_more n lt) is

length_pairs : (sets : List (ℕ × List ℕ)) → length (flat_map builtin_pair sets) ≡ 2 * length sets
length_pairs [] = refl
length_pairs (s ∷ ss) = let ih = length_pairs ss in omega (arith, ih)

length_builtin : (n : ℕ) → n ≤ 6 → length (builtin_upto n) ≡ 2 * n
length_builtin n le =
    let size : length (take n builtin_sets) ≡ n = length-take-le n builtin_sets le in
    omega (arith, length_pairs (enumerate_from 0 (take n builtin_sets)), length-enumerate_from 0 (take n builtin_sets), size)

-- room for the edges of another set
pub builtin_room : (n : ℕ) (d : Draft) → n < 6 → IsDraft (builtin_upto n) d → IsRoomy d
builtin_room n d lt is = roomy (builtin_upto n) d is (omega (arith, length_builtin n (omega arith)))

pub builtin_room_again : (n : ℕ) (d : Draft) (e : NamedEdge) → n < 6 → IsDraft (builtin_upto n ++ e ∷ []) d → IsRoomy d
builtin_room_again n d e lt is = roomy (builtin_upto n ++ e ∷ []) d is (omega (arith, length_builtin n (omega arith), length-append (builtin_upto n) (e ∷ [])))

-- what holds after some module lines
pub record Drafted (lines : List EdgeLine) (bindings : List Binding) (d : Draft) (skipped : ℕ) : Type 0 where
  pub draft : IsDraft (named_edges lines bindings) d
  pub counted : skipped ≡ skipped_lines lines bindings

length_given : (bindings : List Binding) (lines : List EdgeLine) → length (filter_map (edge_of_line bindings) lines) ≤ length lines
length_given bindings [] = omega arith
length_given bindings (x ∷ xs) = let ih = length_given bindings xs in go (edge_of_line bindings x) (omega arith)
  where
    go : (o : Option NamedEdge) → length (filter_map (edge_of_line bindings) xs) ≤ length xs → length (cons_option o (filter_map (edge_of_line bindings) xs)) ≤ length (x ∷ xs)
    go None h = omega arith
    go (Some e) h = omega arith

twelve : length builtin_edges ≡ 12
unfolding builtin_edges
twelve = refl

-- the built-in edges, and at most one of each line
pub length_named : (lines : List EdgeLine) (bindings : List Binding) → length (named_edges lines bindings) ≤ 12 + length lines
length_named lines bindings = omega (arith, length-append builtin_edges (filter_map (edge_of_line bindings) lines), length_given bindings lines, twelve)

pub lines_room : (lines : List EdgeLine) (bindings : List Binding) (d : Draft) (skipped : ℕ) → Drafted lines bindings d skipped → length lines ≤ 16384 → IsRoomy d
lines_room lines bindings d skipped is few = roomy (named_edges lines bindings) d is.draft (omega (arith, length_named lines bindings))

-- one line more
pub line_more : (lines : List EdgeLine) (bindings : List Binding) (i : ℕ) (x : EdgeLine) (old new : Draft) (skipped later : ℕ) (added : Bool) → i < length lines
    → Drafted (take i lines) bindings old skipped
    → added ≡ is_some (kind_of_line bindings (get_or lines i x))
    → IsDraft (named_edges (take i lines) bindings ++ filter_map (edge_of_line bindings) (get_or lines i x ∷ [])) new
    → later ≡ skipped + cond (not added) 1 0
    → Drafted (take (i + 1) lines) bindings new later
line_more lines bindings i x old new skipped later added lt d a is n =
    let y = get_or lines i x in
    let skips : EdgeLine → Bool = λ line. not (is_some (kind_of_line bindings line)) in
    let more : take (i + 1) lines ≡ take i lines ++ y ∷ [] = take_more lines i x lt in
    let edges : named_edges (take (i + 1) lines) bindings ≡ named_edges (take i lines) bindings ++ filter_map (edge_of_line bindings) (y ∷ []) =
    ap (λ ls. named_edges ls bindings) more ∙ ap (λ es. builtin_edges ++ es) (filter_map-append (edge_of_line bindings) (take i lines) (y ∷ [])) ∙ sym (append_assoc builtin_edges (filter_map (edge_of_line bindings) (take i lines)) (filter_map (edge_of_line bindings) (y ∷ []))) in
    let weight : Bool → ℕ = λ b. cond b 1 0 in
    let same : not added ≡ skips y = ap not a in
    let count : count_by skips (take (i + 1) lines) ≡ count_by skips (take i lines) + weight (skips y) = elim (cases_Bool (skips y)) [
      | inl yep ↦ count_by_more_yes skips lines i x lt yep ∙ ap (λ b. count_by skips (take i lines) + weight b) (sym yep)
      | inr nope ↦ count_by_more_no skips lines i x lt nope ∙ sym (add-zero (count_by skips (take i lines))) ∙ ap (λ b. count_by skips (take i lines) + weight b) (sym nope)
    ] in
    record { draft = subst (λ es. IsDraft es new) (sym edges) is; counted = n ∙ ap (λ b. skipped + weight b) same ∙ ap (λ m. m + weight (skips y)) d.counted ∙ sym count }

-- fewer lines were passed than there are
pub few_skipped : (lines : List EdgeLine) (bindings : List Binding) (d : Draft) (skipped : ℕ) → Drafted lines bindings d skipped → skipped ≤ length lines
few_skipped lines bindings d skipped is = omega (arith, is.counted, count_by-le-length (λ (line : EdgeLine). not (is_some (kind_of_line bindings line))) lines)

-- what `u32::from` gives of a test
pub bit_is : (b : Bool) → bool_byte b ≡ cond b 1 0
bit_is true = refl
bit_is false = refl

pub bit_small : (b : Bool) → cond b 1 0 ≤ 1
bit_small true = omega arith
bit_small false = omega arith

-- before any line
pub drafted_none : (bindings : List Binding) (d : Draft) → IsDraft builtin_edges d → Drafted [] bindings d 0
drafted_none bindings d is = record { draft = subst (λ es. IsDraft es d) (sym (append-nil builtin_edges)) is; counted = refl }

-- the built-in edges are those of all six sets
pub builtin_all : builtin_upto 6 ≡ builtin_edges
unfolding builtin_edges
builtin_all = refl
