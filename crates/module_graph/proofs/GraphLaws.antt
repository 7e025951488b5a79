-- What holds of every graph of a configuration.
use Rattle.std.proofs.Common.{◌≡◌, ℕ, suc, ◌<◌, Bool, true, false, if◌then◌else◌, eqb, List, [], ◌∷◌, ◌++◌, length, get_or, Option, Some, None, IfSome, unwrap_or, refl, sym, ap, ◌∙◌, subst, arith}
use Rattle.std.specs.List.{All, Contains, list_any, find, filter_map, cons_option}
use Rattle.std.specs.Option.{option_map}
use Rattle.std.specs.Str.{bytes_eq}
use Rattle.std.proofs.lemmas.List.Elements.{All-nil, All-cons, All-append}
use Rattle.std.proofs.lemmas.Option.{none-some}
use Rattle.modules_conf.specs.Charmaps.{names_charmaps}
use Rattle.modules_conf.specs.declared.kind.Kind.{Kind}
use Rattle.modules_conf.specs.declared.lines.EdgeLine.{EdgeLine}
use Rattle.modules_conf.specs.declared.bindings.Binding.{Binding}
use Rattle.module_graph.specs.declared.edge.Edge.{Edge}
use Rattle.module_graph.specs.Edges.{NamedEdge, builtin_pair, builtin_edges, named_edges, kind_bound, kind_of_line, if_allowed, allows, edge_by, edge_of_line}
use Rattle.module_graph.specs.Graph.{Shape, IsGraph, IsKnown}
use Rattle.module_graph.specs.Numbers.{same_kind, with_new, kinds_after, graph_of}
use Rattle.module_graph.proofs.OrdinalSearch.{find_there}

-- an edge is found by its ordinal
pub found : (g : Shape) (e : Edge) → IsGraph g → Contains g.edges e → find (λ f. eqb f.ordinal e.ordinal) g.edges ≡ Some e
found g e ok c = find_there g.edges ok.rising e.ordinal c.0 e c.1 (ap (λ x. x.ordinal) c.2) ∙ ap Some c.2

-- What holds of all edges holds of one that is found.
pub found_holds : (P : Edge → Type 0) (p : Edge → Bool) (es : List Edge) (e : Edge) → All P es → find p es ≡ Some e → P e
found_holds P p [] e all is = absurd (none-some e is)
found_holds P p (x ∷ xs) e all is = go (λ z. found_holds P p xs e (λ k d fit. all (suc k) d (omega (arith, fit))) z) (p x) is
  where
    go : (find p xs ≡ Some e → P e) → (t : Bool) → (if t then Some x else find p xs) ≡ Some e → P e
    go rec true z = subst P (ap (λ (o : Option Edge). unwrap_or o x) z) (all 0 x (omega arith))
    go rec false z = rec z

-- The module of an edge that is found is one of the graph's.
pub known_found : (g : Shape) (o : ℕ) (e : Edge) → IsGraph g → find (λ (x : Edge). eqb x.ordinal o) g.edges ≡ Some e → IsKnown (length g.kinds) e
known_found g o e ok is = found_holds (IsKnown (length g.kinds)) (λ (x : Edge). eqb x.ordinal o) g.edges e ok.known is

abbrev Names : Kind → Type 0
Names kind = names_charmaps kind ≡ true

-- if there is a kind, its words name charmaps
abbrev MayName : Option Kind → Type 0
MayName o = IfSome o Names

insert_names : (ks : List Kind) (k : Kind) → All Names ks → Names k → (b : Bool) → All Names (if b then ks else ks ++ k ∷ [])
insert_names ks k h n true = h
insert_names ks k h n false = All-append Names ks (k ∷ []) h (All-cons Names k [] n (All-nil Names))

with_new_names : (seen xs : List Kind) → All Names seen → All Names xs → All Names (with_new same_kind seen xs)
with_new_names seen [] h a = h
with_new_names seen (x ∷ xs) h a =
    with_new_names (if list_any (same_kind x) seen then seen else seen ++ x ∷ []) xs
    (insert_names seen x h (a 0 x (omega arith)) (list_any (same_kind x) seen)) (λ k d fit. a (suc k) d (omega (arith, fit)))

bound_names : (bs : List Binding) (name : List ℕ) → All (λ (b : Binding). Names b.kind) bs → MayName (kind_bound bs name)
bound_names [] name h = tt
bound_names (b ∷ bs) name h = go (bytes_eq b.name name) (bound_names bs name (λ k d fit. h (suc k) d (omega (arith, fit))))
  where
    go : (t : Bool) → MayName (kind_bound bs name) → MayName (option_map (λ (x : Binding). x.kind) (if t then Some b else find (λ (x : Binding). bytes_eq x.name name) bs))
    go true rest = h 0 b (omega arith)
    go false rest = rest

allowed_names : (line : EdgeLine) (o : Option Kind) → MayName o → MayName (if_allowed line o)
allowed_names line None h = tt
allowed_names line (Some kind) h = go (allows line kind)
  where
    go : (t : Bool) → MayName (if t then Some kind else None)
    go true = h
    go false = tt

abbrev kinds_in : List NamedEdge → List Kind
kinds_in es = filter_map (λ e. e.kind) es

cons_names : (o : Option Kind) (ks : List Kind) → MayName o → All Names ks → All Names (cons_option o ks)
cons_names None ks h a = a
cons_names (Some k) ks h a = All-cons Names k ks h a

lines_names : (bs : List Binding) (lines : List EdgeLine) → All (λ (b : Binding). Names b.kind) bs → All Names (kinds_in (filter_map (edge_of_line bs) lines))
lines_names bs [] h = All-nil Names
lines_names bs (l ∷ ls) h = go (kind_of_line bs l) (allowed_names l (kind_bound bs l.«module») (bound_names bs l.«module» h)) (lines_names bs ls h)
  where
    go : (o : Option Kind) → MayName o → All Names (kinds_in (filter_map (edge_of_line bs) ls)) → All Names (kinds_in (cons_option (option_map (edge_by l) o) (filter_map (edge_of_line bs) ls)))
    go None n rest = rest
    go (Some kind) n rest = All-cons Names kind (kinds_in (filter_map (edge_of_line bs) ls)) n rest

builtin_none : (ys : List NamedEdge) → kinds_in (builtin_edges ++ ys) ≡ kinds_in ys
unfolding builtin_edges
builtin_none ys = refl

-- the words of modules name charmaps where those of bindings do
pub charmaps_named : (lines : List EdgeLine) (bs : List Binding) → All (λ (b : Binding). Names b.kind) bs → All Names (graph_of lines bs).kinds
charmaps_named lines bs h =
    with_new_names [] (kinds_in (named_edges lines bs)) (All-nil Names) (subst (All Names) (sym (builtin_none (filter_map (edge_of_line bs) lines))) (lines_names bs lines h))
