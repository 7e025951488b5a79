-- What adding an edge does to a draft.
use Rattle.std.proofs.Common.{◌≡◌, ℕ, ◌+◌, ◌*◌, ◌^◌, ◌<◌, ◌≤◌, true, List, [], ◌∷◌, ◌++◌, length, map, position, Option, Some, None, unwrap_or, refl, sym, ap, ◌∙◌, subst, arith}
use Rattle.std.specs.List.{list_any, position_or_len, filter_map, flat_map, cons_option}
use Rattle.std.specs.Option.{option_and_then}
use Rattle.std.specs.Str.{bytes_eq}
use Rattle.std.proofs.lemmas.Grind.{flat_map-append}
use Rattle.std.proofs.lemmas.List.{map-append}
use Rattle.std.proofs.lemmas.Slice.Eq.{bytes_eq-Decides}
use Rattle.std.proofs.lemmas.List.Elements.{filter_map-append}
use Rattle.indexmap.specs.IndexSet.{insert_key}
use Rattle.modules_conf.specs.declared.kind.Kind.{Kind}
use Rattle.modules_conf.specs.declared.kind.Kind.TheVariants.{Table, Iso2022Jp, Recode}
use Rattle.module_graph.specs.declared.draft.Draft.{Draft}
use Rattle.module_graph.specs.Edges.{NamedEdge}
use Rattle.module_graph.specs.Numbers.{with_new, same_kind, node_names, kinds_after, node_number, numbered}
use Rattle.module_graph.specs.Drafts.{IsDraft, IsRoomy, NumbersKind}
use Rattle.module_graph.proofs.Firsts.{Grows, grows_refl, grows_trans, grows_insert, grows_with_new, inserted_has, position_inserted, with_new-append, length_with_new}

pub bytes_itself : (bytes : List ℕ) → bytes_eq bytes bytes ≡ true
bytes_itself bytes = (bytes_eq-Decides bytes bytes).1 refl

pub kind_itself : (kind : Kind) → same_kind kind kind ≡ true
kind_itself (Table a) = bytes_itself a
kind_itself (Iso2022Jp a b) = rw (bytes_itself a, bytes_itself b) refl
kind_itself (Recode a b) = rw (bytes_itself a, bytes_itself b) refl

abbrev ends_of : NamedEdge → List (List ℕ)
ends_of e = e.source ∷ e.target ∷ []

abbrev kind_in : NamedEdge → Option Kind
kind_in e = e.kind

abbrev pub HasKind : List Kind → Option Kind → Type 0
HasKind kinds None = Unit {0}
HasKind kinds (Some kind) = list_any (same_kind kind) kinds ≡ true

-- the ends and the kind of an edge are among these nodes and modules
pub record IsIn (nodes : List (List ℕ)) (kinds : List Kind) (e : NamedEdge) : Type 0 where
  pub source : list_any (bytes_eq e.source) nodes ≡ true
  pub target : list_any (bytes_eq e.target) nodes ≡ true
  pub kind : HasKind kinds e.kind

abbrev pub AllIn : List (List ℕ) → List Kind → List NamedEdge → Type 0
AllIn nodes kinds [] = Unit {0}
AllIn nodes kinds (e ∷ es) = IsIn nodes kinds e × AllIn nodes kinds es

GrowsNodes : List (List ℕ) → List (List ℕ) → Type 0
GrowsNodes = Grows bytes_eq bytes_itself

kind_there : (seen : List Kind) (kind : Option Kind) (rest : List Kind) → HasKind (with_new same_kind seen (cons_option kind rest)) kind
kind_there seen None rest = tt
kind_there seen (Some kind) rest = (grows_with_new same_kind kind_itself (insert_key same_kind seen kind) rest).kept kind (inserted_has same_kind kind_itself seen kind)

-- the elements that are there before the kind is
before_kind : (seen : List Kind) (kind : Option Kind) → List Kind
before_kind seen None = seen
before_kind seen (Some kind) = insert_key same_kind seen kind

after_kind : (seen : List Kind) (kind : Option Kind) (rest : List Kind) → with_new same_kind seen (cons_option kind rest) ≡ with_new same_kind (before_kind seen kind) rest
unfolding before_kind
after_kind seen None rest = refl
after_kind seen (Some kind) rest = refl

-- the ends and kinds of edges are among the nodes and modules of them
all_in : (nodes : List (List ℕ)) (kinds : List Kind) (es : List NamedEdge) → AllIn (with_new bytes_eq nodes (flat_map ends_of es)) (with_new same_kind kinds (filter_map kind_in es)) es
all_in nodes kinds [] = tt
all_in nodes kinds (e ∷ es) =
    let once = insert_key bytes_eq nodes e.source in
    let twice = insert_key bytes_eq once e.target in
    let rest = grows_with_new bytes_eq bytes_itself twice (flat_map ends_of es) in (
      record {
        source = rest.kept e.source ((grows_insert bytes_eq bytes_itself once e.target).kept e.source (inserted_has bytes_eq bytes_itself nodes e.source));
        target = rest.kept e.target (inserted_has bytes_eq bytes_itself once e.target);
        kind = kind_there kinds e.kind (filter_map kind_in es);
      },
      subst (λ ks. AllIn (with_new bytes_eq twice (flat_map ends_of es)) ks es) (sym (after_kind kinds e.kind (filter_map kind_in es))) (all_in twice (before_kind kinds e.kind) es),
    )

pub all_named_in : (es : List NamedEdge) → AllIn (node_names es) (kinds_after [] es) es
all_named_in es = all_in [] [] es

kind_kept : (kinds later : List Kind) → Grows same_kind kind_itself kinds later → (kind : Option Kind) → HasKind kinds kind → option_and_then (λ k. position (same_kind k) later) kind ≡ option_and_then (λ k. position (same_kind k) kinds) kind
kind_kept kinds later g None h = refl
kind_kept kinds later g (Some kind) h = g.place kind h

-- edges keep their numbers where the lists of nodes and modules grow
numbered_kept : (nodes more : List (List ℕ)) (kinds later : List Kind) → Grows bytes_eq bytes_itself nodes more → Grows same_kind kind_itself kinds later → (es : List NamedEdge) → AllIn nodes kinds es → map (numbered more later) es ≡ map (numbered nodes kinds) es
numbered_kept nodes more kinds later f g [] h = refl
numbered_kept nodes more kinds later f g (e ∷ es) h =
    let rest = numbered_kept nodes more kinds later f g es h.1 in
    let from : node_number more e.source ≡ node_number nodes e.source = ap (λ o. unwrap_or o 0) (f.place e.source h.0.source) in
    let to : node_number more e.target ≡ node_number nodes e.target = ap (λ o. unwrap_or o 0) (f.place e.target h.0.target) in
    let module_is = kind_kept kinds later g e.kind h.0.kind in
    let first : numbered more later e ≡ numbered nodes kinds e = rw (from, to, module_is) refl in
    ap (λ x. x ∷ map (numbered more later) es) first ∙ ap (λ xs. numbered nodes kinds e ∷ xs) rest

grows_kind : (old new : List Kind) (kind : Option Kind) (m : Option ℕ) → NumbersKind old new kind m → Grows same_kind kind_itself old new
grows_kind old new None m a = subst (Grows same_kind kind_itself old) (sym a.0) (grows_refl same_kind kind_itself old)
grows_kind old new (Some kind) m a = subst (Grows same_kind kind_itself old) (sym a.0) (grows_insert same_kind kind_itself old kind)

number_of_kind : (old new : List Kind) (kind : Option Kind) (m : Option ℕ) → NumbersKind old new kind m → option_and_then (λ k. position (same_kind k) new) kind ≡ m
number_of_kind old new None m a = sym a.1
number_of_kind old new (Some kind) m a = ap (position (same_kind kind)) a.0 ∙ position_inserted same_kind kind_itself old kind ∙ sym a.1

kinds_more : (old new : List Kind) (kind : Option Kind) (m : Option ℕ) → NumbersKind old new kind m → with_new same_kind old (cons_option kind []) ≡ new
kinds_more old new None m a = sym a.0
kinds_more old new (Some kind) m a = sym a.0

-- an edge whose ends and kind were numbered
pub added : (before : List NamedEdge) (old new : Draft) (once : List (List ℕ)) (e : NamedEdge) (s t : ℕ) (m : Option ℕ) → IsDraft before old
    → once ≡ insert_key bytes_eq old.names.keys e.source → s ≡ position_or_len (bytes_eq e.source) old.names.keys
    → new.names.keys ≡ insert_key bytes_eq once e.target → t ≡ position_or_len (bytes_eq e.target) once
    → NumbersKind old.kinds.keys new.kinds.keys e.kind m
    → new.edges.items ≡ old.edges.items ++ record { ordinal = e.ordinal; source = s; target = t; cost = e.cost; «module» = m } ∷ []
    → IsDraft (before ++ e ∷ []) new
added before old new once e s t m d o1 s1 n1 t1 k1 edges1 =
    let after = before ++ e ∷ [] in
    let names : node_names after ≡ insert_key bytes_eq (insert_key bytes_eq (node_names before) e.source) e.target =
    ap (with_new bytes_eq []) (flat_map-append ends_of before (e ∷ [])) ∙ with_new-append bytes_eq bytes_itself [] (flat_map ends_of before) (ends_of e) in
    let kinds : kinds_after [] after ≡ with_new same_kind (kinds_after [] before) (cons_option e.kind []) =
    ap (with_new same_kind []) (filter_map-append kind_in before (e ∷ [])) ∙ with_new-append same_kind kind_itself [] (filter_map kind_in before) (cons_option e.kind []) in
    let once_is : once ≡ insert_key bytes_eq (node_names before) e.source = o1 ∙ ap (λ ks. insert_key bytes_eq ks e.source) d.nodes in
    let nodes_are : new.names.keys ≡ node_names after = n1 ∙ ap (λ ks. insert_key bytes_eq ks e.target) once_is ∙ sym names in
    let adds : NumbersKind (kinds_after [] before) new.kinds.keys e.kind m = subst (λ ks. NumbersKind ks new.kinds.keys e.kind m) d.kinds k1 in
    let kinds_are : new.kinds.keys ≡ kinds_after [] after = sym (kinds_more (kinds_after [] before) new.kinds.keys e.kind m adds) ∙ sym kinds in
    let first_grow : Grows bytes_eq bytes_itself (node_names before) (insert_key bytes_eq (node_names before) e.source) = grows_insert bytes_eq bytes_itself (node_names before) e.source in
    let next_grow : Grows bytes_eq bytes_itself (insert_key bytes_eq (node_names before) e.source) (insert_key bytes_eq (insert_key bytes_eq (node_names before) e.source) e.target) = grows_insert bytes_eq bytes_itself (insert_key bytes_eq (node_names before) e.source) e.target in
    let grow : Grows bytes_eq bytes_itself (node_names before) (node_names after) = subst (Grows bytes_eq bytes_itself (node_names before)) (sym names)
    (grows_trans bytes_eq bytes_itself (node_names before) (insert_key bytes_eq (node_names before) e.source) (insert_key bytes_eq (insert_key bytes_eq (node_names before) e.source) e.target) first_grow next_grow) in
    let kind_grow : Grows same_kind kind_itself (kinds_after [] before) (kinds_after [] after) = subst (Grows same_kind kind_itself (kinds_after [] before)) kinds_are (grows_kind (kinds_after [] before) new.kinds.keys e.kind m adds) in
    let earlier : map (numbered (node_names after) (kinds_after [] after)) before ≡ map (numbered (node_names before) (kinds_after [] before)) before = numbered_kept (node_names before) (node_names after) (kinds_after [] before) (kinds_after [] after) grow kind_grow before (all_named_in before) in
    let source_is : node_number (node_names after) e.source ≡ s =
    ap (λ o. unwrap_or o 0) (ap (position (bytes_eq e.source)) names ∙ next_grow.place e.source (inserted_has bytes_eq bytes_itself (node_names before) e.source) ∙ position_inserted bytes_eq bytes_itself (node_names before) e.source)
    ∙ ap (position_or_len (bytes_eq e.source)) (sym d.nodes) ∙ sym s1 in
    let target_is : node_number (node_names after) e.target ≡ t =
    ap (λ o. unwrap_or o 0) (ap (position (bytes_eq e.target)) names ∙ position_inserted bytes_eq bytes_itself (insert_key bytes_eq (node_names before) e.source) e.target)
    ∙ ap (position_or_len (bytes_eq e.target)) (sym once_is) ∙ sym t1 in
    let module_is : option_and_then (λ k. position (same_kind k) (kinds_after [] after)) e.kind ≡ m = ap (λ ks. option_and_then (λ k. position (same_kind k) ks) e.kind) (sym kinds_are) ∙ number_of_kind (kinds_after [] before) new.kinds.keys e.kind m adds in
    let last : numbered (node_names after) (kinds_after [] after) e ≡ record { ordinal = e.ordinal; source = s; target = t; cost = e.cost; «module» = m } = rw (source_is, target_is, module_is) refl in
    record {
      nodes = nodes_are;
      kinds = kinds_are;
      edges = edges1 ∙ ap (λ xs. xs ++ record { ordinal = e.ordinal; source = s; target = t; cost = e.cost; «module» = m } ∷ []) d.edges
          ∙ ap (λ x. map (numbered (node_names before) (kinds_after [] before)) before ++ x ∷ []) (sym last)
          ∙ ap (λ xs. xs ++ numbered (node_names after) (kinds_after [] after) e ∷ []) (sym earlier)
          ∙ sym (map-append (numbered (node_names after) (kinds_after [] after)) before (e ∷ []));
    }

length_ends : (es : List NamedEdge) → length (flat_map ends_of es) ≡ 2 * length es
length_ends [] = refl
length_ends (e ∷ es) = let ih = length_ends es in omega (arith, ih)

length_options : (o : Option Kind) (ks : List Kind) → length (cons_option o ks) ≤ length ks + 1
length_options None ks = omega arith
length_options (Some k) ks = omega arith

length_kinds : (es : List NamedEdge) → length (filter_map kind_in es) ≤ length es
length_kinds [] = omega arith
length_kinds (e ∷ es) = let ih = length_kinds es in omega (arith, ih, length_options e.kind (filter_map kind_in es))

-- at most two nodes and one module an edge
pub few_nodes : (es : List NamedEdge) → length (node_names es) ≤ 2 * length es
few_nodes es = omega (arith, length_with_new bytes_eq bytes_itself [] (flat_map ends_of es), length_ends es)

pub few_kinds : (es : List NamedEdge) → length (kinds_after [] es) ≤ length es
few_kinds es = omega (arith, length_with_new same_kind kind_itself [] (filter_map kind_in es), length_kinds es)

-- where there are few edges there is room
pub roomy : (es : List NamedEdge) (d : Draft) → IsDraft es d → length es < 2 ^ 20 → IsRoomy d
roomy es d is few = record { nodes = omega (arith, few_nodes es, ap length is.nodes); kinds = omega (arith, few_kinds es, ap length is.kinds) }
