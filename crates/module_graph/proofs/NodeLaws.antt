-- The list of nodes has exactly the ends of the edges, each once, and that of modules likewise.
use Rattle.std.proofs.Common.{◌≡◌, ◌≢◌, ℕ, Bool, true, false, ◌&&◌, ◌||◌, List, [], ◌∷◌, ◌++◌, if◌then◌else◌, refl, sym, ap, ◌∙◌, subst, arith}
use Rattle.std.specs.List.{AllPairs, list_any, filter_map, flat_map}
use Rattle.std.specs.Str.{bytes_eq}
use Rattle.std.proofs.lemmas.Bool.{false≢true}
use Rattle.std.proofs.lemmas.List.Folds.{list_any-append, list_any_at}
use Rattle.std.proofs.lemmas.List.Quantifiers.{all_pairs_push}
use Rattle.std.proofs.lemmas.Slice.Eq.{bytes_eq-Decides}
use Rattle.indexmap.specs.IndexSet.{insert_key}
use Rattle.modules_conf.specs.declared.kind.Kind.{Kind}
use Rattle.modules_conf.specs.declared.kind.Kind.TheVariants.{Table, Iso2022Jp, Recode}
use Rattle.module_graph.specs.Edges.{NamedEdge}
use Rattle.module_graph.specs.Numbers.{with_new, node_names, has_end, same_kind, kinds_after}
use Rattle.module_graph.proofs.Drafting.{bytes_itself, kind_itself}

or_assoc : (a b c : Bool) → ((a || b) || c) ≡ (a || (b || c))
or_assoc true b c = refl
or_assoc false b c = refl

or_false : (a : Bool) → (a || false) ≡ a
or_false true = refl
or_false false = refl

or_same : (a : Bool) → (a || a) ≡ a
or_same true = refl
or_same false = refl

module _ {K : Type 0} (same : K → K → Bool) (is_same : (x y : K) → same x y ≡ true → x ≡ y) (itself : (x : K) → same x x ≡ true) where
  -- an element that is the same as one of a list adds nothing to it
  absorbs : (ks : List K) (k j : K) → list_any (same k) ks ≡ true → (list_any (same j) ks || same j k) ≡ list_any (same j) ks
  absorbs ks k j h = go (same j k) refl
    where
      go : (b : Bool) → same j k ≡ b → (list_any (same j) ks || b) ≡ list_any (same j) ks
      go false e = or_false (list_any (same j) ks)
      go true e =
          let there : list_any (same j) ks ≡ true = subst (λ x. list_any (same x) ks ≡ true) (sym (is_same j k e)) h in
          ap (λ b. b || true) there ∙ sym there

  insert_has : (ks : List K) (k j : K) → list_any (same j) (insert_key same ks k) ≡ (list_any (same j) ks || same j k)
  insert_has ks k j = go (list_any (same k) ks) refl
    where
      go : (b : Bool) → list_any (same k) ks ≡ b → list_any (same j) (if b then ks else ks ++ k ∷ []) ≡ (list_any (same j) ks || same j k)
      go true e = sym (absorbs ks k j e)
      go false e = list_any-append (same j) ks (k ∷ []) ∙ ap (λ b. list_any (same j) ks || b) (or_false (same j k))

  -- the elements of both lists, and no others
  pub with_new_has : (seen xs : List K) (j : K) → list_any (same j) (with_new same seen xs) ≡ (list_any (same j) seen || list_any (same j) xs)
  with_new_has seen [] j = sym (or_false (list_any (same j) seen))
  with_new_has seen (x ∷ xs) j =
      with_new_has (insert_key same seen x) xs j ∙ ap (λ b. b || list_any (same j) xs) (insert_has seen x j)
      ∙ or_assoc (list_any (same j) seen) (same j x) (list_any (same j) xs)

  insert_distinct : (ks : List K) (k : K) → AllPairs (λ x y. x ≢ y) ks → AllPairs (λ x y. x ≢ y) (insert_key same ks k)
  insert_distinct ks k h = go (list_any (same k) ks) refl
    where
      go : (b : Bool) → list_any (same k) ks ≡ b → AllPairs (λ x y. x ≢ y) (if b then ks else ks ++ k ∷ [])
      go true e = h
      go false e = all_pairs_push (λ x y. x ≢ y) ks k h (λ i d lt is. false≢true (sym e ∙ list_any_at (same k) ks i d lt (subst (λ x. same k x ≡ true) (sym is) (itself k))))

  -- each once
  pub with_new_distinct : (seen xs : List K) → AllPairs (λ x y. x ≢ y) seen → AllPairs (λ x y. x ≢ y) (with_new same seen xs)
  with_new_distinct seen [] h = h
  with_new_distinct seen (x ∷ xs) h = with_new_distinct (insert_key same seen x) xs (insert_distinct seen x h)

ends_have : (name : List ℕ) (es : List NamedEdge) → list_any (bytes_eq name) (flat_map (λ (e : NamedEdge). e.source ∷ e.target ∷ []) es) ≡ has_end es name
ends_have name [] = refl
ends_have name (e ∷ es) =
    sym (or_assoc (bytes_eq name e.source) (bytes_eq name e.target) (list_any (bytes_eq name) (flat_map (λ (x : NamedEdge). x.source ∷ x.target ∷ []) es)))
    ∙ ap (λ b. (bytes_eq name e.source || bytes_eq name e.target) || b) (ends_have name es)

-- a name is a node exactly where it is an end of an edge
pub nodes_are_ends : (es : List NamedEdge) (name : List ℕ) → list_any (bytes_eq name) (node_names es) ≡ has_end es name
nodes_are_ends es name = with_new_has bytes_eq (λ x y h. (bytes_eq-Decides x y).0 h) bytes_itself [] (flat_map (λ e. e.source ∷ e.target ∷ []) es) name ∙ ends_have name es

-- no name is two nodes
pub nodes_differ : (es : List NamedEdge) → AllPairs (λ x y. x ≢ y) (node_names es)
nodes_differ es = with_new_distinct bytes_eq (λ x y h. (bytes_eq-Decides x y).0 h) bytes_itself [] (flat_map (λ e. e.source ∷ e.target ∷ []) es) (λ i j d lt fit. absurd (omega arith))

words_same : (xs ys : List ℕ) → bytes_eq xs ys ≡ true → xs ≡ ys
words_same xs ys h = (bytes_eq-Decides xs ys).0 h

both_true : (a b : Bool) → (a && b) ≡ true → (a ≡ true) × (b ≡ true)
both_true true b h = (refl, h)
both_true false b h = absurd (false≢true h)

-- kinds that are the same are one
pub kinds_same : (j k : Kind) → same_kind j k ≡ true → j ≡ k
kinds_same (Table a) (Table b) h = ap Table (words_same a b h)
kinds_same (Table a) (Iso2022Jp b c) h = absurd (false≢true h)
kinds_same (Table a) (Recode b c) h = absurd (false≢true h)
kinds_same (Iso2022Jp a b) (Table c) h = absurd (false≢true h)
kinds_same (Iso2022Jp a b) (Iso2022Jp c d) h =
    let e = both_true (bytes_eq a c) (bytes_eq b d) h in
    ap (λ x. Iso2022Jp x b) (words_same a c e.0) ∙ ap (λ x. Iso2022Jp c x) (words_same b d e.1)
kinds_same (Iso2022Jp a b) (Recode c d) h = absurd (false≢true h)
kinds_same (Recode a b) (Table c) h = absurd (false≢true h)
kinds_same (Recode a b) (Iso2022Jp c d) h = absurd (false≢true h)
kinds_same (Recode a b) (Recode c d) h =
    let e = both_true (bytes_eq a c) (bytes_eq b d) h in
    ap (λ x. Recode x b) (words_same a c e.0) ∙ ap (λ x. Recode c x) (words_same b d e.1)

-- no kind is two modules
pub modules_differ : (es : List NamedEdge) → AllPairs (λ x y. x ≢ y) (kinds_after [] es)
modules_differ es = with_new_distinct same_kind kinds_same kind_itself [] (filter_map (λ e. e.kind) es) (λ i j d lt fit. absurd (omega arith))
