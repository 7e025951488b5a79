-- How bindings are looked up.
use Rattle.std.proofs.Common.{◌≡◌, ℕ, Bool, true, false, cond, ◌+◌, ◌<◌, List, [], ◌∷◌, ◌++◌, length, take, get_or, Option, Some, None, is_some, refl, sym, ap, ◌∙◌, subst, inl, inr}
use Rattle.std.specs.HashMap.{HashMap, get}
use Rattle.std.specs.Str.{bytes_eq}
use Rattle.std.proofs.lemmas.List.{take_more}
use Rattle.std.proofs.lemmas.Bool.{cases_Bool, false≢true}
use Rattle.std.proofs.lemmas.Slice.Eq.{bytes_eq-Decides}
use Rattle.modules_conf.specs.declared.bindings.Binding.{Binding}
use Rattle.modules_conf.specs.declared.kind.Kind.{Kind}
use Rattle.module_graph.specs.Edges.{kind_bound}

-- one more binding counts where none before it has its name
pub kind_bound-push : (bs : List Binding) (b : Binding) (name : List ℕ) → kind_bound (bs ++ b ∷ []) name ≡ cond (is_some (kind_bound bs name)) (kind_bound bs name) (cond (bytes_eq b.name name) (Some b.kind) None)
kind_bound-push [] b name = go (bytes_eq b.name name) refl
  where
    go : (t : Bool) → bytes_eq b.name name ≡ t → kind_bound (b ∷ []) name ≡ cond (bytes_eq b.name name) (Some b.kind) None
    go true e = rw e refl
    go false e = rw e refl
kind_bound-push (x ∷ bs) b name = go (bytes_eq x.name name) refl (kind_bound-push bs b name)
  where
    go : (t : Bool) → bytes_eq x.name name ≡ t → kind_bound (bs ++ b ∷ []) name ≡ cond (is_some (kind_bound bs name)) (kind_bound bs name) (cond (bytes_eq b.name name) (Some b.kind) None)
        → kind_bound (x ∷ bs ++ b ∷ []) name ≡ cond (is_some (kind_bound (x ∷ bs) name)) (kind_bound (x ∷ bs) name) (cond (bytes_eq b.name name) (Some b.kind) None)
    go true e ih = rw e refl
    go false e ih = rw e ih

some_stays : (o other : Option Kind) → is_some o ≡ true → cond (is_some o) o other ≡ o
some_stays o other h = rw h refl

none_gives : (o other : Option Kind) → o ≡ None → cond (is_some o) o other ≡ other
none_gives o other h = rw h refl

or_none : (o : Option Kind) → cond (is_some o) o None ≡ o
or_none None = refl
or_none (Some k) = refl

-- a binding whose name is bound already changes no look-up
pub bound_kept : (bs : List Binding) (b : Binding) → is_some (kind_bound bs b.name) ≡ true → (name : List ℕ) → kind_bound (bs ++ b ∷ []) name ≡ kind_bound bs name
bound_kept bs b there name = kind_bound-push bs b name ∙ elim (cases_Bool (bytes_eq b.name name)) [
  | inl t ↦
      let same : b.name ≡ name = (bytes_eq-Decides b.name name).0 t in
      some_stays (kind_bound bs name) (cond (bytes_eq b.name name) (Some b.kind) None) (subst (λ n. is_some (kind_bound bs n) ≡ true) same there)
  | inr f ↦ rw f (or_none (kind_bound bs name))
]

-- one whose name isn't bound gives its kind
pub bound_new : (bs : List Binding) (b : Binding) → kind_bound bs b.name ≡ None → (name : List ℕ) → kind_bound (bs ++ b ∷ []) name ≡ cond (bytes_eq b.name name) (Some b.kind) (kind_bound bs name)
bound_new bs b none name = kind_bound-push bs b name ∙ elim (cases_Bool (bytes_eq b.name name)) [
  | inl t ↦
      let same : b.name ≡ name = (bytes_eq-Decides b.name name).0 t in
      none_gives (kind_bound bs name) (cond (bytes_eq b.name name) (Some b.kind) None) (ap (kind_bound bs) (sym same) ∙ none) ∙ rw t refl
  | inr f ↦ rw f (or_none (kind_bound bs name))
]

no_some : (o : Option Kind) → is_some o ≡ false → o ≡ None
no_some None h = refl
no_some (Some k) h = absurd (false≢true (sym h))

-- the map has the kinds of the first bindings
abbrev pub IsMapOf : {S : Type 0} → HashMap (List ℕ) Kind S → List Binding → Type 0
IsMapOf m bs = (name : List ℕ) → get bytes_eq m name ≡ kind_bound bs name

module _ {S : Type 0} (old : HashMap (List ℕ) Kind S) (bs : List Binding) (i : ℕ) (b : Binding) (lt : i < length bs) (here : b ≡ get_or bs i b) (f : IsMapOf old (take i bs)) where
  one_more : take (i + 1) bs ≡ take i bs ++ b ∷ []
  one_more = take_more bs i b lt ∙ ap (λ x. take i bs ++ x ∷ []) (sym here)

  -- and of one more, which adds nothing
  pub map_kept : is_some (get bytes_eq old b.name) ≡ true → IsMapOf old (take (i + 1) bs)
  map_kept there name = f name ∙ sym (bound_kept (take i bs) b (ap is_some (sym (f b.name)) ∙ there) name) ∙ ap (λ xs. kind_bound xs name) (sym one_more)

  -- or its kind
  pub map_more : (new : HashMap (List ℕ) Kind S) → is_some (get bytes_eq old b.name) ≡ false → ((name : List ℕ) → get bytes_eq new name ≡ cond (bytes_eq b.name name) (Some b.kind) (get bytes_eq old name)) → IsMapOf new (take (i + 1) bs)
  map_more new none adds name =
      adds name ∙ ap (cond (bytes_eq b.name name) (Some b.kind)) (f name)
      ∙ sym (bound_new (take i bs) b (sym (f b.name) ∙ no_some (get bytes_eq old b.name) none) name) ∙ ap (λ xs. kind_bound xs name) (sym one_more)
