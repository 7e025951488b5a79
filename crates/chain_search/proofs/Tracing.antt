-- How settled steps lead to the target.
use Rattle.std.proofs.Common.{◌≡◌, ℕ, ◌+◌, ◌<◌, ◌≤◌, ◌⊎◌, List, [], ◌∷◌, ◌++◌, length, Option, Some, None, refl, sym, ap, ◌∙◌, inl, inr, arith, append_assoc, append-nil, add-one}
use Rattle.module_graph.specs.declared.edge.Edge.{Edge}
use Rattle.chain_search.specs.declared.step.Step.{Step}
use Rattle.chain_search.specs.Chains.{ordinals_of, cost_of}
use Rattle.chain_search.specs.Steps.{step_at}
use Rattle.chain_search.specs.Search.{AreTold, Stands, rest_from}
use Rattle.chain_search.proofs.Searching.{closed_cases, rest_target, rest_other}

-- what was traced, up to a node
pub record Tracing (known : List (Option Step)) (walk : ℕ → List Edge) (source total : ℕ) (items : List ℕ) (at counter : ℕ) : Type 0 where
  pub rest : List Edge
  pub whole : items ++ ordinals_of rest ≡ ordinals_of (walk source)
  pub left : length rest + counter ≡ total
  pub here : (rest ≡ []) ⊎ (((s : Step) × (step_at known at ≡ Some s)) × (rest ≡ walk at))

no_edges : (es : List Edge) → length es ≤ 0 → es ≡ []
no_edges [] le = refl
no_edges (e ∷ es) le = absurd (omega arith)

no_step : {s : Step} → None ≡ Some s → ⊥
no_step e = cc

-- a look that finds no step
pub not_there : (known : List (Option Step)) (at : ℕ) (o : Option Step) → o ≡ step_at known at → o ≡ None → (x : Step) → step_at known at ≡ Some x → ⊥
not_there known at o is none x e = no_step (sym none ∙ is ∙ e)

pub told_length : (g : List Edge) (target : ℕ) (known : List (Option Step)) (walk : ℕ → List Edge) (v : ℕ) (s : Step) (es : List Edge) → Stands g target known walk v s es → s.length ≡ length es
told_length g target known walk v s es st = ap (λ x. x.length) st.is ∙ add-one (length (rest_from target walk st.edge.target)) ∙ sym (ap length st.whole)

pub told_cost : (g : List Edge) (target : ℕ) (known : List (Option Step)) (walk : ℕ → List Edge) (v : ℕ) (s : Step) (es : List Edge) → Stands g target known walk v s es → s.cost ≡ cost_of es
told_cost g target known walk v s es st = ap (λ x. x.cost) st.is ∙ sym (ap cost_of st.whole)

pub trace_none : (g : List Edge) (target : ℕ) (known : List (Option Step)) (walk : ℕ → List Edge) (source : ℕ) (s : Step) → AreTold g target known walk → step_at known source ≡ Some s → Tracing known walk source s.length [] source 0
trace_none g target known walk source s told e = record {
  rest = walk source;
  whole = refl;
  left = omega (arith, told_length g target known walk source s (walk source) (told source s e));
  here = inr ((s, e), refl);
}

pub trace_all : (known : List (Option Step)) (walk : ℕ → List Edge) (source total : ℕ) (items : List ℕ) (at counter : ℕ) → Tracing known walk source total items at counter → total ≤ counter → items ≡ ordinals_of (walk source)
trace_all known walk source total items at counter t le =
    let none : t.rest ≡ [] = no_edges t.rest (omega (arith, t.left)) in
    sym (append-nil items) ∙ ap (λ r. items ++ ordinals_of r) (sym none) ∙ t.whole

pub trace_stuck : (known : List (Option Step)) (walk : ℕ → List Edge) (source total : ℕ) (items : List ℕ) (at counter : ℕ) → Tracing known walk source total items at counter → counter < total → ((x : Step) → step_at known at ≡ Some x → ⊥) → ⊥
trace_stuck known walk source total items at counter t lt none = elim t.here [
  | inl e ↦ let z : length t.rest ≡ 0 = ap length e in omega (arith, t.left)
  | inr x ↦ none x.0.0 x.0.1
]

pub trace_more : (g : List Edge) (target : ℕ) (known : List (Option Step)) (walk : ℕ → List Edge) (source total : ℕ) (items : List ℕ) (at counter : ℕ) (next : Step) → AreTold g target known walk → Tracing known walk source total items at counter → counter < total → step_at known at ≡ Some next → Tracing known walk source total (items ++ next.ordinal ∷ []) next.next (counter + 1)
trace_more g target known walk source total items at counter next told t lt e = elim t.here [
  | inl none ↦ let z : length t.rest ≡ 0 = ap length none in absurd (omega (arith, t.left))
  | inr x ↦
      let st = told at next e in
      let r = rest_from target walk st.edge.target in
      let is : t.rest ≡ st.edge ∷ r = x.1 ∙ st.whole in
      let ordinal : next.ordinal ≡ st.edge.ordinal = ap (λ y. y.ordinal) st.is in
      let to : next.next ≡ st.edge.target = ap (λ y. y.next) st.is in
      let n : length t.rest ≡ length r + 1 = ap length is ∙ sym (add-one (length r)) in
      record {
        rest = r;
        whole = append_assoc items (next.ordinal ∷ []) (ordinals_of r) ∙ ap (λ o. items ++ o ∷ ordinals_of r) ordinal ∙ ap (λ y. items ++ ordinals_of y) (sym is) ∙ t.whole;
        left = omega (arith, t.left);
        here = elim (closed_cases target known st.edge.target st.closed) [
          | inl end ↦ inl (rest_target target walk st.edge.target end)
          | inr y ↦ inr ((y.1.0, ap (step_at known) to ∙ y.1.1), rest_other target walk st.edge.target y.0 ∙ ap walk (sym to))
        ];
      }
]

-- what is kept while a chain is traced
abbrev pub Traced : List (Option Step) → ℕ → Step → List ℕ → ℕ → ℕ → Type 0
Traced known source s items at counter = (g : List Edge) (target : ℕ) (walk : ℕ → List Edge) → AreTold g target known walk → step_at known source ≡ Some s → Tracing known walk source s.length items at counter
