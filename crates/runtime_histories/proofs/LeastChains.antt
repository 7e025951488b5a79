-- The least chain between two names is one.
use Rattle.std.proofs.Common.{◌≡◌, ℕ, List, [], ◌∷◌, length, sym, refl, ◌∙◌, subst, arith, Option, Some}
use Rattle.module_graph.specs.declared.edge.Edge.{Edge}
use Rattle.module_graph.specs.Graph.{Shape}
use Rattle.chain_search.specs.declared.chain.Chain.{Chain}
use Rattle.chain_search.specs.Chains.{IsNoLater, IsLeastChain, cost_of, ordinals_of}
use Rattle.chain_search.specs.Answer.{TellsLeast}
use Rattle.runtime_histories.specs.Settings.{Leads, node_in}

later_both : (xs ys : List ℕ) → length xs ≡ length ys → IsNoLater xs ys → IsNoLater ys xs → xs ≡ ys
later_both [] [] e h g = refl
later_both [] (y ∷ ys) e h g = absurd g
later_both (x ∷ xs) [] e h g = absurd h
later_both (x ∷ xs) (y ∷ ys) e h g =
    let a = h.0 in let b = g.0 in let same : x ≡ y = omega arith in let n : length xs ≡ length ys = omega arith in
    let rest = later_both xs ys n (h.1 same) (g.1 (sym same)) in (λ i. same i ∷ rest i)

length-ordinals : (es : List Edge) → length (ordinals_of es) ≡ length es
length-ordinals [] = refl
length-ordinals (e ∷ es) = let h = length-ordinals es in omega arith

ordinals_once : (g : List Edge) (a b : ℕ) (es fs : List Edge) → IsLeastChain g a b es → IsLeastChain g a b fs → ordinals_of es ≡ ordinals_of fs
ordinals_once g a b es fs h k =
    let le = h.least fs k.chain in let ge = k.least es h.chain in
    let c1 = le.no_dearer in let c2 = ge.no_dearer in let cost : cost_of es ≡ cost_of fs = omega arith in
    let l1 = le.no_longer cost in let l2 = ge.no_longer (sym cost) in let len : length es ≡ length fs = omega arith in
    later_both (ordinals_of es) (ordinals_of fs) (length-ordinals es ∙ (len ∙ sym (length-ordinals fs))) (le.no_later cost len) (ge.no_later (sym cost) (sym len))

pub TellsLeast-unique : (g : List Edge) (a b : ℕ) (c d : Chain) → TellsLeast g a b c → TellsLeast g a b d → c.ordinals ≡ d.ordinals
TellsLeast-unique g a b c d h k = h.ordinals ∙ (ordinals_once g a b h.edges k.edges h.least k.least ∙ sym k.ordinals)

some_same : (a b : ℕ) (o : Option ℕ) → o ≡ Some a → o ≡ Some b → a ≡ b
some_same a b o e f = let g : Some a ≡ Some b = sym e ∙ f in cc

-- Two least chains between the same names have the same ordinals.
pub Leads-unique : (g : Shape) (from to : List ℕ) (c d : Chain) → Leads g from to c → Leads g from to d → c.ordinals ≡ d.ordinals
Leads-unique g from to c d h k =
    let s : k.source ≡ h.source = some_same k.source h.source (node_in g from) k.begins h.begins in
    let t : k.target ≡ h.target = some_same k.target h.target (node_in g to) k.ends h.ends in
    TellsLeast-unique g.edges h.source h.target c d h.least
    (subst (λ (z : ℕ). TellsLeast g.edges z h.target d) s (subst (λ (z : ℕ). TellsLeast g.edges k.source z d) t k.least))
