-- What callers and the lead know of what is published.
use Rattle.std.proofs.Common.{◌≡◌, ◌<◌, ◌≤◌, ℕ, Bool, true, false, cond, List, [], ◌++◌, length, Option, Some, None, is_some, sym, refl, ap, ◌∙◌, subst, arith, length-append}
use Rattle.std.proofs.Math.Dec.{ltb}
use Rattle.std.proofs.lemmas.Bool.{ltb-true}
use Rattle.derivation_cache.specs.Known.{Known, Extends, longer, none_known, and_pair, pair_of}
use Rattle.derivation_cache.specs.Views.{TellsPair}
use Rattle.derivation_cache.specs.declared.found.Found.{Found}
use Rattle.derivation_cache.specs.declared.pair.Pair.{Pair}
use Rattle.derivation_cache.proofs.Keeps.{extends_same, extends_more}
use Rattle.history_core.specs.History.{History, Since}
use Rattle.history_core.specs.History as histories
use Rattle.module_graph.specs.Graph.{Shape}
use Rattle.runtime_room.specs.Published.{published, has_opened, with_pair}
use Rattle.runtime_room.specs.declared.desk.Noted.{Noted}
use Rattle.runtime_room.proofs.Publishing.{published_extends, published_graph, published_opened, learnt}

-- What is told again is kept.
longer_kept : (k other : Known) → Extends k other → longer k other ≡ k
longer_kept k other h = go (ltb (length k.pairs) (length other.pairs)) refl
  where
    go : (b : Bool) → ltb (length k.pairs) (length other.pairs) ≡ b → cond b other k ≡ k
    go true e =
        let lt = ltb-true (length k.pairs) (length other.pairs) e in
        let long = ap length h.is in
        let sum = length-append other.pairs h.rest in
        absurd (omega (arith, lt, long, sum))
    go false e = refl

-- A view that knows nothing learns what is published.
pub learns_all : (graph : Shape) (log : History Noted) (k told : Known) → k ≡ none_known graph → told ≡ published graph log → longer k told ≡ published graph log
learns_all graph log k told none is =
    ap (λ (z : Known). longer z told) none
    ∙ (ap (longer (none_known graph)) is
    ∙ learnt (published graph log) (none_known graph) (published_extends graph [] log))

-- It may learn it.
pub may_learn : (graph : Shape) (log : History Noted) (k told : Known) → k ≡ none_known graph → told ≡ published graph log → Extends told k
may_learn graph log k told none is =
    subst (λ (z : Known). Extends z k) (sym is)
    (subst (λ (z : Known). Extends (published graph log) z) (sym none) (published_extends graph [] log))

longer_by : (graph : Shape) (seen front all : History Noted) (P Q : ℕ → Type 0) → Since P seen all → Since Q front all → (b : Bool) → all ≡ cond b front seen
    → longer (published graph seen) (published graph front) ≡ published graph all
longer_by graph seen front all P Q since grows true is =
    learnt (published graph front) (published graph seen)
    (subst (λ (z : History Noted). Extends (published graph z) (published graph seen)) (sym since.1 ∙ is) (published_extends graph seen since.0))
    ∙ ap (published graph) (sym is)
longer_by graph seen front all P Q since grows false is =
    longer_kept (published graph seen) (published graph front)
    (subst (λ (z : History Noted). Extends (published graph z) (published graph front)) (sym grows.1 ∙ is) (published_extends graph front grows.0))
    ∙ ap (published graph) (sym is)

-- The longer of two lists is that of the longer history.
pub longer_published : (graph : Shape) (seen front all : History Noted) (P Q : ℕ → Type 0) (k told : Known) → Since P seen all → Since Q front all → all ≡ histories.longer seen front
    → k ≡ published graph seen → told ≡ published graph front → longer k told ≡ published graph all
longer_published graph seen front all P Q k told since grows is a b =
    ap (λ (z : Known). longer z told) a
    ∙ (ap (longer (published graph seen)) b
    ∙ longer_by graph seen front all P Q since grows (ltb (length seen) (length front)) is)

module _ (graph : Shape) (log : History Noted) (from to : List ℕ) (view : Known) (same : view ≡ published graph log) where
  -- A chain that a view finds is the least one of the graph.
  pub found_as : (f : Found) (old new : List ℕ) → TellsPair view.graph from to f old new → TellsPair graph from to f old new
  found_as f old new = subst (λ (z : Shape). TellsPair z from to f old new) (ap (λ (k : Known). k.graph) same ∙ published_graph graph log)

  -- A pair of which it doesn't know wasn't opened.
  pub unknown_as : pair_of view from to ≡ None → has_opened from to log ≡ false
  unknown_as none =
      sym (published_opened graph log from to)
      ∙ (ap (λ (k : Known). is_some (pair_of k from to)) (sym same) ∙ ap (λ (o : Option Pair). is_some o) none)

-- With a pair more a list begins with what it was.
pub extends_pair : (k now view : Known) (o : Option Pair) → now ≡ with_pair k o → view ≡ k → Extends now view
extends_pair k now view o is same = subst (λ (z : Known). Extends z view) (sym is) (subst (λ (z : Known). Extends (with_pair k o) z) (sym same) (more o))
  where
    more : (o : Option Pair) → Extends (with_pair k o) k
    more None = extends_same k
    more (Some p) = go (is_some (pair_of k p.from p.to))
      where
        go : (b : Bool) → Extends (cond b k (and_pair k p)) k
        go true = extends_same k
        go false = extends_more k p
