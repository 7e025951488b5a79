-- What a fork of a tree has in order.
use Rattle.std.proofs.Common.{◌≡◌, ◌<◌, ◌+◌, suc, arith, length, false, [], List, ℕ, ◌∷◌, ◌++◌, Some, sym, ap, ◌∙◌, subst, find, IfOk, Result, Ok, Err}
use Rattle.std.specs.Arc.{arc_value}
use Rattle.std.specs.Ordering.{is_lt}
use Rattle.std.specs.declared.sync.Arc.{Arc}
use Rattle.std.specs.declared.alloc.Global.{Global}
use Rattle.std.specs.declared.cmp.Ordering.TheVariants.{Less, Equal, Greater}
use Rattle.derivation_cache.specs.declared.pair.Pair.{Pair}
use Rattle.derivation_cache.specs.declared.tree.Node.{Node}
use Rattle.derivation_cache.specs.declared.tree.Tree.{Tree}
use Rattle.derivation_cache.specs.declared.tree.Tree.TheVariants.{Fork}
use Rattle.derivation_cache.specs.Known.{is_of}
use Rattle.derivation_cache.specs.Trees.{in_order, names_order, put, IsRising}
use Rattle.derivation_cache.proofs.Trees.{rises_left, rises_right, find_less, find_equal, find_greater, put_left, put_right}

abbrev pub node_order : Node → List Pair
node_order n = in_order n.left ++ arc_value n.pair ∷ in_order n.right

pub fork_order : (t : Tree) (a : Arc Node Global) (n : Node) → t ≡ Fork a → n ≡ arc_value a → in_order t ≡ node_order n
fork_order t a n e f = ap in_order e ∙ ap node_order (sym f)

length_parts : (xs : List Pair) (p : Pair) (ys : List Pair) → length (xs ++ p ∷ ys) ≡ length xs + suc (length ys)
length_parts [] p ys = omega arith
length_parts (x ∷ xs) p ys = let h = length_parts xs p ys in omega arith

fewer_left : (xs : List Pair) (p : Pair) (ys : List Pair) (k : ℕ) → length (xs ++ p ∷ ys) ≡ k → length xs < k
fewer_left xs p ys k e = let h : length xs + suc (length ys) ≡ k = sym (length_parts xs p ys) ∙ e in omega arith

fewer_right : (xs : List Pair) (p : Pair) (ys : List Pair) (k : ℕ) → length (xs ++ p ∷ ys) ≡ k → length ys < k
fewer_right xs p ys k e = let h : length xs + suc (length ys) ≡ k = sym (length_parts xs p ys) ∙ e in omega arith

module _ (t : Tree) (a : Arc Node Global) (n : Node) (e : t ≡ Fork a) (f : n ≡ arc_value a) (r : IsRising (in_order t)) where
  up : IsRising (node_order n)
  up = subst (λ l. IsRising l) (fork_order t a n e f) r

  pub left_rises : IsRising (in_order n.left)
  left_rises = rises_left (in_order n.left) (arc_value n.pair ∷ in_order n.right) up

  pub right_rises : IsRising (in_order n.right)
  right_rises = rises_right (in_order n.left) (arc_value n.pair) (in_order n.right) up

  module _ (k : ℕ) (d : length (in_order t) ≡ k) where
    pub left_fewer : length (in_order n.left) < k
    left_fewer = fewer_left (in_order n.left) (arc_value n.pair) (in_order n.right) k (ap length (sym (fork_order t a n e f)) ∙ d)

    pub right_fewer : length (in_order n.right) < k
    right_fewer = fewer_right (in_order n.left) (arc_value n.pair) (in_order n.right) k (ap length (sym (fork_order t a n e f)) ∙ d)

  module _ (from to : List ℕ) where
    pub finds_left : names_order from to (arc_value n.pair) ≡ Less → find (is_of from to) (in_order t) ≡ find (is_of from to) (in_order n.left)
    finds_left h = ap (λ l. find (is_of from to) l) (fork_order t a n e f) ∙ find_less from to (in_order n.left) (arc_value n.pair) (in_order n.right) up h

    pub finds_here : names_order from to (arc_value n.pair) ≡ Equal → find (is_of from to) (in_order t) ≡ Some (arc_value n.pair)
    finds_here h = ap (λ l. find (is_of from to) l) (fork_order t a n e f) ∙ find_equal from to (in_order n.left) (arc_value n.pair) (in_order n.right) up h

    pub finds_right : names_order from to (arc_value n.pair) ≡ Greater → find (is_of from to) (in_order t) ≡ find (is_of from to) (in_order n.right)
    finds_right h = ap (λ l. find (is_of from to) l) (fork_order t a n e f) ∙ find_greater from to (in_order n.left) (arc_value n.pair) (in_order n.right) up h

  module _ (p : Pair) where
    pub puts_left : names_order p.from p.to (arc_value n.pair) ≡ Less → put p (in_order t) ≡ put p (in_order n.left) ++ arc_value n.pair ∷ in_order n.right
    puts_left h = ap (put p) (fork_order t a n e f) ∙ put_left p (in_order n.left) (arc_value n.pair) (in_order n.right) h

    pub puts_right : is_lt (names_order p.from p.to (arc_value n.pair)) ≡ false → put p (in_order t) ≡ in_order n.left ++ arc_value n.pair ∷ put p (in_order n.right)
    puts_right h = ap (put p) (fork_order t a n e f) ∙ put_right p (in_order n.left) (arc_value n.pair) (in_order n.right) up h

-- a fork of parts that are as they should be
pub forks : {E : Type 0} (r : Result Tree E) (left right : Tree) (p : Pair) (ls : List Pair) (q : Pair) (rs whole : List Pair)
    → IfOk r (λ t. in_order t ≡ in_order left ++ p ∷ in_order right) → in_order left ≡ ls → p ≡ q → in_order right ≡ rs → whole ≡ ls ++ q ∷ rs
    → IfOk r (λ t. in_order t ≡ whole)
forks (Ok t) left right p ls q rs whole h a b c d = h ∙ ap (λ l. l ++ p ∷ in_order right) a ∙ ap (λ x. ls ++ x ∷ in_order right) b ∙ ap (λ l. ls ++ q ∷ l) c ∙ sym d
forks (Err e) left right p ls q rs whole h a b c d = tt
