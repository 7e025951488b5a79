-- The words of one line.
use Rattle.std.proofs.Common.{◌≡◌, ℕ, Bool, true, false, cond, List, [], ◌∷◌, length, take, Option, Some, None, refl, sym, ap, ◌∙◌, arith}
use Rattle.std.specs.Prelude.{codes, nat_le}
use Rattle.std.specs.Str.{bytes_eq}
use Rattle.std.proofs.lemmas.Slice.Eq.{bytes_eq-Decides}
use Rattle.names_alias.specs.NameForm.{normal_of}
use Rattle.modules_conf.specs.Modules.{both, edge_between, edge_line, alias_between, alias_line}
use Rattle.modules_conf.specs.declared.lines.EdgeLine.{EdgeLine}
use Rattle.modules_conf.specs.declared.lines.AliasLine.{AliasLine}

-- The first five words decide whether words are a module line.
pub edge_line-take : (n : ℕ) (ws : List (List ℕ)) → edge_line n (take 5 ws) ≡ edge_line n ws
edge_line-take n [] = refl
edge_line-take n (a ∷ []) = refl
edge_line-take n (a ∷ b ∷ []) = refl
edge_line-take n (a ∷ b ∷ c ∷ []) = refl
edge_line-take n (a ∷ b ∷ c ∷ d ∷ []) = refl
edge_line-take n (a ∷ b ∷ c ∷ d ∷ e ∷ more) = refl

-- The first five words decide whether words are an alias line.
pub alias_line-take : (n : ℕ) (ws : List (List ℕ)) → alias_line n (take 5 ws) ≡ alias_line n ws
alias_line-take n [] = refl
alias_line-take n (a ∷ []) = refl
alias_line-take n (a ∷ b ∷ []) = refl
alias_line-take n (a ∷ b ∷ c ∷ more) = refl

alias_key : (n : ℕ) (key a b : List ℕ) (more : List (List ℕ)) → key ≡ codes "module" → alias_line n (key ∷ a ∷ b ∷ more) ≡ None
alias_key n key a b more is = ap (λ k. alias_line n (k ∷ a ∷ b ∷ more)) is

keyed : {X : Type 0} (b : Bool) (o : Option X) (x : X) → cond b o None ≡ Some x → b ≡ true
keyed true o x is = refl
keyed false o x is = absurd (cc)

unkeyed : {X : Type 0} (b : Bool) (o : Option X) (x : X) → cond b o None ≡ Some x → o ≡ Some x
unkeyed true o x is = is
unkeyed false o x is = absurd (cc)

same_some : {X : Type 0} (b : Bool) (x y : X) → cond b (Some x) None ≡ Some y → x ≡ y
same_some true x y is = cc
same_some false x y is = absurd (cc)

-- A module line is no alias line.
pub alias_line-edge : (n : ℕ) (ws : List (List ℕ)) (e : EdgeLine) → edge_line n ws ≡ Some e → alias_line n ws ≡ None
alias_line-edge n [] e is = absurd (cc)
alias_line-edge n (a ∷ []) e is = absurd (cc)
alias_line-edge n (a ∷ b ∷ []) e is = absurd (cc)
alias_line-edge n (a ∷ b ∷ c ∷ []) e is = absurd (cc)
alias_line-edge n (key ∷ b ∷ c ∷ d ∷ more) e is =
    alias_key n key b c (d ∷ more) ((bytes_eq-Decides key (codes "module")).0 (keyed (bytes_eq key (codes "module")) (edge_between n d more (both (normal_of b) (normal_of c))) e is))

line-edge_between : (n : ℕ) (bound : List ℕ) (more : List (List ℕ)) (ends : Option (List ℕ × List ℕ)) (e : EdgeLine) → edge_between n bound more ends ≡ Some e → e.line ≡ n
line-edge_between n bound more None e is = absurd (cc)
line-edge_between n bound more (Some ends) e is = sym (ap (λ (x : EdgeLine). x.line) (same_some (nat_le (length bound) 64) _ e is))

-- A module line has the number of its line.
pub line-edge_line : (n : ℕ) (ws : List (List ℕ)) (e : EdgeLine) → edge_line n ws ≡ Some e → e.line ≡ n
line-edge_line n [] e is = absurd (cc)
line-edge_line n (a ∷ []) e is = absurd (cc)
line-edge_line n (a ∷ b ∷ []) e is = absurd (cc)
line-edge_line n (a ∷ b ∷ c ∷ []) e is = absurd (cc)
line-edge_line n (key ∷ b ∷ c ∷ d ∷ more) e is =
    line-edge_between n d more (both (normal_of b) (normal_of c)) e (unkeyed (bytes_eq key (codes "module")) (edge_between n d more (both (normal_of b) (normal_of c))) e is)

line-alias_between : (n : ℕ) (ends : Option (List ℕ × List ℕ)) (a : AliasLine) → alias_between n ends ≡ Some a → a.line ≡ n
line-alias_between n None a is = absurd (cc)
line-alias_between n (Some ends) a is = sym (ap (λ (x : AliasLine). x.line) (same_some true _ a is))

-- An alias line has the number of its line.
pub line-alias_line : (n : ℕ) (ws : List (List ℕ)) (a : AliasLine) → alias_line n ws ≡ Some a → a.line ≡ n
line-alias_line n [] x is = absurd (cc)
line-alias_line n (a ∷ []) x is = absurd (cc)
line-alias_line n (a ∷ b ∷ []) x is = absurd (cc)
line-alias_line n (key ∷ b ∷ c ∷ more) x is =
    line-alias_between n (both (normal_of b) (normal_of c)) x (unkeyed (bytes_eq key (codes "alias")) (alias_between n (both (normal_of b) (normal_of c))) x is)

-- Where the first five words are none, there are none.
pub words-none : (front ws : List (List ℕ)) → front ≡ take 5 ws → length front ≡ 0 → ws ≡ []
words-none front [] is none = refl
words-none front (w ∷ ws) is none = absurd (omega (arith, ap length is))

-- Where the first five words are some, there are some.
pub words-some : (front ws : List (List ℕ)) → front ≡ take 5 ws → (length front ≡ 0 → ⊥) → length ws ≡ 0 → ⊥
words-some front [] is some = λ none. some (ap length is)
words-some front (w ∷ ws) is some = λ none. omega arith

-- What the first five words are as a module line, the words are.
pub edge_line-front : (n : ℕ) (front ws : List (List ℕ)) (o : Option EdgeLine) → front ≡ take 5 ws → o ≡ edge_line n front → edge_line n ws ≡ o
edge_line-front n front ws o is read = sym (edge_line-take n ws) ∙ ap (edge_line n) (sym is) ∙ sym read

-- What the first five words are as an alias line, the words are.
pub alias_line-front : (n : ℕ) (front ws : List (List ℕ)) (o : Option AliasLine) → front ≡ take 5 ws → o ≡ alias_line n front → alias_line n ws ≡ o
alias_line-front n front ws o is read = sym (alias_line-take n ws) ∙ ap (alias_line n) (sym is) ∙ sym read
