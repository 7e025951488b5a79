-- The module lines of a text are within the limits.
use Rattle.std.proofs.Common.{◌≡◌, ℕ, zero, suc, ◌+◌, ◌<◌, ◌≤◌, Bool, true, false, cond, List, [], ◌∷◌, length, get_or, map, Option, Some, None, Ok, refl, sym, ap, subst, arith, add-one}
use Rattle.std.specs.Prelude.{All, codes, nat_le, unwrap_or, ◌&&◌}
use Rattle.std.specs.List.{enumerate_from, cons_option, list_all}
use Rattle.std.specs.List.Sorted.{IsStrictlyIncreasing}
use Rattle.std.specs.Str.{bytes_eq}
use Rattle.std.proofs.lemmas.List.Elements.{All-nil, All-cons, All-weaker, All-map}
use Rattle.std.proofs.lemmas.Bool.{leb-true}
use Rattle.text_lines.specs.Lines.{lines}
use Rattle.text_lines.proofs.LineLemmas.{length-lines}
use Rattle.names_alias.specs.NameForm.{normal_of}
use Rattle.modules_conf.specs.Cost.{is_digit, decimal, cost_of}
use Rattle.modules_conf.specs.Modules.{conf_words, both, edge_between, edge_line, edges_among, edge_lines, alias_lines, passed_lines, line_too_many, conf_or_fault, conf_of}
use Rattle.modules_conf.specs.Limits.{IsWithinLimits}
use Rattle.text_lines.specs.Limits.{longest_text}
use Rattle.modules_conf.specs.Numbers.{most_cost, most_lines}
use Rattle.modules_conf.specs.declared.lines.EdgeLine.{EdgeLine}
use Rattle.modules_conf.specs.declared.conf.Conf.{Conf}
use Rattle.modules_conf.proofs.LineLemmas.{line-edge_line}

All-cons_option : {X : Type 0} (P : X → Type 0) (o : Option X) (xs : List X) → ((x : X) → o ≡ Some x → P x) → All P xs → All P (cons_option o xs)
All-cons_option P None xs first rest = rest
All-cons_option P (Some x) xs first rest = All-cons P x xs (first x refl) rest

-- The edges among lines that are numbered from m on have numbers from m on, and below the end.
numbers_from : (m : ℕ) (ls : List (List ℕ)) → All (λ (e : EdgeLine). (m ≤ e.line) × (e.line < m + length ls)) (edges_among (enumerate_from m ls))
numbers_from m [] = All-nil _
numbers_from m (l ∷ ls) =
    All-cons_option (λ (e : EdgeLine). (m ≤ e.line) × (e.line < m + length (l ∷ ls))) (edge_line m (conf_words l)) (edges_among (enumerate_from (m + 1) ls))
    (λ e is. (omega (arith, line-edge_line m (conf_words l) e is), omega (arith, line-edge_line m (conf_words l) e is)))
    (All-weaker (λ (e : EdgeLine). (m + 1 ≤ e.line) × (e.line < m + 1 + length ls)) (λ (e : EdgeLine). (m ≤ e.line) × (e.line < m + length (l ∷ ls))) (λ e h. (omega (arith, h.0), omega (arith, h.1)))
    (edges_among (enumerate_from (m + 1) ls)) (numbers_from (m + 1) ls))

rises_at : (x : ℕ) (xs : List ℕ) → All (λ y. x < y) xs → IsStrictlyIncreasing xs → (k : ℕ) → suc k < length (x ∷ xs) → get_or (x ∷ xs) k 0 < get_or xs k 0
rises_at x xs above rising zero lt = above 0 0 (omega arith)
rises_at x xs above rising (suc k) lt = subst (λ n. get_or xs k 0 < get_or xs n 0) (add-one k) (rising k (omega arith))

increasing-cons : (x : ℕ) (xs : List ℕ) → All (λ y. x < y) xs → IsStrictlyIncreasing xs → IsStrictlyIncreasing (x ∷ xs)
increasing-cons x xs above rising = λ k lt. subst (λ n. get_or (x ∷ xs) k 0 < get_or (x ∷ xs) n 0) (sym (add-one k)) (rises_at x xs above rising k (omega (arith, lt)))

increasing-option : (o : Option EdgeLine) (m : ℕ) (es : List EdgeLine) → ((e : EdgeLine) → o ≡ Some e → e.line ≡ m) → All (λ (e : EdgeLine). m + 1 ≤ e.line) es
    → IsStrictlyIncreasing (map (λ (e : EdgeLine). e.line) es) → IsStrictlyIncreasing (map (λ (e : EdgeLine). e.line) (cons_option o es))
increasing-option None m es first later rising = rising
increasing-option (Some e) m es first later rising =
    increasing-cons e.line (map (λ (e : EdgeLine). e.line) es)
    (All-map (λ y. e.line < y) (λ (e : EdgeLine). e.line) es (All-weaker (λ (f : EdgeLine). m + 1 ≤ f.line) (λ (f : EdgeLine). e.line < f.line) (λ f h. omega (arith, h, first e refl)) es later)) rising

-- The edges among numbered lines rise.
numbers_rise : (m : ℕ) (ls : List (List ℕ)) → IsStrictlyIncreasing (map (λ (e : EdgeLine). e.line) (edges_among (enumerate_from m ls)))
numbers_rise m [] = λ k lt. absurd (omega arith)
numbers_rise m (l ∷ ls) =
    increasing-option (edge_line m (conf_words l)) m (edges_among (enumerate_from (m + 1) ls)) (line-edge_line m (conf_words l))
    (All-weaker (λ (e : EdgeLine). (m + 1 ≤ e.line) × (e.line < m + 1 + length ls)) (λ (e : EdgeLine). m + 1 ≤ e.line) (λ e h. h.0) (edges_among (enumerate_from (m + 1) ls)) (numbers_from (m + 1) ls))
    (numbers_rise (m + 1) ls)

abbrev IsCost : ℕ → Type 0
IsCost n = (1 ≤ n) × (n ≤ most_cost)

cost_in_range : (a b c : Bool) (n : ℕ) → nat_le 1 n ≡ b → nat_le n most_cost ≡ c → IsCost (unwrap_or (cond (a && b && c) (Some n) None) 1)
cost_in_range true true true n low high = (leb-true 1 n low, leb-true n most_cost high)
cost_in_range true true false n low high = (omega arith, omega arith)
cost_in_range true false c n low high = (omega arith, omega arith)
cost_in_range false b c n low high = (omega arith, omega arith)

IsCost-of : (ws : List (List ℕ)) → IsCost (cost_of ws)
IsCost-of [] = (omega arith, omega arith)
IsCost-of (w ∷ ws) = cost_in_range (list_all is_digit w) (nat_le 1 (decimal w)) (nat_le (decimal w) most_cost) (decimal w) refl refl

IsCost-kept : (b : Bool) (x y : EdgeLine) → cond b (Some x) None ≡ Some y → IsCost x.cost → IsCost y.cost
IsCost-kept true x y is cost = let same : x ≡ y = cc in subst (λ (e : EdgeLine). IsCost e.cost) same cost
IsCost-kept false x y is cost = absurd (cc)

IsCost-between : (n : ℕ) (bound : List ℕ) (more : List (List ℕ)) (ends : Option (List ℕ × List ℕ)) (e : EdgeLine) → edge_between n bound more ends ≡ Some e → IsCost e.cost
IsCost-between n bound more None e is = absurd (cc)
IsCost-between n bound more (Some ends) e is = IsCost-kept (nat_le (length bound) 64) _ e is (IsCost-of more)

cond_some : {X : Type 0} (b : Bool) (o : Option X) (x : X) → cond b o None ≡ Some x → o ≡ Some x
cond_some true o x is = is
cond_some false o x is = absurd (cc)

IsCost-edge_line : (n : ℕ) (ws : List (List ℕ)) (e : EdgeLine) → edge_line n ws ≡ Some e → IsCost e.cost
IsCost-edge_line n [] e is = absurd (cc)
IsCost-edge_line n (a ∷ []) e is = absurd (cc)
IsCost-edge_line n (a ∷ b ∷ []) e is = absurd (cc)
IsCost-edge_line n (a ∷ b ∷ c ∷ []) e is = absurd (cc)
IsCost-edge_line n (key ∷ b ∷ c ∷ d ∷ more) e is =
    IsCost-between n d more (both (normal_of b) (normal_of c)) e (cond_some (bytes_eq key (codes "module")) (edge_between n d more (both (normal_of b) (normal_of c))) e is)

costs_from : (m : ℕ) (ls : List (List ℕ)) → All (λ (e : EdgeLine). (1 ≤ e.cost) × (e.cost ≤ most_cost)) (edges_among (enumerate_from m ls))
costs_from m [] = All-nil _
costs_from m (l ∷ ls) =
    All-cons_option (λ (e : EdgeLine). (1 ≤ e.cost) × (e.cost ≤ most_cost)) (edge_line m (conf_words l)) (edges_among (enumerate_from (m + 1) ls)) (IsCost-edge_line m (conf_words l)) (costs_from (m + 1) ls)

kept_conf : (o : Option ℕ) (a b : Conf) → conf_or_fault o a ≡ Ok b → a ≡ b
kept_conf None a b is = cc
kept_conf (Some n) a b is = absurd (cc)

-- A text that stands for a configuration gives module lines within the limits.
pub IsWithinLimits-conf_of : (text : List ℕ) (conf : Conf) → conf_of text ≡ Ok conf → length text ≤ longest_text → length conf.edges ≤ most_lines → IsWithinLimits conf.edges
IsWithinLimits-conf_of text conf is short few =
    let whole : Conf = record { edges = edge_lines text; aliases = alias_lines text; passed = passed_lines text } in
    let edges : edge_lines text ≡ conf.edges = ap (λ (c : Conf). c.edges) (kept_conf (line_too_many whole) whole conf is) in
    record {
      rising = subst (λ es. IsStrictlyIncreasing (map (λ (e : EdgeLine). e.line) es)) edges (numbers_rise 1 (lines text));
      lines = subst (λ es. All (λ (e : EdgeLine). e.line ≤ longest_text) es) edges
          (All-weaker (λ (e : EdgeLine). (1 ≤ e.line) × (e.line < 1 + length (lines text))) (λ (e : EdgeLine). e.line ≤ longest_text) (λ e h. omega (arith, h.1, length-lines text)) (edge_lines text) (numbers_from 1 (lines text)));
      count = few;
      costs = subst (λ es. All (λ (e : EdgeLine). (1 ≤ e.cost) × (e.cost ≤ most_cost)) es) edges (costs_from 1 (lines text));
    }
