-- A reader between two lines, and what one line more does.
use Rattle.std.proofs.Common.{◌≡◌, ℕ, zero, suc, ◌+◌, ◌-◌, ◌≤◌, Bool, true, false, cond, not, ◌&&◌, List, [], ◌∷◌, ◌++◌, length, Option, Some, None, Ok, Err, refl, sym, ap, ◌∙◌, arith, append-nil, append_assoc, zero-add, nat_lt}
use Rattle.std.specs.Prelude.{slice_get, is_some}
use Rattle.std.specs.List.{enumerate_from, filter_map, cons_option}
use Rattle.std.specs.Option.{option_map}
use Rattle.std.proofs.lemmas.Option.{slice_get_past}
use Rattle.std.proofs.lemmas.Bool.{lt-ltb}
use Rattle.std.proofs.lemmas.List.Sums.{sum_by-cons}
use Rattle.text_lines.specs.Lines.{numbered_lines}
use Rattle.modules_conf.specs.Modules.{conf_words, edge_line, alias_line, edges_among, aliases_among, passed_among, is_passed, least_of, line_too_many, checked_conf, conf_or_fault, conf_of}
use Rattle.modules_conf.specs.Reading.{conf_with, IsFewEnough, Takes, Refuses}
use Rattle.modules_conf.specs.Numbers.{most_lines}
use Rattle.modules_conf.specs.declared.lines.EdgeLine.{EdgeLine}
use Rattle.modules_conf.specs.declared.lines.AliasLine.{AliasLine}
use Rattle.modules_conf.specs.declared.conf.Conf.{Conf}
use Rattle.modules_conf.specs.declared.fault.ConfFault.{ConfFault}
use Rattle.modules_conf.specs.declared.fault.ConfFault.TheVariants.{TooManyLines}
use Rattle.modules_conf.proofs.LineLemmas.{alias_line-edge, line-edge_line, line-alias_line}

same_conf : (e f : List EdgeLine) (a b : List AliasLine) (p q : ℕ) → e ≡ f → a ≡ b → p ≡ q
    → checked_conf (record { edges = e; aliases = a; passed = p }) ≡ checked_conf (record { edges = f; aliases = b; passed = q })
same_conf e f a b p q ef ab pq =
    ap (λ x. checked_conf (record { edges = x; aliases = a; passed = p })) ef
    ∙ ap (λ x. checked_conf (record { edges = f; aliases = x; passed = p })) ab
    ∙ ap (λ x. checked_conf (record { edges = f; aliases = b; passed = x })) pq

-- At the start nothing was read.
pub conf_with-start : (text : List ℕ) → conf_of text ≡ conf_with (record { edges = []; aliases = []; passed = 0 }) (numbered_lines text)
unfolding conf_with
conf_with-start text =
    let ps = numbered_lines text in
    same_conf (edges_among ps) (edges_among ps) (aliases_among ps) (aliases_among ps) (passed_among ps) (0 + passed_among ps) refl refl (sym (zero-add (passed_among ps)))

-- At the end nothing is left.
pub conf_with-end : (conf : Conf) → IsFewEnough conf → conf_with conf [] ≡ Ok conf
unfolding conf_with
conf_with-end conf few =
    same_conf (conf.edges ++ []) conf.edges (conf.aliases ++ []) conf.aliases (conf.passed + 0) conf.passed (append-nil conf.edges) (append-nil conf.aliases) (omega arith)
    ∙ rw (slice_get_past conf.edges most_lines few.edges, slice_get_past conf.aliases most_lines few.aliases) refl

-- The configuration with what a line and those behind it add.
conf_with-cons : (conf : Conf) (n : ℕ) (line : List ℕ) (ps : List (ℕ × List ℕ)) (e : Option EdgeLine) (a : Option AliasLine) (b : Bool)
    → edge_line n (conf_words line) ≡ e → alias_line n (conf_words line) ≡ a → is_passed n (conf_words line) ≡ b
    → conf_with conf ((n, line) ∷ ps) ≡ checked_conf (record { edges = conf.edges ++ cons_option e (edges_among ps); aliases = conf.aliases ++ cons_option a (aliases_among ps); passed = conf.passed + (cond b 1 0 + passed_among ps) })
unfolding conf_with
conf_with-cons conf n line ps e a b is_e is_a is_b =
    same_conf (conf.edges ++ edges_among ((n, line) ∷ ps)) (conf.edges ++ cons_option e (edges_among ps)) (conf.aliases ++ aliases_among ((n, line) ∷ ps)) (conf.aliases ++ cons_option a (aliases_among ps))
    (conf.passed + passed_among ((n, line) ∷ ps)) (conf.passed + (cond b 1 0 + passed_among ps))
    (ap (λ o. conf.edges ++ cons_option o (edges_among ps)) is_e)
    (ap (λ o. conf.aliases ++ cons_option o (aliases_among ps)) is_a)
    (ap (λ k. conf.passed + k) (sum_by-cons (λ p. cond (is_passed p.0 (conf_words p.1)) 1 0) (n, line) ps ∙ ap (λ t. cond t 1 0 + passed_among ps) is_b))

passed-edge : (n : ℕ) (ws : List (List ℕ)) (e : EdgeLine) → edge_line n ws ≡ Some e → is_passed n ws ≡ false
passed-edge n ws e is = rw is (and_false (nat_lt 0 (length ws)) (not (is_some (alias_line n ws))))
  where
    and_false : (a b : Bool) → ((a && false) && b) ≡ false
    and_false true b = refl
    and_false false b = refl

passed-alias : (n : ℕ) (ws : List (List ℕ)) (a : AliasLine) → alias_line n ws ≡ Some a → is_passed n ws ≡ false
passed-alias n ws a is = rw is (and_false (nat_lt 0 (length ws) && not (is_some (edge_line n ws))))
  where
    and_false : (a : Bool) → (a && false) ≡ false
    and_false true = refl
    and_false false = refl

-- A line without words adds nothing.
pub Takes-empty : (conf : Conf) (n : ℕ) (line : List ℕ) → conf_words line ≡ [] → Takes conf n line conf
unfolding conf_with
Takes-empty conf n line none = λ ls.
    let ps = enumerate_from (n + 1) ls in
    conf_with-cons conf n line ps None None false (ap (edge_line n) none) (ap (alias_line n) none) (ap (is_passed n) none)
    ∙ ap (λ k. checked_conf (record { edges = conf.edges ++ edges_among ps; aliases = conf.aliases ++ aliases_among ps; passed = conf.passed + k })) (zero-add (passed_among ps))

-- A module line adds itself.
pub Takes-edge : (conf : Conf) (n : ℕ) (line : List ℕ) (e : EdgeLine) (edges : List EdgeLine) → edge_line n (conf_words line) ≡ Some e
    → edges ≡ conf.edges ++ e ∷ [] → Takes conf n line (record { edges = edges; aliases = conf.aliases; passed = conf.passed })
unfolding conf_with
Takes-edge conf n line e edges is pushed = λ ls.
    let ps = enumerate_from (n + 1) ls in
    conf_with-cons conf n line ps (Some e) None false is (alias_line-edge n (conf_words line) e is) (passed-edge n (conf_words line) e is)
    ∙ same_conf (conf.edges ++ e ∷ edges_among ps) (edges ++ edges_among ps) (conf.aliases ++ aliases_among ps) (conf.aliases ++ aliases_among ps) (conf.passed + (0 + passed_among ps)) (conf.passed + passed_among ps)
    (sym (append_assoc conf.edges (e ∷ []) (edges_among ps)) ∙ ap (λ xs. xs ++ edges_among ps) (sym pushed)) refl (omega arith)

-- An alias line that is no module line adds itself.
pub Takes-alias : (conf : Conf) (n : ℕ) (line : List ℕ) (a : AliasLine) (aliases : List AliasLine) → edge_line n (conf_words line) ≡ None → alias_line n (conf_words line) ≡ Some a
    → aliases ≡ conf.aliases ++ a ∷ [] → Takes conf n line (record { edges = conf.edges; aliases = aliases; passed = conf.passed })
unfolding conf_with
Takes-alias conf n line a aliases no_edge is pushed = λ ls.
    let ps = enumerate_from (n + 1) ls in
    conf_with-cons conf n line ps None (Some a) false no_edge is (passed-alias n (conf_words line) a is)
    ∙ same_conf (conf.edges ++ edges_among ps) (conf.edges ++ edges_among ps) (conf.aliases ++ a ∷ aliases_among ps) (aliases ++ aliases_among ps) (conf.passed + (0 + passed_among ps)) (conf.passed + passed_among ps)
    refl (sym (append_assoc conf.aliases (a ∷ []) (aliases_among ps)) ∙ ap (λ xs. xs ++ aliases_among ps) (sym pushed)) (omega arith)

-- Any other line with words is passed over.
pub Takes-passed : (conf : Conf) (n : ℕ) (line : List ℕ) → (length (conf_words line) ≡ 0 → ⊥) → edge_line n (conf_words line) ≡ None → alias_line n (conf_words line) ≡ None
    → Takes conf n line (record { edges = conf.edges; aliases = conf.aliases; passed = conf.passed + 1 })
unfolding conf_with
Takes-passed conf n line some no_edge no_alias = λ ls.
    let ps = enumerate_from (n + 1) ls in
    let passed : is_passed n (conf_words line) ≡ true = rw (no_edge, no_alias, lt-ltb 0 (length (conf_words line)) (omega arith)) refl in
    conf_with-cons conf n line ps None None true no_edge no_alias passed
    ∙ same_conf (conf.edges ++ edges_among ps) (conf.edges ++ edges_among ps) (conf.aliases ++ aliases_among ps) (conf.aliases ++ aliases_among ps) (conf.passed + (1 + passed_among ps)) (conf.passed + 1 + passed_among ps)
    refl refl (omega arith)

-- The element behind so many others.
slice_get-seam : {X : Type 0} (xs : List X) (y : X) (ys : List X) (n : ℕ) → n ≡ length xs → slice_get (xs ++ y ∷ ys) n ≡ Some y
slice_get-seam [] y ys n is = ap (slice_get (y ∷ ys)) is
slice_get-seam (x ∷ xs) y ys n is = ap (slice_get ((x ∷ xs) ++ y ∷ ys)) is ∙ slice_get-seam xs y ys (length xs) refl

least-before : (n m : ℕ) → n ≤ m → least_of (Some n) (Some m) ≡ Some n
least-before n m le = ap Some (omega arith)

least-after : (n m : ℕ) → m ≤ n → least_of (Some n) (Some m) ≡ Some m
least-after n m le = ap Some (omega arith)

-- What a line gives is numbered by it.
abbrev Numbers : {X : Type 0} → (X → ℕ) → (ℕ × List ℕ → Option X) → Type 0
Numbers {X} line f = (p : ℕ × List ℕ) (x : X) → f p ≡ Some x → line x ≡ p.0

later_at : {X : Type 0} (line : X → ℕ) (n : ℕ) (x : X) (o : Option X) (rest : List X) (k : ℕ) → ((y : X) → o ≡ Some y → n ≤ line y)
    → ((i : ℕ) → slice_get rest i ≡ Some x → n ≤ line x) → slice_get (cons_option o rest) k ≡ Some x → n ≤ line x
later_at line n x None rest k first more is = more k is
later_at line n x (Some y) rest zero first more is = first x is
later_at line n x (Some y) rest (suc k) first more is = more k is

later_get : {X : Type 0} (line : X → ℕ) (f : ℕ × List ℕ → Option X) → Numbers line f → (n m : ℕ) (ls : List (List ℕ)) (k : ℕ) (x : X) → n ≤ m
    → slice_get (filter_map f (enumerate_from m ls)) k ≡ Some x → n ≤ line x
later_get line f numbers n m [] k x le is = absurd (cc)
later_get line f numbers n m (l ∷ ls) k x le is =
    later_at line n x (f (m, l)) (filter_map f (enumerate_from (m + 1) ls)) k (λ y e. omega (arith, numbers (m, l) y e))
    (λ i at. later_get line f numbers n (m + 1) ls i x (omega arith) at) is

slice_get-behind : {X : Type 0} (xs ys : List X) (k : ℕ) → length xs ≤ k → slice_get (xs ++ ys) k ≡ slice_get ys (k - length xs)
slice_get-behind [] ys k le = ap (slice_get ys) (omega arith)
slice_get-behind (x ∷ xs) ys zero le = absurd (omega arith)
slice_get-behind (x ∷ xs) ys (suc k) le = slice_get-behind xs ys k (omega arith) ∙ ap (slice_get ys) (omega arith)

least-first : {X : Type 0} (line : X → ℕ) (n : ℕ) (o : Option X) → ((x : X) → o ≡ Some x → n ≤ line x) → least_of (Some n) (option_map line o) ≡ Some n
least-first line n None later = refl
least-first line n (Some x) later = least-before n (line x) (later x refl)

least-second : {X : Type 0} (line : X → ℕ) (n : ℕ) (o : Option X) → ((x : X) → o ≡ Some x → n ≤ line x) → least_of (option_map line o) (Some n) ≡ Some n
least-second line n None later = refl
least-second line n (Some x) later = least-after (line x) n (later x refl)

-- A line of the other kind that is one too many comes later.
later_than : {X : Type 0} (line : X → ℕ) (f : ℕ × List ℕ → Option X) → Numbers line f → (n : ℕ) (xs : List X) (ls : List (List ℕ)) → length xs ≤ most_lines
    → (x : X) → slice_get (xs ++ filter_map f (enumerate_from (n + 1) ls)) most_lines ≡ Some x → n ≤ line x
later_than line f numbers n xs ls few x is =
    later_get line f numbers n (n + 1) ls (most_lines - length xs) x (omega arith) (sym (slice_get-behind xs (filter_map f (enumerate_from (n + 1) ls)) most_lines few) ∙ is)

unless_least : (o : Option ℕ) (n : ℕ) (conf : Conf) → o ≡ Some n → conf_or_fault o conf ≡ Err (TooManyLines n)
unless_least o n conf is = ap (λ l. conf_or_fault l conf) is

-- A module line beyond the limit is refused, whatever lines follow.
pub Refuses-edge : (conf : Conf) (n : ℕ) (line : List ℕ) (e : EdgeLine) → edge_line n (conf_words line) ≡ Some e → IsFewEnough conf → most_lines ≤ length conf.edges
    → (fault : ConfFault) → fault ≡ TooManyLines e.line → Refuses conf n line fault
unfolding conf_with
Refuses-edge conf n line e is few full fault told = λ ls.
    let ps = enumerate_from (n + 1) ls in
    let number : e.line ≡ n = line-edge_line n (conf_words line) e is in
    let seam : slice_get (conf.edges ++ e ∷ edges_among ps) most_lines ≡ Some e = slice_get-seam conf.edges e (edges_among ps) most_lines (omega (arith, full, few.edges)) in
    let least : least_of (Some n) (option_map (λ (a : AliasLine). a.line) (slice_get (conf.aliases ++ aliases_among ps) most_lines)) ≡ Some n =
    least-first (λ (a : AliasLine). a.line) n (slice_get (conf.aliases ++ aliases_among ps) most_lines)
    (later_than (λ (a : AliasLine). a.line) (λ p. alias_line p.0 (conf_words p.1)) (λ p a. line-alias_line p.0 (conf_words p.1) a) n conf.aliases ls few.aliases) in
    conf_with-cons conf n line ps (Some e) None false is (alias_line-edge n (conf_words line) e is) (passed-edge n (conf_words line) e is)
    ∙ unless_least (line_too_many (record { edges = conf.edges ++ e ∷ edges_among ps; aliases = conf.aliases ++ aliases_among ps; passed = conf.passed + (0 + passed_among ps) })) n
    (record { edges = conf.edges ++ e ∷ edges_among ps; aliases = conf.aliases ++ aliases_among ps; passed = conf.passed + (0 + passed_among ps) })
    (rw (seam, number) least)
    ∙ ap (λ k. Err (TooManyLines k)) (sym number) ∙ ap Err (sym told)

-- An alias line beyond the limit is refused, whatever lines follow.
pub Refuses-alias : (conf : Conf) (n : ℕ) (line : List ℕ) (a : AliasLine) → edge_line n (conf_words line) ≡ None → alias_line n (conf_words line) ≡ Some a → IsFewEnough conf
    → most_lines ≤ length conf.aliases → (fault : ConfFault) → fault ≡ TooManyLines a.line → Refuses conf n line fault
unfolding conf_with
Refuses-alias conf n line a no_edge is few full fault told = λ ls.
    let ps = enumerate_from (n + 1) ls in
    let number : a.line ≡ n = line-alias_line n (conf_words line) a is in
    let seam : slice_get (conf.aliases ++ a ∷ aliases_among ps) most_lines ≡ Some a = slice_get-seam conf.aliases a (aliases_among ps) most_lines (omega (arith, full, few.aliases)) in
    let least : least_of (option_map (λ (e : EdgeLine). e.line) (slice_get (conf.edges ++ edges_among ps) most_lines)) (Some n) ≡ Some n =
    least-second (λ (e : EdgeLine). e.line) n (slice_get (conf.edges ++ edges_among ps) most_lines)
    (later_than (λ (e : EdgeLine). e.line) (λ p. edge_line p.0 (conf_words p.1)) (λ p e. line-edge_line p.0 (conf_words p.1) e) n conf.edges ls few.edges) in
    conf_with-cons conf n line ps None (Some a) false no_edge is (passed-alias n (conf_words line) a is)
    ∙ unless_least (line_too_many (record { edges = conf.edges ++ edges_among ps; aliases = conf.aliases ++ a ∷ aliases_among ps; passed = conf.passed + (0 + passed_among ps) })) n
    (record { edges = conf.edges ++ edges_among ps; aliases = conf.aliases ++ a ∷ aliases_among ps; passed = conf.passed + (0 + passed_among ps) })
    (rw (seam, number) least)
    ∙ ap (λ k. Err (TooManyLines k)) (sym number) ∙ ap Err (sym told)
