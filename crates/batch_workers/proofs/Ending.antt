-- Workers that are ended one after another, the last first.
use Rattle.std.proofs.Common.{◌≡◌, ◌∙◌, ◌+◌, ℕ, suc, Bool, true, false, ◌||◌, if◌then◌else◌, List, [], ◌∷◌, ◌++◌, length, Option, ap, sym, subst, refl, arith, eq-eqb, append_assoc}
use Rattle.std.proofs.lemmas.List.{map-append, append-nil}
use Rattle.history_core.specs.History.{without}
use Rattle.job_board.specs.Numbers.{AreSame, weight}
use Rattle.job_board.specs.Drawers.{drawn_by, is_drained}
use Rattle.batch_workers.specs.Parts.{Part}
use Rattle.batch_workers.specs.Toils.{AreNumbered}
use Rattle.batch_workers.specs.Teams.{countdown, drawn_in, filled, parts_of, pieces_in, some_drained, some_wanting, stints_of}
use Rattle.batch_workers.specs.declared.piece.Piece.{Piece}
use Rattle.batch_workers.specs.declared.worker.Worker.{Worker}
use Rattle.batch_workers.proofs.Filling.{filled-append}

pub weight-append : (of : ℕ → ℕ) (xs ys : List ℕ) → weight of (xs ++ ys) ≡ weight of xs + weight of ys
weight-append of [] ys = omega arith
weight-append of (x ∷ xs) ys = let i = weight-append of xs ys in omega (arith, i)

numbered-last : (n : ℕ) (ps : List Part) (p : Part) → AreNumbered n (ps ++ p ∷ []) → p.number ≡ n + length ps
numbered-last n [] p h = h.0 ∙ omega arith
numbered-last n (q ∷ ps) p h = let i = numbered-last (n + 1) ps p h.1 in omega (arith, i)

numbered-front : (n : ℕ) (ps qs : List Part) → AreNumbered n (ps ++ qs) → AreNumbered n ps
numbered-front n [] qs h = tt
numbered-front n (p ∷ ps) qs h = (h.0, numbered-front (n + 1) ps qs h.1)

without-first : (n m : ℕ) (xs : List ℕ) → n ≡ m → without n (m ∷ xs) ≡ xs
without-first n m xs same = ap (λ (b : Bool). if b then xs else m ∷ without n xs) (eq-eqb m n (sym same))

or-false : (b : Bool) → (b || false) ≡ (false || b)
or-false true = refl
or-false false = refl

or-assoc : (a b c : Bool) → (a || b) || c ≡ a || (b || c)
or-assoc true b c = refl
or-assoc false b c = refl

or-swap : (a b c : Bool) → (a || b) || c ≡ a || (c || b)
or-swap true b c = refl
or-swap false true true = refl
or-swap false true false = refl
or-swap false false true = refl
or-swap false false false = refl

module _ {C : Type 0} (part : C → Part) where
  pub numbered-rest : (all rest : List (Worker C)) (w : Worker C) → all ≡ rest ++ w ∷ [] → AreNumbered 1 (parts_of part all) → AreNumbered 1 (parts_of part rest)
  numbered-rest all rest w is h =
      let P : List Part → Type 0 = λ ps. AreNumbered 1 ps in
      numbered-front 1 (parts_of part rest) (part w.caller ∷ [])
      (subst P (ap (parts_of part) is ∙ map-append (λ (v : Worker C). part v.caller) rest (w ∷ [])) h)

  -- the number of the last worker is how many there are
  number-last : (all rest : List (Worker C)) (w : Worker C) → all ≡ rest ++ w ∷ [] → AreNumbered 1 (parts_of part all) → (part w.caller).number ≡ suc (length rest)
  number-last all rest w is h =
      let P : List Part → Type 0 = λ ps. AreNumbered 1 ps in
      let n = numbered-last 1 (parts_of part rest) (part w.caller)
      (subst P (ap (parts_of part) is ∙ map-append (λ (v : Worker C). part v.caller) rest (w ∷ [])) h) in
      let m = length-map-parts rest in omega (arith, n, m)
    where
      length-map-parts : (ws : List (Worker C)) → length (parts_of part ws) ≡ length ws
      length-map-parts [] = refl
      length-map-parts (v ∷ ws) = let i = length-map-parts ws in omega (arith, i)

  pub length-last : (all rest : List (Worker C)) (w : Worker C) → all ≡ rest ++ w ∷ [] → length all ≡ suc (length rest)
  length-last all rest w is = ap length is ∙ go rest
    where
      go : (ws : List (Worker C)) → length (ws ++ w ∷ []) ≡ suc (length ws)
      go [] = refl
      go (v ∷ ws) = let i = go ws in omega (arith, i)

  pub away-rest : (all rest : List (Worker C)) (w : Worker C) (away : List ℕ) → all ≡ rest ++ w ∷ [] → AreNumbered 1 (parts_of part all) → away ≡ countdown (length all)
      → without (part w.caller).number away ≡ countdown (length rest)
  away-rest all rest w away is numbered h =
      ap (without (part w.caller).number) (h ∙ ap countdown (length-last all rest w is))
      ∙ without-first (part w.caller).number (suc (length rest)) (countdown (length rest)) (number-last all rest w is numbered)

  pub ended-rest : (all rest : List (Worker C)) (w : Worker C) (ended : List Part) → all ≡ rest ++ w ∷ []
      → parts_of part rest ++ (part w.caller ∷ ended) ≡ parts_of part all ++ ended
  ended-rest all rest w ended is =
      sym (ap (λ ws. parts_of part ws ++ ended) is ∙ ap (λ ps. ps ++ ended) (map-append (λ (v : Worker C). part v.caller) rest (w ∷ []))
      ∙ append_assoc (parts_of part rest) (part w.caller ∷ []) ended)

  drawn-snoc : (rest : List (Worker C)) (w : Worker C) (of : ℕ → ℕ)
      → weight of (drawn_in (stints_of part (rest ++ w ∷ []))) ≡ weight of (drawn_in (stints_of part rest)) + weight of (drawn_by w.drawer)
  drawn-snoc [] w of = let a = weight-append of (drawn_by w.drawer) [] in omega (arith, a)
  drawn-snoc (v ∷ rest) w of =
      let i = drawn-snoc rest w of in
      let a = weight-append of (drawn_by v.drawer) (drawn_in (stints_of part (rest ++ w ∷ []))) in
      let b = weight-append of (drawn_by v.drawer) (drawn_in (stints_of part rest)) in
      omega (arith, i, a, b)

  pub drawn-rest : (all rest : List (Worker C)) (w : Worker C) (now next whole : List ℕ) → all ≡ rest ++ w ∷ [] → next ≡ now ++ drawn_by w.drawer
      → AreSame (now ++ drawn_in (stints_of part all)) whole → AreSame (next ++ drawn_in (stints_of part rest)) whole
  drawn-rest all rest w now next whole is more h of =
      let s = drawn-snoc rest w of in
      let e = ap (λ ws. weight of (drawn_in (stints_of part ws))) is in
      let n = ap (weight of) more ∙ weight-append of now (drawn_by w.drawer) in
      let a = weight-append of now (drawn_in (stints_of part all)) in
      let b = weight-append of next (drawn_in (stints_of part rest)) in
      let t = h of in
      omega (arith, s, e, n, a, b, t)

  pieces-snoc : (rest : List (Worker C)) (w : Worker C) → pieces_in (stints_of part (rest ++ w ∷ [])) ≡ pieces_in (stints_of part rest) ++ w.pieces.items
  pieces-snoc [] w = append-nil w.pieces.items
  pieces-snoc (v ∷ rest) w = ap (λ ds. v.pieces.items ++ ds) (pieces-snoc rest w) ∙ sym (append_assoc v.pieces.items (pieces_in (stints_of part rest)) w.pieces.items)

  pub slots-rest : (all rest : List (Worker C)) (w : Worker C) (now next whole : List (Option Piece)) → all ≡ rest ++ w ∷ [] → next ≡ filled now w.pieces.items
      → filled now (pieces_in (stints_of part all)) ≡ whole → filled next (pieces_in (stints_of part rest)) ≡ whole
  slots-rest all rest w now next whole is more h =
      ap (λ os. filled os (pieces_in (stints_of part rest))) more ∙ filled-append now (pieces_in (stints_of part rest)) w.pieces.items
      ∙ ap (filled now) (sym (pieces-snoc rest w) ∙ sym (ap (λ ws. pieces_in (stints_of part ws)) is)) ∙ h

  wanting-snoc : (rest : List (Worker C)) (w : Worker C) → some_wanting (stints_of part (rest ++ w ∷ [])) ≡ some_wanting (stints_of part rest) || w.wanting
  wanting-snoc [] w = or-false w.wanting
  wanting-snoc (v ∷ rest) w = ap (λ b. v.wanting || b) (wanting-snoc rest w) ∙ sym (or-assoc v.wanting (some_wanting (stints_of part rest)) w.wanting)

  pub wanting-rest : (all rest : List (Worker C)) (w : Worker C) (now next whole : Bool) → all ≡ rest ++ w ∷ [] → next ≡ now || w.wanting
      → now || some_wanting (stints_of part all) ≡ whole → next || some_wanting (stints_of part rest) ≡ whole
  wanting-rest all rest w now next whole is more h =
      ap (λ b. b || some_wanting (stints_of part rest)) more ∙ or-swap now w.wanting (some_wanting (stints_of part rest))
      ∙ ap (λ b. now || b) (sym (wanting-snoc rest w) ∙ sym (ap (λ ws. some_wanting (stints_of part ws)) is)) ∙ h

module _ {C : Type 0} where
  drained-snoc : (rest : List (Worker C)) (w : Worker C) → some_drained (rest ++ w ∷ []) ≡ some_drained rest || is_drained w.drawer
  drained-snoc [] w = or-false (is_drained w.drawer)
  drained-snoc (v ∷ rest) w = ap (λ b. is_drained v.drawer || b) (drained-snoc rest w) ∙ sym (or-assoc (is_drained v.drawer) (some_drained rest) (is_drained w.drawer))

  pub drained-rest : (all rest : List (Worker C)) (w : Worker C) (now next whole : Bool) → all ≡ rest ++ w ∷ [] → next ≡ now || is_drained w.drawer
      → now || some_drained all ≡ whole → next || some_drained rest ≡ whole
  drained-rest all rest w now next whole is more h =
      ap (λ b. b || some_drained rest) more ∙ or-swap now (is_drained w.drawer) (some_drained rest)
      ∙ ap (λ b. now || b) (sym (drained-snoc rest w) ∙ sym (ap some_drained is)) ∙ h
