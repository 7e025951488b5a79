-- The entries of jobs that are done one after another.
use Rattle.std.proofs.Common.{◌≡◌, ◌∙◌, ◌+◌, ◌*◌, ◌≤◌, ◌<◌, max, ℕ, Bool, true, false, List, [], ◌∷◌, ◌++◌, length, map, Option, Some, None, ap, ap₂, sym, subst, refl, arith, append_assoc, append-nil, length-append, if◌then◌else◌, ◌==◌, eq-eqb}
use Rattle.runtime_histories.specs.declared.entries.Entry.{Entry}
use Rattle.runtime_histories.specs.declared.entries.Reply.TheVariants.{Opened, Refused}
use Rattle.batch_jobs.specs.Jobs.{JobLine}
use Rattle.batch_runs.specs.Works.{Work, Skipped, Denied, Converted}
use Rattle.batch_runs.specs.Histories.{Call, Placed, calls_in, calls_of, call_of_job, calls_of_jobs, ask_of, weight, told_faults, told_fault, placed_from, own, ArePaired, AreCalled, IsCaller}
use Rattle.batch_alone.specs.Steps.{Enters, AreEntered, OpensAndCloses}
use Rattle.batch_runs.proofs.Weights.{weight-append}
use Rattle.batch_runs.proofs.Pairing.{placed-append, paired-append}
use Rattle.runtime_histories.specs.Settings.{Setting}
use Rattle.batch_runs.specs.Meanings.{opening, closing}

pub calls_of-append : (xs ys : List Entry) → calls_of (xs ++ ys) ≡ calls_of xs ++ calls_of ys
calls_of-append [] ys = refl
calls_of-append (e ∷ es) ys =
    ap (λ cs. calls_in e.event ++ cs) (calls_of-append es ys) ∙ sym (append_assoc (calls_in e.event) (calls_of es) (calls_of ys))

pub told_faults-append : (xs ys : List Entry) → told_faults (xs ++ ys) ≡ told_faults xs + told_faults ys
told_faults-append xs ys =
    ap (weight (λ c. told_fault c.refusal)) (calls_of-append xs ys) ∙ weight-append (λ c. told_fault c.refusal) (calls_of xs) (calls_of ys)

enters_length : (s : Setting) (caller at : ℕ) (j : JobLine) (w : Work) (es : List Entry) → Enters s caller at j w es → length es ≤ 2
enters_length s caller at j (Skipped miss) es h = let e = ap length h in omega (arith, e)
enters_length s caller at j (Denied r) es h = let e = ap length h in omega (arith, e)
enters_length s caller at j (Converted made) es h = let e = ap length h.is in omega (arith, e)

pub entered_length : (s : Setting) (caller at : ℕ) (js : List JobLine) (ws : List Work) (es : List Entry) → AreEntered s caller at js ws es → length es ≤ 2 * length js
entered_length s caller at [] [] es h = let e = ap length h in omega (arith, e)
entered_length s caller at [] (w ∷ ws) es h = absurd h
entered_length s caller at (j ∷ js) [] es h = absurd h
entered_length s caller at (j ∷ js) (w ∷ ws) es h =
    let these = enters_length s caller at j w h.0 h.3 in
    let rest = entered_length s caller (at + length h.0) js ws h.1 h.4 in
    let e : length es ≡ length h.0 + length h.1 = ap length h.2 ∙ length-append h.0 h.1 in
    omega (arith, these, rest, e)

pub entered_snoc : (s : Setting) (caller at : ℕ) (js : List JobLine) (ws : List Work) (es : List Entry) (j : JobLine) (w : Work) (more : List Entry)
    → AreEntered s caller at js ws es → Enters s caller (at + length es) j w more → AreEntered s caller at (js ++ j ∷ []) (ws ++ w ∷ []) (es ++ more)
entered_snoc s caller at [] [] es j w more h one =
    let none : at + length es ≡ at = let e = ap length h in omega (arith, e) in
    let P : ℕ → Type 0 = λ p. Enters s caller p j w more in
    (more, [], ap (λ xs. xs ++ more) h ∙ sym (append-nil more), subst P none one, refl)
entered_snoc s caller at [] (v ∷ ws) es j w more h one = absurd h
entered_snoc s caller at (k ∷ js) [] es j w more h one = absurd h
entered_snoc s caller at (k ∷ js) (v ∷ ws) es j w more h one =
    let place : at + length es ≡ (at + length h.0) + length h.1 = let e = ap length h.2 ∙ length-append h.0 h.1 in omega (arith, e) in
    let P : ℕ → Type 0 = λ p. Enters s caller p j w more in (
      h.0,
      h.1 ++ more,
      ap (λ xs. xs ++ more) h.2 ∙ append_assoc h.0 h.1 more,
      h.3,
      entered_snoc s caller (at + length h.0) js ws h.1 j w more h.4 (subst P place one),
    )

-- ---- calls

enters_calls : (s : Setting) (caller at : ℕ) (j : JobLine) (w : Work) (es : List Entry) → Enters s caller at j w es → calls_of es ≡ call_of_job s j w
enters_calls s caller at j (Skipped miss) es h = ap calls_of h
enters_calls s caller at j (Denied r) es h = ap calls_of h
enters_calls s caller at j (Converted made) es h = ap calls_of h.is

pub entered_calls : (s : Setting) (caller at : ℕ) (js : List JobLine) (ws : List Work) (es : List Entry) → AreEntered s caller at js ws es → calls_of es ≡ calls_of_jobs s js ws
entered_calls s caller at [] [] es h = ap calls_of h
entered_calls s caller at [] (w ∷ ws) es h = absurd h
entered_calls s caller at (j ∷ js) [] es h = absurd h
entered_calls s caller at (j ∷ js) (w ∷ ws) es h =
    ap calls_of h.2 ∙ calls_of-append h.0 h.1
    ∙ ap₂ (λ (xs ys : List Call). xs ++ ys) (enters_calls s caller at j w h.0 h.3) (entered_calls s caller (at + length h.0) js ws h.1 h.4)

-- ---- pairs and callers

enters_paired : (s : Setting) (caller at : ℕ) (j : JobLine) (w : Work) (es : List Entry) → Enters s caller at j w es → ArePaired None (placed_from at es) None
enters_paired s caller at j (Skipped miss) es h = let P : List Entry → Type 0 = λ xs. ArePaired None (placed_from at xs) None in subst P (sym h) refl
enters_paired s caller at j (Denied r) es h = let P : List Entry → Type 0 = λ xs. ArePaired None (placed_from at xs) None in subst P (sym h) (None, refl, refl)
enters_paired s caller at j (Converted made) es h =
    let P : List Entry → Type 0 = λ xs. ArePaired None (placed_from at xs) None in subst P (sym h.is) (Some at, refl, (None, (refl, refl), refl))

pub entered_paired : (s : Setting) (caller at : ℕ) (js : List JobLine) (ws : List Work) (es : List Entry) → AreEntered s caller at js ws es → ArePaired None (placed_from at es) None
entered_paired s caller at [] [] es h = let P : List Entry → Type 0 = λ xs. ArePaired None (placed_from at xs) None in subst P (sym h) refl
entered_paired s caller at [] (w ∷ ws) es h = absurd h
entered_paired s caller at (j ∷ js) [] es h = absurd h
entered_paired s caller at (j ∷ js) (w ∷ ws) es h =
    let P : List Placed → Type 0 = λ ps. ArePaired None ps None in
    subst P (sym (ap (placed_from at) h.2 ∙ placed-append at h.0 h.1))
    (paired-append None None None (placed_from at h.0) (placed_from (at + length h.0) h.1) (enters_paired s caller at j w h.0 h.3)
    (entered_paired s caller (at + length h.0) js ws h.1 h.4))

-- every entry is this caller's
abbrev pub AreOf : ℕ → List Entry → Type 0
AreOf caller [] = Unit {0}
AreOf caller (e ∷ es) = (e.caller ≡ caller) × AreOf caller es

of-append : (caller : ℕ) (xs ys : List Entry) → AreOf caller xs → AreOf caller ys → AreOf caller (xs ++ ys)
of-append caller [] ys h k = k
of-append caller (e ∷ es) ys h k = (h.0, of-append caller es ys h.1 k)

enters_of : (s : Setting) (caller at : ℕ) (j : JobLine) (w : Work) (es : List Entry) → Enters s caller at j w es → AreOf caller es
enters_of s caller at j (Skipped miss) es h = subst (AreOf caller) (sym h) tt
enters_of s caller at j (Denied r) es h = subst (AreOf caller) (sym h) (refl, tt)
enters_of s caller at j (Converted made) es h = subst (AreOf caller) (sym h.is) (refl, (refl, tt))

pub entered_of : (s : Setting) (caller at : ℕ) (js : List JobLine) (ws : List Work) (es : List Entry) → AreEntered s caller at js ws es → AreOf caller es
entered_of s caller at [] [] es h = subst (AreOf caller) (sym h) tt
entered_of s caller at [] (w ∷ ws) es h = absurd h
entered_of s caller at (j ∷ js) [] es h = absurd h
entered_of s caller at (j ∷ js) (w ∷ ws) es h =
    subst (AreOf caller) (sym h.2) (of-append caller h.0 h.1 (enters_of s caller at j w h.0 h.3) (entered_of s caller (at + length h.0) js ws h.1 h.4))

-- what one caller has of entries that are all one's
pub own_of_one : (one caller at : ℕ) (es : List Entry) → AreOf one es → ArePaired None (placed_from at es) None → ArePaired None (own caller (placed_from at es)) None
own_of_one one caller at es all h = go (one == caller) refl
  where
    keeps : (at : ℕ) (es : List Entry) (b : Bool) → AreOf one es → (one == caller) ≡ b → own caller (placed_from at es) ≡ (if b then placed_from at es else [])
    keeps at [] true all is = refl
    keeps at [] false all is = refl
    keeps at (e ∷ es) b all is =
        let same : (e.caller == caller) ≡ b = ap (λ c. c == caller) all.0 ∙ is in
        let P : Bool → Type 0 = λ t. (if t then record { at = at; entry = e } ∷ own caller (placed_from (at + 1) es) else own caller (placed_from (at + 1) es))
        ≡ (if b then placed_from at (e ∷ es) else []) in
        subst P (sym same) (step b (keeps (at + 1) es b all.1 is))
      where
        step : (b : Bool) → own caller (placed_from (at + 1) es) ≡ (if b then placed_from (at + 1) es else [])
            → (if b then record { at = at; entry = e } ∷ own caller (placed_from (at + 1) es) else own caller (placed_from (at + 1) es))
            ≡ (if b then placed_from at (e ∷ es) else [])
        step true h = ap (λ ps. record { at = at; entry = e } ∷ ps) h
        step false h = h

    go : (b : Bool) → (one == caller) ≡ b → ArePaired None (own caller (placed_from at es)) None
    go true is = let P : List Placed → Type 0 = λ ps. ArePaired None ps None in subst P (sym (keeps at es true all is)) h
    go false is = let P : List Placed → Type 0 = λ ps. ArePaired None ps None in subst P (sym (keeps at es false all is)) refl

pub called_one : (workers : ℕ) (es : List Entry) → AreOf 1 es → AreCalled workers es
called_one workers [] h = tt
called_one workers (e ∷ es) h =
    (let is = h.0 in record { low = omega (arith, is); high = omega (arith, is) }, called_one workers es h.1)
