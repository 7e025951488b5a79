-- The history of workers that shared the jobs is that of the jobs.
use Rattle.std.proofs.lemmas.Bool.{cases_lt}
use Rattle.std.proofs.Common.{◌≡◌, ◌∙◌, ◌⊎◌, inl, inr, ◌+◌, ◌≤◌, max, ℕ, suc, zero, Bool, true, false, List, [], ◌∷◌, ◌++◌, map, Option, Some, None, ap, ap₂, sym, subst, refl, arith, if◌then◌else◌, ◌==◌, ◌≢◌, ◌<◌, eq-eqb, eqb-true, true≢false}
use Rattle.runtime_histories.specs.declared.entries.Entry.{Entry}
use Rattle.runtime_histories.specs.declared.entries.Reply.TheVariants.{Opened, Refused}
use Rattle.batch_jobs.specs.Jobs.{JobLine}
use Rattle.batch_runs.specs.Works.{Work, Skipped, Denied, Converted}
use Rattle.batch_runs.specs.Histories.{Ask, Call, Placed, weight, SameItems, calls_in, calls_of, call_of_job, calls_of_jobs, placed_from, own, ArePaired, AreCalled, IsCaller, IsHistory}
use Rattle.batch_runs.specs.Shares.{Share, placed, IsOwnOf, IsOpenedAndClosed, AreOwn, all_shares, drawn, HaveAt, AreAt, AreOfWorkers, IsShared}
use Rattle.batch_runs.proofs.Weights.{weight-append}
use Rattle.batch_runs.proofs.Pairing.{paired-append}
use Rattle.runtime_histories.specs.Settings.{Setting}

-- ---- what is summed over workers

abbrev pub total : ℕ → (ℕ → ℕ) → ℕ
total zero g = 0
total (suc n) g = total n g + g (suc n)

pub total-same : (n : ℕ) (g h : ℕ → ℕ) → ((c : ℕ) → 1 ≤ c → c ≤ n → g c ≡ h c) → total n g ≡ total n h
total-same zero g h f = refl
total-same (suc n) g h f =
    ap₂ (λ (a b : ℕ). a + b) (total-same n g h (λ c low high. f c low (omega (arith, high)))) (f (suc n) (omega arith) (omega arith))

pub total-zero : (n : ℕ) → total n (λ c. 0) ≡ 0
total-zero zero = refl
total-zero (suc n) = let i = total-zero n in omega (arith, i)

-- what one caller has is had once
abbrev pub has : ℕ → ℕ → ℕ → ℕ
has one x c = if one == c then x else 0

pub has_not : (one x c : ℕ) → c < one → has one x c ≡ 0
has_not one x c lt = go (one == c) refl
  where
    go : (b : Bool) → (one == c) ≡ b → has one x c ≡ 0
    go true is = absurd (let same : one ≡ c = eqb-true one c is in omega (arith, same, lt))
    go false is = ap (λ b. if b then x else 0) is

total-high : (n one x : ℕ) → n < one → total n (has one x) ≡ 0
total-high zero one x lt = refl
total-high (suc n) one x lt =
    let i = total-high n one x (omega (arith, lt)) in let h = has_not one x (suc n) lt in omega (arith, i, h)

pub total-has : (n one x : ℕ) → 1 ≤ one → one ≤ n → total n (has one x) ≡ x
total-has zero one x low high = absurd (omega (arith, low, high))
total-has (suc n) one x low high = go (λ less. total-has n one x low less) (one == suc n) refl
  where
    go : (one ≤ n → total n (has one x) ≡ x) → (b : Bool) → (one == suc n) ≡ b → total (suc n) (has one x) ≡ x
    go rest true is =
        let same : one ≡ suc n = eqb-true one (suc n) is in
        let none = total-high n one x (omega (arith, same)) in
        let here : has one x (suc n) ≡ x = ap (λ b. if b then x else 0) is in
        omega (arith, none, here)
    go rest false is =
        let here : has one x (suc n) ≡ 0 = ap (λ b. if b then x else 0) is in
        let other : one ≢ suc n = (λ same. true≢false (sym (eq-eqb one (suc n) same) ∙ is)) in
        let i = rest (omega (arith, high, other)) in
        omega (arith, i, here)

pub total-plus : (n : ℕ) (g h : ℕ → ℕ) → total n (λ c. g c + h c) ≡ total n g + total n h
total-plus zero g h = omega arith
total-plus (suc n) g h = let i = total-plus n g h in omega (arith, i)

-- ---- the openings of a history are those of its callers

abbrev pub calls_at : List Placed → List Call
calls_at [] = []
calls_at (p ∷ ps) = calls_in p.entry.event ++ calls_at ps

calls_at-append : (of : Call → ℕ) (ps qs : List Placed) → weight of (calls_at (ps ++ qs)) ≡ weight of (calls_at ps) + weight of (calls_at qs)
calls_at-append of [] qs = omega arith
calls_at-append of (p ∷ ps) qs =
    let i = calls_at-append of ps qs in
    let a = weight-append of (calls_in p.entry.event) (calls_at (ps ++ qs)) in
    let b = weight-append of (calls_in p.entry.event) (calls_at ps) in
    omega (arith, i, a, b)

own_one : (of : Call → ℕ) (at : ℕ) (e : Entry) (es : List Entry) (c : ℕ) → weight of (calls_at (own c (placed_from at (e ∷ es))))
    ≡ has e.caller (weight of (calls_in e.event)) c + weight of (calls_at (own c (placed_from (at + 1) es)))
own_one of at e es c = go (e.caller == c) refl
  where
    go : (b : Bool) → (e.caller == c) ≡ b → weight of (calls_at (own c (placed_from at (e ∷ es))))
        ≡ has e.caller (weight of (calls_in e.event)) c + weight of (calls_at (own c (placed_from (at + 1) es)))
    go true is =
        let a = ap (λ (b : Bool). weight of (calls_at (if b then placed at e ∷ own c (placed_from (at + 1) es) else own c (placed_from (at + 1) es)))) is in
        let b = ap (λ (b : Bool). if b then weight of (calls_in e.event) else 0) is in
        let d = weight-append of (calls_in e.event) (calls_at (own c (placed_from (at + 1) es))) in
        omega (arith, a, b, d)
    go false is =
        let a = ap (λ (b : Bool). weight of (calls_at (if b then placed at e ∷ own c (placed_from (at + 1) es) else own c (placed_from (at + 1) es)))) is in
        let b = ap (λ (b : Bool). if b then weight of (calls_in e.event) else 0) is in
        omega (arith, a, b)

pub parted : (of : Call → ℕ) (n at : ℕ) (es : List Entry) → AreOfWorkers n es → weight of (calls_of es) ≡ total n (λ c. weight of (calls_at (own c (placed_from at es))))
parted of n at [] h = sym (total-zero n)
parted of n at (e ∷ es) h =
    let rest = parted of n (at + 1) es h.1 in
    let x = weight of (calls_in e.event) in
    let a = weight-append of (calls_in e.event) (calls_of es) in
    let each = total-same n (λ c. weight of (calls_at (own c (placed_from at (e ∷ es))))) (λ c. has e.caller x c + weight of (calls_at (own c (placed_from (at + 1) es)))) (λ c low high. own_one of at e es c) in
    let plus = total-plus n (has e.caller x) (λ c. weight of (calls_at (own c (placed_from (at + 1) es)))) in
    let here = total-has n e.caller x h.0.0 h.0.1 in
    a ∙ ap₂ (λ (u v : ℕ). u + v) (sym here) rest ∙ sym plus ∙ sym each

-- ---- a caller's openings are its shares'

abbrev pub call_weight : Setting → (Call → ℕ) → JobLine → Work → ℕ
call_weight s of j w = weight of (call_of_job s j w)

own_of_weight : (s : Setting) (of : Call → ℕ) (caller : ℕ) (j : JobLine) (w : Work) (ps : List Placed) → IsOwnOf s caller j w ps → weight of (calls_at ps) ≡ call_weight s of j w
own_of_weight s of caller j (Skipped miss) ps h = ap (λ qs. weight of (calls_at qs)) h
own_of_weight s of caller j (Denied r) ps h = ap (λ qs. weight of (calls_at qs)) h.1
own_of_weight s of caller j (Converted made) ps h = ap (λ qs. weight of (calls_at qs)) h.is

pub own_weight : (s : Setting) (of : Call → ℕ) (caller : ℕ) (ds : List Share) (ps : List Placed) → AreOwn s caller ds ps
    → weight of (calls_at ps) ≡ weight (λ (d : Share). call_weight s of d.job d.work) ds
own_weight s of caller [] ps h = ap (λ qs. weight of (calls_at qs)) h
own_weight s of caller (d ∷ ds) ps h =
    ap (λ qs. weight of (calls_at qs)) h.2 ∙ calls_at-append of h.0 h.1
    ∙ ap₂ (λ (a b : ℕ). a + b) (own_of_weight s of caller d.job d.work h.0 h.3) (own_weight s of caller ds h.1 h.4)

pub all_weight : (f : Share → ℕ) (n : ℕ) (shares : ℕ → List Share) → total n (λ c. weight f (shares c)) ≡ weight f (all_shares n shares)
all_weight f zero shares = refl
all_weight f (suc n) shares = ap (λ a. a + weight f (shares (suc n))) (all_weight f n shares) ∙ sym (weight-append f (all_shares n shares) (shares (suc n)))

-- ---- the shares' openings are the jobs'

-- what a job and its work weigh at a place
abbrev at_place : (JobLine → Work → ℕ) → List JobLine → List Work → ℕ → ℕ
at_place f [] ws place = 0
at_place f (j ∷ js) [] place = 0
at_place f (j ∷ js) (w ∷ ws) zero = f j w
at_place f (j ∷ js) (w ∷ ws) (suc place) = at_place f js ws place

at_have : (f : JobLine → Work → ℕ) (js : List JobLine) (ws : List Work) (place : ℕ) (j : JobLine) (w : Work) → HaveAt js ws place j w → f j w ≡ at_place f js ws place
at_have f [] ws place j w h = absurd h
at_have f (k ∷ js) [] place j w h = absurd h
at_have f (k ∷ js) (v ∷ ws) zero j w h = ap₂ f h.0 h.1
at_have f (k ∷ js) (v ∷ ws) (suc place) j w h = at_have f js ws place j w h

shares_at : (f : JobLine → Work → ℕ) (js : List JobLine) (ws : List Work) (ds : List Share) → AreAt js ws ds
    → weight (λ (d : Share). f d.job d.work) ds ≡ weight (at_place f js ws) (map (λ (d : Share). d.place) ds)
shares_at f js ws [] h = refl
shares_at f js ws (d ∷ ds) h = ap₂ (λ (a b : ℕ). a + b) (at_have f js ws d.place d.job d.work h.0) (shares_at f js ws ds h.1)

weight-suc : (g : ℕ → ℕ) (xs : List ℕ) → weight g (map suc xs) ≡ weight (λ x. g (suc x)) xs
weight-suc g [] = refl
weight-suc g (x ∷ xs) = ap (λ a. g (suc x) + a) (weight-suc g xs)

weight-none : (xs : List ℕ) → weight (λ x. 0) xs ≡ 0
weight-none [] = refl
weight-none (x ∷ xs) = let i = weight-none xs in omega (arith, i)

drawn_weight : (s : Setting) (of : Call → ℕ) (js : List JobLine) (ws : List Work) → weight (at_place (call_weight s of) js ws) (drawn ws) ≡ weight of (calls_of_jobs s js ws)
drawn_weight s of [] ws = weight-none (drawn ws)
drawn_weight s of (j ∷ js) [] = refl
drawn_weight s of (j ∷ js) (Skipped miss ∷ ws) =
    weight-suc (at_place (call_weight s of) (j ∷ js) (Skipped miss ∷ ws)) (drawn ws) ∙ drawn_weight s of js ws
drawn_weight s of (j ∷ js) (Denied r ∷ ws) =
    ap (λ a. call_weight s of j (Denied r) + a)
    (weight-suc (at_place (call_weight s of) (j ∷ js) (Denied r ∷ ws)) (drawn ws) ∙ drawn_weight s of js ws)
    ∙ sym (weight-append of (call_of_job s j (Denied r)) (calls_of_jobs s js ws))
drawn_weight s of (j ∷ js) (Converted made ∷ ws) =
    ap (λ a. call_weight s of j (Converted made) + a)
    (weight-suc (at_place (call_weight s of) (j ∷ js) (Converted made ∷ ws)) (drawn ws) ∙ drawn_weight s of js ws)
    ∙ sym (weight-append of (call_of_job s j (Converted made)) (calls_of_jobs s js ws))

-- ---- pairs and callers

own_paired_one : (s : Setting) (caller : ℕ) (j : JobLine) (w : Work) (ps : List Placed) → IsOwnOf s caller j w ps → ArePaired None ps None
own_paired_one s caller j (Skipped miss) ps h = let P : List Placed → Type 0 = λ qs. ArePaired None qs None in subst P (sym h) refl
own_paired_one s caller j (Denied r) ps h = let P : List Placed → Type 0 = λ qs. ArePaired None qs None in subst P (sym h.1) (None, refl, refl)
own_paired_one s caller j (Converted made) ps h =
    let P : List Placed → Type 0 = λ qs. ArePaired None qs None in subst P (sym h.is) (Some h.at, refl, (None, (refl, refl), refl))

pub own_paired : (s : Setting) (caller : ℕ) (ds : List Share) (ps : List Placed) → AreOwn s caller ds ps → ArePaired None ps None
own_paired s caller [] ps h = let P : List Placed → Type 0 = λ qs. ArePaired None qs None in subst P (sym h) refl
own_paired s caller (d ∷ ds) ps h =
    let P : List Placed → Type 0 = λ qs. ArePaired None qs None in
    subst P (sym h.2) (paired-append None None None h.0 h.1 (own_paired_one s caller d.job d.work h.0 h.3) (own_paired s caller ds h.1 h.4))

pub own_none : (n caller at : ℕ) (es : List Entry) → AreOfWorkers n es → ((c : ℕ) → 1 ≤ c → c ≤ n → c ≢ caller) → own caller (placed_from at es) ≡ []
own_none n caller at [] h out = refl
own_none n caller at (e ∷ es) h out = go (own_none n caller (at + 1) es h.1 out) (e.caller == caller) refl
  where
    go : own caller (placed_from (at + 1) es) ≡ [] → (b : Bool) → (e.caller == caller) ≡ b → own caller (placed_from at (e ∷ es)) ≡ []
    go rest true is = absurd (out e.caller h.0.0 h.0.1 (eqb-true e.caller caller is))
    go rest false is =
        ap (λ (b : Bool). if b then placed at e ∷ own caller (placed_from (at + 1) es) else own caller (placed_from (at + 1) es)) is ∙ rest

pub all_called : (n : ℕ) (es : List Entry) → AreOfWorkers n es → AreCalled n es
all_called n [] h = tt
all_called n (e ∷ es) h =
    (let low = h.0.0 in let high = h.0.1 in record { low = low; high = omega (arith, low, high) }, all_called n es h.1)

-- ---- the whole

shared_pairs : (s : Setting) (n : ℕ) (jobs : List JobLine) (works : List Work) (shares : ℕ → List Share) (h : List Entry)
    → IsShared s n jobs works shares h → (caller : ℕ) → ArePaired None (own caller (placed_from 0 h)) None
shared_pairs s n jobs works shares h is caller = go caller (cases_lt caller 1) (cases_lt n caller)
  where
    go : (c : ℕ) → (c < 1) ⊎ (1 ≤ c) → (n < c) ⊎ (c ≤ n) → ArePaired None (own c (placed_from 0 h)) None
    go c (inr low) (inr high) = own_paired s c (shares c) (own c (placed_from 0 h)) (is.owned c low high)
    go c (inl low) high =
        let P : List Placed → Type 0 = λ qs. ArePaired None qs None in
        subst P (sym (own_none n c 0 h is.callers (λ k one most same. omega (arith, one, same, low)))) refl
    go c (inr low) (inl high) =
        let P : List Placed → Type 0 = λ qs. ArePaired None qs None in
        subst P (sym (own_none n c 0 h is.callers (λ k one most same. omega (arith, most, same, high)))) refl

pub shared_history : (s : Setting) (n : ℕ) (jobs : List JobLine) (works : List Work) (shares : ℕ → List Share) (h : List Entry)
    → IsShared s n jobs works shares h → IsHistory s n jobs works h
shared_history s n jobs works shares h is = record {
  orderly = record {
    legal = is.legal;
    pairs = shared_pairs s n jobs works shares h is;
    callers = all_called n h is.callers;
  };
  openings = λ of.
      parted of n 0 h is.callers
      ∙ total-same n (λ c. weight of (calls_at (own c (placed_from 0 h)))) (λ c. weight (λ (d : Share). call_weight s of d.job d.work) (shares c))
      (λ c low high. own_weight s of c (shares c) (own c (placed_from 0 h)) (is.owned c low high))
      ∙ all_weight (λ (d : Share). call_weight s of d.job d.work) n shares
      ∙ shares_at (call_weight s of) jobs works (all_shares n shares) is.there
      ∙ is.each_once (at_place (call_weight s of) jobs works)
      ∙ drawn_weight s of jobs works;
  in_order = λ none. absurd (let some = is.some in omega (arith, some, none));
}
