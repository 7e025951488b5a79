-- The history of a runtime whose callers did jobs is that of the jobs.
use Rattle.std.proofs.lemmas.Bool.{cases_lt}
use Rattle.std.proofs.Common.{◌≡◌, ◌∙◌, ◌⊎◌, inl, inr, ◌+◌, ◌≤◌, ◌<◌, ◌==◌, ◌≢◌, ℕ, zero, suc, Bool, true, false, if◌then◌else◌, List, [], ◌∷◌, ◌++◌, length, map, None, ap, ap₂, sym, subst, refl, arith, eq-eqb, eqb-true, true≢false}
use Rattle.runtime_histories.specs.declared.entries.Entry.{Entry}
use Rattle.runtime_histories.specs.Settings.{Setting}
use Rattle.runtime_histories.specs.Legal.{Legal}
use Rattle.batch_jobs.specs.Jobs.{JobLine}
use Rattle.batch_runs.specs.Takings.{Taking}
use Rattle.batch_runs.specs.Works.{Work, Skipped, Denied, Converted}
use Rattle.batch_runs.specs.Histories.{Ask, Call, Placed, weight, calls_of, ask_of, placed_from, own, ArePaired, AreCalled, IsHistory, IsPart}
use Rattle.batch_runs.specs.Shares.{Share, AreOwn, all_shares, AreAt, AreOfWorkers}
use Rattle.batch_runs.proofs.Weights.{weight-append}
use Rattle.batch_runs.proofs.Sharing.{total, total-same, total-zero, total-has, total-plus, has, calls_at, parted, call_weight, own_weight, all_weight, own_paired, own_none, shared_history}
use Rattle.batch_workers.specs.Parts.{Part, HasNumber, AreOf, HaveOwn}
use Rattle.batch_workers.specs.Toils.{AreBegunBy, AreDoneBy, AreNumbered, AreOfJobs, OwnTheirs, Toil, job_at, places, places_of, shares_in}

-- the callers of what was done
abbrev pub callers_of : List Toil → List Part
callers_of ts = map (λ (t : Toil). t.part) ts

-- the shares of a number
abbrev shares_by : List Toil → ℕ → List Share
shares_by [] c = []
shares_by (t ∷ ts) c = if t.part.number == c then t.shares else shares_by ts c

-- ---- which numbers there are

numbers-in : (k n : ℕ) (ps : List Part) → AreNumbered k ps → HasNumber ps n → (k ≤ n) × (n < k + length ps)
numbers-in k n [] a h = absurd h
numbers-in k n (p ∷ ps) a h = go h (λ rest. numbers-in (k + 1) n ps a.1 rest)
  where
    go : (p.number ≡ n) ⊎ HasNumber ps n → (HasNumber ps n → (k + 1 ≤ n) × (n < k + 1 + length ps)) → (k ≤ n) × (n < k + length (p ∷ ps))
    go (inl is) more = let e = a.0 in ((omega (arith, e, is)), (omega (arith, e, is)))
    go (inr rest) more = let i = more rest in let lo = i.0 in let hi = i.1 in ((omega (arith, lo)), (omega (arith, hi)))

pub of-workers : (ps : List Part) (h : List Entry) → AreNumbered 1 ps → AreOf ps h → AreOfWorkers (length ps) h
of-workers ps [] a whose = tt
of-workers ps (e ∷ es) a whose =
    let i = numbers-in 1 e.caller ps a whose.0 in let hi = i.1 in ((i.0, omega (arith, hi)), of-workers ps es a whose.1)

none-by : (k c : ℕ) (ts : List Toil) → AreNumbered k (callers_of ts) → c < k → shares_by ts c ≡ []
none-by k c [] a lt = refl
none-by k c (t ∷ ts) a lt = go (none-by (k + 1) c ts a.1 (omega (arith, lt))) (t.part.number == c) refl
  where
    go : shares_by ts c ≡ [] → (b : Bool) → (t.part.number == c) ≡ b → shares_by (t ∷ ts) c ≡ []
    go rest true is = absurd (let e = eqb-true t.part.number c is in let n = a.0 in omega (arith, e, n, lt))
    go rest false is = ap (λ (b : Bool). if b then t.shares else shares_by ts c) is ∙ rest

-- ---- each caller's own entries are those of its shares

owned-by : (s : Setting) (h : List Entry) (k c : ℕ) (ts : List Toil) → AreNumbered k (callers_of ts) → HaveOwn h (callers_of ts) → OwnTheirs s ts
    → k ≤ c → c < k + length (callers_of ts) → AreOwn s c (shares_by ts c) (own c (placed_from 0 h))
owned-by s h k c [] a had own_them low high = absurd (omega (arith, low, high))
owned-by s h k c (t ∷ ts) a had own_them low high = go (λ more. owned-by s h (k + 1) c ts a.1 had.1 own_them.1 more (omega (arith, high))) (t.part.number == c) refl
  where
    go : (k + 1 ≤ c → AreOwn s c (shares_by ts c) (own c (placed_from 0 h))) → (b : Bool) → (t.part.number == c) ≡ b → AreOwn s c (shares_by (t ∷ ts) c) (own c (placed_from 0 h))
    go rest true is =
        let same = eqb-true t.part.number c is in
        let P : ℕ → Type 0 = λ n. AreOwn s n t.shares (own n (placed_from 0 h)) in
        let Q : List Placed → Type 0 = λ ps. AreOwn s t.part.number t.shares ps in
        let R : List Share → Type 0 = λ ds. AreOwn s c ds (own c (placed_from 0 h)) in
        subst R (sym (ap (λ (b : Bool). if b then t.shares else shares_by ts c) is)) (subst P same (subst Q (sym had.0) own_them.0))
    go rest false is =
        let R : List Share → Type 0 = λ ds. AreOwn s c ds (own c (placed_from 0 h)) in
        let other : k ≢ c = (λ same. true≢false (sym (eq-eqb t.part.number c (a.0 ∙ same)) ∙ is)) in
        subst R (sym (ap (λ (b : Bool). if b then t.shares else shares_by ts c) is)) (rest (omega (arith, low, other)))

-- ---- what the shares of all numbers weigh

by-one : (of : Share → ℕ) (k c : ℕ) (t : Toil) (ts : List Toil) → AreNumbered k (callers_of (t ∷ ts))
    → weight of (shares_by (t ∷ ts) c) ≡ has t.part.number (weight of t.shares) c + weight of (shares_by ts c)
by-one of k c t ts a = go (t.part.number == c) refl
  where
    go : (b : Bool) → (t.part.number == c) ≡ b → weight of (shares_by (t ∷ ts) c) ≡ has t.part.number (weight of t.shares) c + weight of (shares_by ts c)
    go true is =
        let same = eqb-true t.part.number c is in
        let none = ap (weight of) (none-by (k + 1) c ts a.1 (let n = a.0 in omega (arith, n, same))) in
        let here = ap (λ (b : Bool). weight of (if b then t.shares else shares_by ts c)) is in
        let had = ap (λ (b : Bool). if b then weight of t.shares else 0) is in
        omega (arith, none, here, had)
    go false is =
        let here = ap (λ (b : Bool). weight of (if b then t.shares else shares_by ts c)) is in
        let had = ap (λ (b : Bool). if b then weight of t.shares else 0) is in
        omega (arith, here, had)

by-total : (of : Share → ℕ) (n k : ℕ) (ts : List Toil) → AreNumbered k (callers_of ts) → 1 ≤ k → k + length (callers_of ts) ≤ n + 1
    → total n (λ c. weight of (shares_by ts c)) ≡ weight of (shares_in ts)
by-total of n k [] a some few = total-zero n
by-total of n k (t ∷ ts) a some few =
    let x = weight of t.shares in
    let number = a.0 in
    total-same n (λ c. weight of (shares_by (t ∷ ts) c)) (λ c. has t.part.number x c + weight of (shares_by ts c)) (λ c low high. by-one of k c t ts a)
    ∙ total-plus n (has t.part.number x) (λ c. weight of (shares_by ts c))
    ∙ ap₂ (λ (u v : ℕ). u + v) (total-has n t.part.number x (omega (arith, number, some)) (omega (arith, number, few)))
    (by-total of n (k + 1) ts a.1 (omega arith) (omega (arith, few)))
    ∙ sym (weight-append of t.shares (shares_in ts))

by-all : (of : Share → ℕ) (ts : List Toil) → AreNumbered 1 (callers_of ts)
    → weight of (all_shares (length (callers_of ts)) (shares_by ts)) ≡ weight of (shares_in ts)
by-all of ts a = sym (all_weight of (length (callers_of ts)) (shares_by ts)) ∙ by-total of (length (callers_of ts)) 1 ts a (omega arith) (omega arith)

module _ {A : Type 0} where
  pub weight-map : {B : Type 0} (of : B → ℕ) (f : A → B) (xs : List A) → weight of (map f xs) ≡ weight (λ (x : A). of (f x)) xs
  weight-map of f [] = refl
  weight-map of f (x ∷ xs) = ap (λ a. of (f x) + a) (weight-map of f xs)

  weight-less : (f g : A → ℕ) (xs : List A) → ((x : A) → f x ≤ g x) → weight f xs ≤ weight g xs
  weight-less f g [] less = omega arith
  weight-less f g (x ∷ xs) less = let a = less x in let i = weight-less f g xs less in omega (arith, a, i)

-- ---- all jobs were done

at-front : (jobs : List JobLine) (works : List Work) (xs ys : List Share) → AreAt jobs works (xs ++ ys) → AreAt jobs works xs
at-front jobs works [] ys h = tt
at-front jobs works (x ∷ xs) ys h = (h.0, at-front jobs works xs ys h.1)

at-back : (jobs : List JobLine) (works : List Work) (xs ys : List Share) → AreAt jobs works (xs ++ ys) → AreAt jobs works ys
at-back jobs works [] ys h = h
at-back jobs works (x ∷ xs) ys h = at-back jobs works xs ys h.1

at-both : (jobs : List JobLine) (works : List Work) (xs ys : List Share) → AreAt jobs works xs → AreAt jobs works ys → AreAt jobs works (xs ++ ys)
at-both jobs works [] ys h k = k
at-both jobs works (x ∷ xs) ys h k = (h.0, at-both jobs works xs ys h.1 k)

at-by : (jobs : List JobLine) (works : List Work) (ts : List Toil) (c : ℕ) → AreAt jobs works (shares_in ts) → AreAt jobs works (shares_by ts c)
at-by jobs works [] c h = tt
at-by jobs works (t ∷ ts) c h = go (t.part.number == c) (at-front jobs works t.shares (shares_in ts) h) (at-by jobs works ts c (at-back jobs works t.shares (shares_in ts) h))
  where
    go : (b : Bool) → AreAt jobs works t.shares → AreAt jobs works (shares_by ts c) → AreAt jobs works (if b then t.shares else shares_by ts c)
    go true x y = x
    go false x y = y

at-all : (jobs : List JobLine) (works : List Work) (f : ℕ → List Share) (n : ℕ) → ((c : ℕ) → AreAt jobs works (f c)) → AreAt jobs works (all_shares n f)
at-all jobs works f zero h = tt
at-all jobs works f (suc n) h = at-both jobs works (all_shares n f) (f (suc n)) (at-all jobs works f n h) (h (suc n))

pub whole-history : (s : Setting) (workers : ℕ) (jobs : List JobLine) (inputs : List Taking) (callers : List Part) (works : List Work) (h : List Entry)
    → AreDoneBy s workers jobs inputs callers works → 1 ≤ workers → Legal s h → HaveOwn h callers → AreOf callers h → IsHistory s workers jobs works h
whole-history s workers jobs inputs callers works h d some legal had whose =
    let ts = d.toils in
    let N : List Part → Type 0 = λ ps. AreNumbered 1 ps in
    let H : List Part → Type 0 = λ ps. HaveOwn h ps in
    let numbered = subst N d.is_callers d.numbered in
    let had_them = subst H d.is_callers had in
    let count : length (callers_of ts) ≡ workers = ap length (sym d.is_callers) ∙ d.count in
    let W : ℕ → Type 0 = λ n. AreOfWorkers n h in
    shared_history s workers jobs works (shares_by ts) h (record {
      legal = legal;
      some = some;
      callers = subst W d.count (of-workers callers h d.numbered whose);
      owned = λ c low high. owned-by s h 1 c ts numbered had_them d.own low (omega (arith, high, count));
      there = at-all jobs works (shares_by ts) workers (λ c. at-by jobs works ts c d.there);
      each_once = λ of.
          weight-map of (λ (e : Share). e.place) (all_shares workers (shares_by ts))
          ∙ ap (λ n. weight (λ (e : Share). of e.place) (all_shares n (shares_by ts))) (sym count)
          ∙ by-all (λ (e : Share). of e.place) ts numbered
          ∙ sym (weight-map of (λ (e : Share). e.place) (shares_in ts)) ∙ d.each_once of;
    })

-- ---- some jobs were begun

call-less : (s : Setting) (of : Ask → ℕ) (j : JobLine) (w : Work) → call_weight s (λ (c : Call). of c.ask) j w ≤ of (ask_of s j)
call-less s of j (Skipped miss) = omega arith
call-less s of j (Denied r) = omega arith
call-less s of j (Converted made) = omega arith

jobs-weight : (s : Setting) (of : Ask → ℕ) (jobs : List JobLine) (ds : List Share) → AreOfJobs jobs ds
    → weight (λ (d : Share). of (ask_of s d.job)) ds ≡ weight (λ (p : ℕ). of (ask_of s (job_at jobs p))) (places_of ds)
jobs-weight s of jobs [] h = refl
jobs-weight s of jobs (d ∷ ds) h = ap₂ (λ (a b : ℕ). a + b) (ap (λ j. of (ask_of s j)) h.0) (jobs-weight s of jobs ds h.1)

weight-suc : (g : ℕ → ℕ) (xs : List ℕ) → weight g (map suc xs) ≡ weight (λ x. g (suc x)) xs
weight-suc g [] = refl
weight-suc g (x ∷ xs) = ap (λ a. g (suc x) + a) (weight-suc g xs)

places-weight : (s : Setting) (of : Ask → ℕ) (jobs : List JobLine)
    → weight (λ (p : ℕ). of (ask_of s (job_at jobs p))) (places jobs) ≡ weight of (map (ask_of s) jobs)
places-weight s of [] = refl
places-weight s of (j ∷ js) = ap (λ a. of (ask_of s j) + a) (weight-suc (λ (p : ℕ). of (ask_of s (job_at (j ∷ js) p))) (places js) ∙ places-weight s of js)

called-by : (n workers : ℕ) (h : List Entry) → AreOfWorkers n h → n ≤ workers → AreCalled workers h
called-by n workers [] a few = tt
called-by n workers (e ∷ es) a few =
    ((let low = a.0.0 in let high = a.0.1 in record { low = low; high = omega (arith, low, high, few) }), called-by n workers es a.1 few)

pub part-history : (s : Setting) (workers : ℕ) (jobs : List JobLine) (callers : List Part) (h : List Entry)
    → AreBegunBy s workers jobs callers → Legal s h → HaveOwn h callers → AreOf callers h → IsPart s workers jobs h
part-history s workers jobs callers h d legal had whose =
    let ts = d.toils in
    let N : List Part → Type 0 = λ ps. AreNumbered 1 ps in
    let H : List Part → Type 0 = λ ps. HaveOwn h ps in
    let O : List Part → Type 0 = λ ps. AreOf ps h in
    let numbered = subst N d.is_callers d.numbered in
    let had_them = subst H d.is_callers had in
    let n = length (callers_of ts) in
    let of_them : AreOfWorkers n h = of-workers (callers_of ts) h numbered (subst O d.is_callers whose) in
    let few : n ≤ workers = (let e = ap length d.is_callers in let k = d.count in omega (arith, e, k)) in
    record {
      orderly = record {
        legal = legal;
        pairs = λ caller. pairs n (λ c low high. owned-by s h 1 c ts numbered had_them d.own low (omega (arith, high))) of_them caller (cases_lt caller 1) (cases_lt n caller);
        callers = called-by n workers h of_them few;
      };
      openings = λ of.
          let to : Call → ℕ = λ (c : Call). of c.ask in
          let a = weight-map of (λ (c : Call). c.ask) (calls_of h) in
          let b = parted to n 0 h of_them in
          let c = total-same n (λ c. weight to (calls_at (own c (placed_from 0 h)))) (λ c. weight (λ (d : Share). call_weight s to d.job d.work) (shares_by ts c))
          (λ c low high. own_weight s to c (shares_by ts c) (own c (placed_from 0 h)) (owned-by s h 1 c ts numbered had_them d.own low (omega (arith, high)))) in
          let e = by-total (λ (d : Share). call_weight s to d.job d.work) n 1 ts numbered (omega arith) (omega arith) in
          let f = weight-less (λ (d : Share). call_weight s to d.job d.work) (λ (d : Share). of (ask_of s d.job)) (shares_in ts) (λ x. call-less s of x.job x.work) in
          let g = jobs-weight s of jobs (shares_in ts) d.of_jobs in
          let k = d.once (λ (p : ℕ). of (ask_of s (job_at jobs p))) in
          let l = places-weight s of jobs in
          omega (arith, a, b, c, e, f, g, k, l);
    }
  where
    pairs : (n : ℕ) → ((c : ℕ) → 1 ≤ c → c ≤ n → AreOwn s c (shares_by d.toils c) (own c (placed_from 0 h))) → AreOfWorkers n h
        → (c : ℕ) → (c < 1) ⊎ (1 ≤ c) → (n < c) ⊎ (c ≤ n) → ArePaired None (own c (placed_from 0 h)) None
    pairs n owned of_them c (inr low) (inr high) = own_paired s c (shares_by d.toils c) (own c (placed_from 0 h)) (owned c low high)
    pairs n owned of_them c (inl low) high =
        let P : List Placed → Type 0 = λ qs. ArePaired None qs None in
        subst P (sym (own_none n c 0 h of_them (λ k one most is. omega (arith, one, is, low)))) refl
    pairs n owned of_them c (inr low) (inl high) =
        let P : List Placed → Type 0 = λ qs. ArePaired None qs None in
        subst P (sym (own_none n c 0 h of_them (λ k one most is. omega (arith, most, is, high)))) refl
