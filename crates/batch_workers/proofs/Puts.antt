-- One job's bytes more.
use Rattle.std.proofs.Common.{◌≡◌, ◌∙◌, ◌≤◌, ◌<◌, ◌+◌, ◌==◌, ℕ, zero, suc, Bool, true, false, if◌then◌else◌, unwrap_or, List, [], ◌∷◌, ◌++◌, length, take, map, slice_index_or, Option, ap, ap₂, sym, subst, refl, arith, add-one}
use Rattle.std.proofs.Math.Seq.{take-length}
use Rattle.outside.specs.Faults.{RoseBy}
use Rattle.outside.specs.Moments.{Outside}
use Rattle.outside.specs.Shelves.{Shelf}
use Rattle.batch_jobs.specs.declared.jobs.Job.{Job}
use Rattle.batch_jobs.specs.Jobs.{JobLine, line_of}
use Rattle.batch_jobs.specs.declared.outcomes.Outcome.{Outcome}
use Rattle.batch_runs.specs.Takings.{Taking}
use Rattle.batch_runs.specs.Works.{Work, Skipped, Denied, Converted, bytes_of}
use Rattle.batch_runs.specs.Puts.{ArePut, bytes_put, write_fault, write_faults}
use Rattle.batch_alone.specs.declared.inputs.Input.{Input}
use Rattle.batch_alone.specs.declared.totals.Totals.{Totals}
use Rattle.batch_alone.specs.Readings.{length_made, taking_of}
use Rattle.batch_alone.proofs.Snoc.{put_snoc, rose_on, take_next_map, write_faults-snoc}
use Rattle.batch_alone.proofs.Progress.{totals_more}
use Rattle.batch_workers.specs.Toils.{AreHeld, IsHeld, work_in, works_in}
use Rattle.batch_workers.specs.Settling.{ArePutAll, ArePutSome, PutsNext}
use Rattle.batch_workers.specs.declared.piece.Piece.{Piece}

-- the bytes that are put are at most those that were made
pub put-short : (work : Work) (end : Outcome) → length (bytes_put work end) ≤ length_made work
put-short work end = go (write_fault end == 0) work
  where
    go : (b : Bool) (w : Work) → length (if b then unwrap_or (bytes_of w) [] else []) ≤ length_made w
    go true (Skipped miss) = omega arith
    go true (Denied refusal) = omega arith
    go true (Converted made) = omega arith
    go false w = omega arith

-- the work of a job is that of its slot
pub work-next : (inputs : List Input) (os : List (Option Piece)) (i : ℕ) (t : Input) (o : Option Piece) → i < length inputs → length os ≡ length inputs
    → t ≡ slice_index_or inputs i t → o ≡ slice_index_or os i o
    → take (suc i) (works_in (map taking_of inputs) os) ≡ take i (works_in (map taking_of inputs) os) ++ work_in (taking_of t) o ∷ []
work-next [] os i t o lt same a b = absurd (omega (arith, lt))
work-next (x ∷ xs) [] i t o lt same a b = absurd (omega (arith, same))
work-next (x ∷ xs) (y ∷ ys) zero t o lt same a b = ap₂ (λ (u : Input) (v : Option Piece). work_in (taking_of u) v ∷ []) (sym a) (sym b)
work-next (x ∷ xs) (y ∷ ys) (suc i) t o lt same a b =
    ap (λ ws. work_in (taking_of x) y ∷ ws) (work-next xs ys i t o (omega (arith, lt)) (omega (arith, same)) a b)

pub held-next : (inputs : List Input) (os : List (Option Piece)) (i : ℕ) (t : Input) (o : Option Piece) → i < length inputs → AreHeld (map taking_of inputs) os
    → t ≡ slice_index_or inputs i t → o ≡ slice_index_or os i o → IsHeld (taking_of t) o
held-next [] os i t o lt h a b = absurd (omega (arith, lt))
held-next (x ∷ xs) [] i t o lt h a b = absurd h
held-next (x ∷ xs) (y ∷ ys) zero t o lt h a b =
    let P : Input → Type 0 = λ u. IsHeld (taking_of u) o in
    let Q : Option Piece → Type 0 = λ v. IsHeld (taking_of x) v in
    subst P (sym a) (subst Q (sym b) h.0)
held-next (x ∷ xs) (y ∷ ys) (suc i) t o lt h a b = held-next xs ys i t o (omega (arith, lt)) h.1 a b

put-lengths : (old new : Option Shelf) (js : List JobLine) (ws : List Work) (es : List Outcome) → ArePut old js ws es new → length ws ≡ length es
put-lengths old new [] [] [] h = refl
put-lengths old new [] [] (e ∷ es) h = absurd h
put-lengths old new [] (w ∷ ws) es h = absurd h
put-lengths old new (j ∷ js) [] es h = absurd h
put-lengths old new (j ∷ js) (w ∷ ws) [] h = absurd h
put-lengths old new (j ∷ js) (w ∷ ws) (e ∷ es) h = let i = put-lengths h.0 new js ws es h.2 in omega (arith, i)

pub put-outcomes : (old new : Option Shelf) (js : List JobLine) (ws : List Work) (es : List Outcome) → ArePut old js ws es new → length es ≡ length js
put-outcomes old new [] [] [] h = refl
put-outcomes old new [] [] (e ∷ es) h = absurd h
put-outcomes old new [] (w ∷ ws) es h = absurd h
put-outcomes old new (j ∷ js) [] es h = absurd h
put-outcomes old new (j ∷ js) (w ∷ ws) [] h = absurd h
put-outcomes old new (j ∷ js) (w ∷ ws) (e ∷ es) h = let i = put-outcomes h.0 new js ws es h.2 in omega (arith, i)

-- one job more was put
pub put-more : (from mid to : Outside) (js : List JobLine) (ws : List Work) (es : List Outcome) (sums : Bool) (t u : Totals) (j : JobLine) (w : Work) (e : Outcome)
    → ArePutAll from mid js ws es sums t → PutsNext mid to j w e sums u
    → ArePutAll from to (js ++ j ∷ []) (ws ++ w ∷ []) (es ++ e ∷ []) sums (record { written = t.written + u.written; sum = t.sum + u.sum })
put-more from mid to js ws es sums t u j w e h one =
    let F : ℕ → Type 0 = λ n. RoseBy n from.puts to.puts in
    record {
      puts = put_snoc from.told mid.told to.told js ws es j w e h.puts one.puts;
      faults = subst F (sym (write_faults-snoc es e)) (rose_on (write_faults es) (write_fault e) from.puts mid.puts to.puts h.faults one.faults);
      takes = one.takes ∙ h.takes;
      count = totals_more sums t u ws es w e (put-lengths from.told mid.told js ws es h.puts) h.count one.count;
    }

-- the same over other spellings of its lists and totals
pub put-as : (from to : Outside) (js ks : List JobLine) (ws vs : List Work) (es fs : List Outcome) (sums : Bool) (t u : Totals)
    → ArePutAll from to js ws es sums t → ks ≡ js → vs ≡ ws → fs ≡ es → u ≡ t → ArePutAll from to ks vs fs sums u
put-as from to js ks ws vs es fs sums t u h a b c d =
    let P : List JobLine → Type 0 = λ xs. ArePutAll from to xs vs fs sums u in
    let Q : List Work → Type 0 = λ xs. ArePutAll from to js xs fs sums u in
    let R : List Outcome → Type 0 = λ xs. ArePutAll from to js ws xs sums u in
    let S : Totals → Type 0 = λ x. ArePutAll from to js ws es sums x in
    subst P (sym a) (subst Q (sym b) (subst R (sym c) (subst S (sym d) h)))

pub some-put : (from mid to : Outside) (js : List JobLine) (ws : List Work) (k : ℕ) (es : List Outcome) (sums : Bool) (t : Totals)
    → ArePutAll from mid (take k js) (take k ws) es sums t → to.told ≡ mid.told → ArePutSome from to js ws
some-put from mid to js ws k es sums t h same =
    let P : Option Shelf → Type 0 = λ o. ArePut from.told (take k js) (take k ws) es o in
    record { done = k; outcomes = es; puts = subst P (sym same) h.puts }

-- one of two lists at a place
pub put-next : (from mid to : Outside) (jobs : List Job) (inputs : List Input) (os : List (Option Piece)) (i : ℕ) (job : Job) (t : Input) (o : Option Piece)
    (es : List Outcome) (sums : Bool) (total more : Totals) (e : Outcome)
    → i < length jobs → length inputs ≡ length jobs → length os ≡ length jobs → job ≡ slice_index_or jobs i job → t ≡ slice_index_or inputs i t → o ≡ slice_index_or os i o
    → ArePutAll from mid (take i (map line_of jobs)) (take i (works_in (map taking_of inputs) os)) es sums total
    → PutsNext mid to (line_of job) (work_in (taking_of t) o) e sums more
    → ArePutAll from to (take (i + 1) (map line_of jobs)) (take (i + 1) (works_in (map taking_of inputs) os)) (es ++ e ∷ []) sums
    (record { written = total.written + more.written; sum = total.sum + more.sum })
put-next from mid to jobs inputs os i job t o es sums total more e lt alike slots is_job is_input is_slot h one =
    let ws = works_in (map taking_of inputs) os in
    put-as from to (take i (map line_of jobs) ++ line_of job ∷ []) (take (i + 1) (map line_of jobs)) (take i ws ++ work_in (taking_of t) o ∷ []) (take (i + 1) ws)
    (es ++ e ∷ []) (es ++ e ∷ []) sums (record { written = total.written + more.written; sum = total.sum + more.sum }) (record { written = total.written + more.written; sum = total.sum + more.sum })
    (put-more from mid to (take i (map line_of jobs)) (take i ws) es sums total more (line_of job) (work_in (taking_of t) o) e h one)
    (take_next_map line_of jobs i job lt is_job)
    (ap (λ k. take k ws) (add-one i) ∙ work-next inputs os i t o (omega (arith, lt, alike)) (omega (arith, alike, slots)) is_input is_slot)
    refl refl

length-works : (ts : List Taking) (os : List (Option Piece)) → length (works_in ts os) ≡ length ts
length-works [] os = refl
length-works (t ∷ ts) [] = let i = length-works ts [] in omega (arith, i)
length-works (t ∷ ts) (o ∷ os) = let i = length-works ts os in omega (arith, i)

-- behind the last job all were put
pub put-whole : (from to : Outside) (js : List JobLine) (ts : List Taking) (os : List (Option Piece)) (i : ℕ) (es : List Outcome) (sums : Bool) (t : Totals)
    → i ≡ length js → length ts ≡ length js → ArePutAll from to (take i js) (take i (works_in ts os)) es sums t → ArePutAll from to js (works_in ts os) es sums t
put-whole from to js ts os i es sums t end alike h =
    let ws = works_in ts os in
    put-as from to (take i js) js (take i ws) ws es es sums t t h
    (sym (ap (λ k. take k js) end ∙ take-length js))
    (sym (ap (λ k. take k ws) (end ∙ sym alike ∙ sym (length-works ts os)) ∙ take-length ws)) refl refl

pub held-length : (ts : List Taking) (os : List (Option Piece)) → AreHeld ts os → length os ≡ length ts
held-length [] [] h = refl
held-length [] (o ∷ os) h = absurd h
held-length (t ∷ ts) [] h = absurd h
held-length (t ∷ ts) (o ∷ os) h = let i = held-length ts os h.1 in omega (arith, i)

-- all that was put is some
pub all-put : (from to : Outside) (js : List JobLine) (ws : List Work) (es : List Outcome) (sums : Bool) (t : Totals) → ArePutAll from to js ws es sums t → ArePutSome from to js ws
all-put from to js ws es sums t h =
    let J : List JobLine → Type 0 = λ xs. ArePut from.told xs (take (length js) ws) es to.told in
    let W : List Work → Type 0 = λ xs. ArePut from.told js xs es to.told in
    let long : length ws ≡ length js = put-lengths from.told to.told js ws es h.puts ∙ put-outcomes from.told to.told js ws es h.puts in
    record {
      done = length js;
      outcomes = es;
      puts = subst J (sym (take-length js)) (subst W (sym (ap (λ k. take k ws) (sym long) ∙ take-length ws)) h.puts);
    }
