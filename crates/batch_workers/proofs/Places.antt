-- Jobs, inputs and what they are at a place.
use Rattle.std.proofs.Common.{◌≡◌, ◌≤◌, ◌<◌, ℕ, zero, suc, false, List, [], ◌∷◌, length, map, slice_index_or, ap, sym, refl, arith}
use Rattle.batch_jobs.specs.declared.jobs.Job.{Job}
use Rattle.batch_jobs.specs.Jobs.{line_of}
use Rattle.batch_alone.specs.declared.inputs.Input.{Input}
use Rattle.batch_alone.specs.Readings.{taking_of}
use Rattle.batch_workers.specs.Toils.{is_taken, job_at, taking_at}

pub job_at-index : (jobs : List Job) (i : ℕ) (j : Job) → i < length jobs → j ≡ slice_index_or jobs i j → job_at (map line_of jobs) i ≡ line_of j
job_at-index [] i j lt e = absurd (omega (arith, lt))
job_at-index (x ∷ xs) zero j lt e = ap line_of (sym e)
job_at-index (x ∷ xs) (suc i) j lt e = job_at-index xs i j (omega (arith, lt)) e

pub taking_at-index : (inputs : List Input) (i : ℕ) (t : Input) → i < length inputs → t ≡ slice_index_or inputs i t → taking_at (map taking_of inputs) i ≡ taking_of t
taking_at-index [] i t lt e = absurd (omega (arith, lt))
taking_at-index (x ∷ xs) zero t lt e = ap taking_of (sym e)
taking_at-index (x ∷ xs) (suc i) t lt e = taking_at-index xs i t (omega (arith, lt)) e

-- no input stands behind the last one
pub taken_behind : (inputs : List Input) (i : ℕ) → length inputs ≤ i → is_taken (map taking_of inputs) i ≡ false
taken_behind [] i le = refl
taken_behind (x ∷ xs) zero le = absurd (omega (arith, le))
taken_behind (x ∷ xs) (suc i) le = taken_behind xs i (omega (arith, le))
