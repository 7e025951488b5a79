-- Where the reading of texts stops.
use Rattle.std.proofs.Common.{◌≡◌, ◌≢◌, ◌≤◌, ℕ, List, [], ◌∷◌, Option, Some, None, Result, Ok, Err, ap, sym, subst, refl, arith}
use Rattle.outside.specs.Faults.{RoseBy}
use Rattle.outside.specs.Shelves.{Shelf}
use Rattle.modules_conf.specs.declared.fault.ConfFault.{ConfFault}
use Rattle.modules_conf.specs.declared.fault.ConfFault.TheVariants as conf
use Rattle.modules_conf.specs.declared.fault.BindFault.{BindFault}
use Rattle.modules_conf.specs.declared.fault.BindFault.TheVariants as bind
use Rattle.modules_conf.specs.Modules.{conf_of}
use Rattle.modules_conf.specs.Bindings.{bindings_of}
use Rattle.batch_jobs.specs.declared.jobs.JobFault.{JobFault}
use Rattle.batch_jobs.specs.declared.jobs.JobFault.TheVariants as job
use Rattle.batch_jobs.specs.Jobs.{Text, jobs_of}
use Rattle.batch_runs.specs.declared.cause.Which.TheVariants.{Modules, Bindings, Jobs}
use Rattle.batch_runs.specs.declared.cause.InputKind.TheVariants.{Conf, Bind, Job}
use Rattle.batch_runs.specs.declared.cause.Stop.{Stop}
use Rattle.batch_alone.specs.declared.halt.Halt.{Halt}
use Rattle.batch_alone.specs.declared.halt.Halt.TheVariants as halt
use Rattle.batch_runs.specs.Takings.{Got, TakesOne, one_input}
use Rattle.batch_runs.specs.Preparing.{Wanted, Accepts, AreRead, fault_by}
use Rattle.batch_alone.specs.Readings.{HaltsRead, conf_halt, bind_halt, job_halt, halt_fault}

pub conf_stops : (told : Option Shelf) (name x : Text) (fault : ConfFault) → TakesOne told one_input name (Got x) → (fault ≢ conf.Memory → conf_of x ≡ Err fault)
    → HaltsRead told (record { which = Modules; name = name } ∷ []) (conf_halt fault)
conf_stops told name x (conf.TooManyLines line) t h = ([], (refl, (x, t, ap (fault_by Conf) (h (λ bad. cc)))))
conf_stops told name x conf.Memory t h = tt

pub bind_stops : (told : Option Shelf) (name x : Text) (fault : BindFault) → TakesOne told one_input name (Got x) → (fault ≢ bind.Memory → bindings_of x ≡ Err fault)
    → HaltsRead told (record { which = Bindings; name = name } ∷ []) (bind_halt fault)
bind_stops told name x (bind.BadKind line) t h = ([], (refl, (x, t, ap (fault_by Bind) (h (λ bad. cc)))))
bind_stops told name x (bind.WordCount line) t h = ([], (refl, (x, t, ap (fault_by Bind) (h (λ bad. cc)))))
bind_stops told name x (bind.Twice line) t h = ([], (refl, (x, t, ap (fault_by Bind) (h (λ bad. cc)))))
bind_stops told name x (bind.BadWord line) t h = ([], (refl, (x, t, ap (fault_by Bind) (h (λ bad. cc)))))
bind_stops told name x (bind.TooMany line) t h = ([], (refl, (x, t, ap (fault_by Bind) (h (λ bad. cc)))))
bind_stops told name x bind.Memory t h = tt

pub job_stops : (told : Option Shelf) (name x : Text) (fault : JobFault) → TakesOne told one_input name (Got x) → (fault ≢ job.Memory → jobs_of x ≡ Err fault)
    → HaltsRead told (record { which = Jobs; name = name } ∷ []) (job_halt fault)
job_stops told name x (job.WordCount line) t h = ([], (refl, (x, t, ap (fault_by Job) (h (λ bad. cc)))))
job_stops told name x (job.TooMany line) t h = ([], (refl, (x, t, ap (fault_by Job) (h (λ bad. cc)))))
job_stops told name x (job.NotText line) t h = ([], (refl, (x, t, ap (fault_by Job) (h (λ bad. cc)))))
job_stops told name x job.Memory t h = tt

-- no fault of the files is told where a text is refused
pub conf_calm : (fault : ConfFault) (old new : ℕ) → old ≤ new → RoseBy (halt_fault (conf_halt fault)) old new
conf_calm (conf.TooManyLines line) old new h = omega (arith, h)
conf_calm conf.Memory old new h = omega (arith, h)

pub bind_calm : (fault : BindFault) (old new : ℕ) → old ≤ new → RoseBy (halt_fault (bind_halt fault)) old new
bind_calm (bind.BadKind line) old new h = omega (arith, h)
bind_calm (bind.WordCount line) old new h = omega (arith, h)
bind_calm (bind.Twice line) old new h = omega (arith, h)
bind_calm (bind.BadWord line) old new h = omega (arith, h)
bind_calm (bind.TooMany line) old new h = omega (arith, h)
bind_calm bind.Memory old new h = omega (arith, h)

pub job_calm : (fault : JobFault) (old new : ℕ) → old ≤ new → RoseBy (halt_fault (job_halt fault)) old new
job_calm (job.WordCount line) old new h = omega (arith, h)
job_calm (job.TooMany line) old new h = omega (arith, h)
job_calm (job.NotText line) old new h = omega (arith, h)
job_calm job.Memory old new h = omega (arith, h)

-- a text was accepted, and reading stopped behind it
pub halts_more : (told : Option Shelf) (w : Wanted) (ws : List Wanted) (x : Text) (h : Halt) → Accepts told w x → HaltsRead told ws h → HaltsRead told (w ∷ ws) h
halts_more told w ws x (halt.Stopped stop) a r = (x ∷ r.0, (a, r.1))
halts_more told w ws x halt.Memory a r = tt

front : (told : Option Shelf) (w v : Wanted) (ws : List Wanted) (xs : List Text) (stop : Stop) → AreRead told (w ∷ []) xs (Some stop) → AreRead told (w ∷ v ∷ ws) xs (Some stop)
front told w v ws [] stop r = r
front told w v ws (x ∷ []) stop r = absurd r.1
front told w v ws (x ∷ y ∷ ys) stop r = absurd r.1

-- reading stopped at a text before others
pub halts_first : (told : Option Shelf) (w v : Wanted) (ws : List Wanted) (h : Halt) → HaltsRead told (w ∷ []) h → HaltsRead told (w ∷ v ∷ ws) h
halts_first told w v ws (halt.Stopped stop) r = (r.0, front told w v ws r.0 stop r.1)
halts_first told w v ws halt.Memory r = tt
