use Rattle.std.proofs.Common.{◌≡◌, ◌≢◌, ℕ, List, [], ◌∷◌, Err, subst, sym}
use Rattle.outside.specs.Faults.{RoseBy}
use Rattle.modules_conf.specs.declared.fault.BindFault.{BindFault}
use Rattle.modules_conf.specs.declared.fault.BindFault.TheVariants as fault
use Rattle.modules_conf.specs.Bindings.{bindings_of}
use Rattle.batch_alone.specs.declared.halt.Halt.{Halt}
use Rattle.batch_runs.specs.declared.cause.Which.TheVariants as which
use Rattle.batch_alone.proofs.Stopping.{bind_stops, bind_calm}
use Rattle.batch_alone.proofs.texts.take_bindings.Goals as goal
use Rattle.batch_alone.specs.Readings.{HaltsRead, halt_fault}

pub returns-clause-read : goal.returns-clause-read
returns-clause-read g c =
    let told = (g.F.Files.outside c.args.files.now).told in
    let P : Halt → Type 0 = λ h. HaltsRead (g.F.Files.outside c.args.files.now).told (record { which = which.Bindings; name = c.args.name.now } ∷ []) h in
    let V : List ℕ → Type 0 = λ x. c.in-Err-read_bindings.fault ≢ fault.Memory → bindings_of x ≡ Err c.in-Err-read_bindings.fault in
    subst P (sym c.bind_halt.ensures)
    (bind_stops told c.args.name.now c.in-Ok.text.items c.in-Err-read_bindings.fault c.in-Ok.ensures.taken (subst V c.as_slice.ensures.value c.in-Err-read_bindings.ensures.value))

pub returns-clause-failed : goal.returns-clause-failed
returns-clause-failed g c =
    let P : Halt → Type 0 = λ h. RoseBy (halt_fault h) (g.F.Files.outside c.args.files.now).takes (g.F.Files.outside c.take_text.new.files).takes in
    subst P (sym c.bind_halt.ensures) (bind_calm c.in-Err-read_bindings.fault _ _ c.take_text.ensures.count)
