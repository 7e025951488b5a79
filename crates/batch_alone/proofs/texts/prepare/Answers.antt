use Rattle.std.proofs.Common.{◌≡◌, ◌∙◌, List, [], ◌∷◌, Option, subst, sym}
use Rattle.outside.specs.Shelves.{Shelf}
use Rattle.batch_runs.specs.declared.cause.Which.TheVariants as which
use Rattle.batch_runs.specs.Preparing.{Wanted, Accepts}
use Rattle.batch_alone.proofs.Stopping.{halts_more, halts_first}
use Rattle.batch_alone.proofs.texts.prepare.Goals as goal
use Rattle.batch_alone.specs.Readings.{HaltsRead}

pub returns-in-Err-take_bindings-clause-read : goal.returns-in-Err-take_bindings-clause-read
returns-in-Err-take_bindings-clause-read g c =
    let told = (g.F.Files.outside c.args.files.now).told in
    let P : Option Shelf → Type 0 = λ o. HaltsRead o (record { which = which.Bindings; name = c.args.bindings.now } ∷ []) c.in-Err-take_bindings.halt in
    let w_bindings : Wanted = record { which = which.Bindings; name = c.args.bindings.now } in
    let w_jobs : Wanted = record { which = which.Jobs; name = c.args.jobs.now } in
    halts_more told (record { which = which.Modules; name = c.args.modules.now }) (w_bindings ∷ w_jobs ∷ []) c.in-Ok.ensures.read.0 c.in-Err-take_bindings.halt c.in-Ok.ensures.read.1
    (halts_first told (record { which = which.Bindings; name = c.args.bindings.now }) (record { which = which.Jobs; name = c.args.jobs.now }) [] c.in-Err-take_bindings.halt
    (subst P c.take_modules.ensures.told c.in-Err-take_bindings.ensures.read))

pub returns-in-Err-take_jobs-clause-read : goal.returns-in-Err-take_jobs-clause-read
returns-in-Err-take_jobs-clause-read g c =
    let told = (g.F.Files.outside c.args.files.now).told in
    let A : Option Shelf → Type 0 = λ o. Accepts o (record { which = which.Bindings; name = c.args.bindings.now }) c.in-Ok-take_bindings.ensures.read.0 in
    let P : Option Shelf → Type 0 = λ o. HaltsRead o (record { which = which.Jobs; name = c.args.jobs.now } ∷ []) c.in-Err-take_jobs.halt in
    let w_bindings : Wanted = record { which = which.Bindings; name = c.args.bindings.now } in
    let w_jobs : Wanted = record { which = which.Jobs; name = c.args.jobs.now } in
    halts_more told (record { which = which.Modules; name = c.args.modules.now }) (w_bindings ∷ w_jobs ∷ []) c.in-Ok.ensures.read.0 c.in-Err-take_jobs.halt c.in-Ok.ensures.read.1
    (halts_more told (record { which = which.Bindings; name = c.args.bindings.now }) (w_jobs ∷ []) c.in-Ok-take_bindings.ensures.read.0 c.in-Err-take_jobs.halt
    (subst A c.take_modules.ensures.told c.in-Ok-take_bindings.ensures.read.1)
    (subst P (c.take_bindings.ensures.told ∙ c.take_modules.ensures.told) c.in-Err-take_jobs.ensures.read))
