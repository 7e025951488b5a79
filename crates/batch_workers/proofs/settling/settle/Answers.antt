use Rattle.std.proofs.Common.{◌∙◌, List, Option, length, map, ap, subst, arith}
use Rattle.std.proofs.lemmas.List.{length-map}
use Rattle.batch_jobs.specs.Jobs.{line_of}
use Rattle.batch_alone.specs.declared.inputs.Input.{Input}
use Rattle.batch_alone.specs.Readings.{taking_of}
use Rattle.batch_workers.specs.declared.piece.Piece.{Piece}
use Rattle.batch_workers.specs.Toils.{works_in}
use Rattle.batch_workers.specs.Settling.{ArePutAll}
use Rattle.batch_workers.proofs.Puts.{all-put, held-length, put-outcomes}
use Rattle.batch_workers.proofs.settling.settle.Goals as goal

pub put_all-requires-clause-slots : goal.put_all-requires-clause-slots
put_all-requires-clause-slots g c =
    ap length c.as_mut_slice.ensures.value ∙ held-length (map taking_of c.args.worked.inputs.list.items) c.args.worked.slots.items c.requires.held
    ∙ length-map c.args.worked.inputs.list.items taking_of ∙ c.requires.alike

pub report_text-requires : goal.report_text-requires
report_text-requires g c =
    let a = ap length c.as_slice-3.ensures.value in
    let b = put-outcomes _ _ (map line_of c.args.jobs.now) (works_in (map taking_of c.as_slice.result.now) c.as_mut_slice.result.now) c.in-Ok.settled.outcomes.items c.in-Ok.ensures.done.puts in
    let d = length-map c.args.jobs.now line_of in
    let few = c.requires.few in
    omega (arith, a, b, d, few)

pub returns : goal.returns
returns g c =
    let A : List Input → Type 0 = λ is. ArePutAll (g.F.Files.outside c.args.files.now) (g.F.Files.outside c.put_all.new.files) (map line_of c.args.jobs.now)
    (works_in (map taking_of is) c.as_mut_slice.result.now) c.in-Ok.settled.outcomes.items c.args.sums c.in-Ok.settled.totals in
    let B : List (Option Piece) → Type 0 = λ os. ArePutAll (g.F.Files.outside c.args.files.now) (g.F.Files.outside c.put_all.new.files) (map line_of c.args.jobs.now)
    (works_in (map taking_of c.args.worked.inputs.list.items) os) c.in-Ok.settled.outcomes.items c.args.sums c.in-Ok.settled.totals in
    record {
      done = all-put (g.F.Files.outside c.args.files.now) (g.F.Files.outside c.put_all.new.files) (map line_of c.args.jobs.now)
          (works_in (map taking_of c.args.worked.inputs.list.items) c.args.worked.slots.items) c.in-Ok.settled.outcomes.items c.args.sums c.in-Ok.settled.totals
          (subst B c.as_mut_slice.ensures.value (subst A c.as_slice.ensures.value c.in-Ok.ensures.done));
    }
