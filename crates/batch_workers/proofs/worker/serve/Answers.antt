use Rattle.std.proofs.Common.{arith, refl}
use Rattle.batch_workers.proofs.worker.serve.Goals as goal

pub returns-clause-done : goal.returns-clause-done
returns-clause-done g c = record {
  piece = record {
    place = c.args.place;
    worked = c.in_ok-worked.worked;
    output = c.in_ok-worked.buffers.output;
  };
  is_place = refl;
  handed = c.in_ok-push.ensures.items;
  serves = c.in_ok-worked.ensures.done;
  room = let most = c.in_ok-worked.ensures.room in let short = c.requires.short in omega (arith, most, short);
}
