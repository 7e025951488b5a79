use Rattle.std.proofs.Common.{◌∙◌, ℕ, List, refl, subst}
use Rattle.batch_runs.specs.Batches.{Writes}
use Rattle.batch_whole.proofs.ends.end_usage.Goals as goal

pub returns-clause-ended : goal.returns-clause-ended
returns-clause-ended g c =
    let W : List ℕ → Type 0 = λ t. Writes (g.O.Sink.written c.args.out.now) (g.O.Sink.written c.tell.new.out) t c.tell.result in
    record {
      same = refl;
      answer = c.tell.result;
      wrote = subst W (c.as_bytes.ensures.value ∙ c.usage.ensures) c.tell.ensures;
      empty = c.new.ensures.items;
    }
