use Rattle.std.proofs.Common.{map, string_bytes}
use Rattle.batch_words.specs.Asked.{request_of}
use Rattle.batch_whole.specs.Worlds.{world}
use Rattle.batch_whole.proofs.WordRuns.{ran_asked}
use Rattle.batch_whole.proofs.WorkersAsked.{workers-few}
use Rattle.batch_whole.proofs.with_workers.run_words_with_workers.Goals as goal

pub returns-then-words-eq0-clause-ran : goal.returns-then-words-eq0-clause-ran
returns-then-words-eq0-clause-ran g c = ran_asked (map string_bytes c.args.words.now) (request_of c.in-Ok.words)
    (world (g.F.Files.outside c.args.files.now) (g.L.Library.holdings c.args.library) (g.O.Sink.written c.args.out.now))
    (world (g.F.Files.outside c.run_plan.new.files) (g.L.Library.holdings c.run_plan.result.library) (g.O.Sink.written c.run_plan.new.out))
    c.run_plan.result.cause c.run_plan.result.journal.items c.in-Ok.ensures.value (c.run_plan.ensures.ran c.in-Ok.words.workers)

pub run_shared_plan-requires-clause-most : goal.run_shared_plan-requires-clause-most
run_shared_plan-requires-clause-most g c κs within = workers-few (map string_bytes c.args.words.now) (request_of c.in-Ok.words) c.in-Ok.ensures.value
