use Rattle.std.proofs.Common.{map, string_bytes}
use Rattle.batch_words.specs.Asked.{request_of}
use Rattle.batch_whole.specs.Worlds.{world}
use Rattle.batch_whole.proofs.WordRuns.{ran_asked}
use Rattle.batch_whole.proofs.words.run_words.Goals as goal

pub returns-in-Ok-clause-ran : goal.returns-in-Ok-clause-ran
returns-in-Ok-clause-ran g c = ran_asked (map string_bytes c.args.words.now) (request_of c.in-Ok.words)
    (world (g.F.Files.outside c.args.files.now) (g.B.Library.Library.holdings c.args.library) (g.O.Sink.written c.args.out.now))
    (world (g.F.Files.outside c.run_plan.new.files) (g.B.Library.Library.holdings c.run_plan.result.library) (g.O.Sink.written c.run_plan.new.out))
    c.run_plan.result.cause c.run_plan.result.journal.items c.in-Ok.ensures.value (c.run_plan.ensures.ran c.in-Ok.words.workers)
