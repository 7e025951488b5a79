use Rattle.std.proofs.Common.{[], ◌∷◌}
use Rattle.runtime_histories.specs.Charmaps.{each}
use Rattle.charmap_library.proofs.Fetching.{stops_front, stops_behind, double_ok, double_err}
use Rattle.charmap_library.proofs.fetch.fetch_double.Goals as goal

pub returns-in-Err-clause-err : goal.returns-in-Err-clause-err
returns-in-Err-clause-err g c =
    stops_front c.args.dir.now (g.L.Library.holdings c.args.library.now) (g.L.Library.holdings c.fetch_one.new.library)
    (each c.args.«module» (c.args.first.now ∷ [])) (each c.args.«module» (c.args.second.now ∷ [])) c.in-Err.why c.in-Err.ensures.err

pub returns-in-Err-fetch_one-clause-err : goal.returns-in-Err-fetch_one-clause-err
returns-in-Err-fetch_one-clause-err g c =
    stops_behind c.args.dir.now (g.L.Library.holdings c.args.library.now) (g.L.Library.holdings c.fetch_one.new.library) (g.L.Library.holdings c.fetch_one-2.new.library)
    (each c.args.«module» (c.args.first.now ∷ [])) (each c.args.«module» (c.args.second.now ∷ [])) (c.in-Ok.table ∷ []) c.in-Err-fetch_one.why c.in-Ok.ensures.ok c.in-Err-fetch_one.ensures.err

pub returns-clause-ok : goal.returns-clause-ok
returns-clause-ok g c =
    double_ok c.args.dir.now (g.L.Library.holdings c.args.library.now) (g.L.Library.holdings c.fetch_one.new.library) (g.L.Library.holdings c.fetch_one-2.new.library)
    c.args.«module» c.args.first.now c.args.second.now c.in-Ok.table c.in-Ok-fetch_one.table c.both.result c.both.ensures.ok c.in-Ok.ensures.ok c.in-Ok-fetch_one.ensures.ok

pub returns-clause-err : goal.returns-clause-err
returns-clause-err g c =
    double_err c.args.dir.now (g.L.Library.holdings c.args.library.now) (g.L.Library.holdings c.fetch_one.new.library) (g.L.Library.holdings c.fetch_one-2.new.library)
    c.args.«module» c.args.first.now c.args.second.now c.in-Ok.table c.in-Ok-fetch_one.table c.both.result c.both.ensures.err c.in-Ok.ensures.ok c.in-Ok-fetch_one.ensures.ok
