use Rattle.std.proofs.Common.{◌<◌, length, arith}
use Rattle.std.proofs.lemmas.Grind.{common_steps}
use Rattle.pair_openings.proofs.Loading.{pages_more}
use Rattle.pair_openings.proofs.parts.pages_of.Goals as goal

pub loop-table-preserved : goal.loop-table-preserved
loop-table-preserved c =
    let lt : c.loop-table.table-index < length c.args.tables.now = omega arith in
    let more = pages_more c.args.tables.now c.loop-table.table-index c.loop-table.count c.table-item.result lt c.table-item.is c.loop-table.invariant.counted in
    let pages = c.pages.ensures in
    let sum = c.in_ok-count.ensures in
    record { counted = grind (arith, more, pages, sum, common_steps) }
