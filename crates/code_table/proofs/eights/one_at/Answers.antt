use Rattle.std.proofs.Common.{arith}
use Rattle.code_table.proofs.EightLaws.{one_is}
use Rattle.code_table.proofs.eights.one_at.Goals as goal

pub returns-in-Point-clause-one : goal.returns-in-Point-clause-one
returns-in-Point-clause-one g c = λ t im.
    one_is t im.well_formed c.args.input.now c.four_at.result.now c.args.at c.in-Point.point c.in-Point.used
    c.four_at.ensures (c.looks_tell.ensures t c.four_at.result.now im.well_formed)
    (c.in-Point.ensures.value t im) (omega arith)
