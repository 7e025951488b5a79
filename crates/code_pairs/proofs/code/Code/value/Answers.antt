use Rattle.std.proofs.Common.{◌<◌, ◌^◌, subst}
use Rattle.code_pairs.proofs.Codes.{counted, valued}
use Rattle.code_pairs.proofs.code.Code.value.Goals as goal

pub returns-clause-value : goal.returns-clause-value
returns-clause-value c = valued c.self.inside.count c.self.inside.value c.args.self.now c.self.invariant.2 c.self.view_is

pub returns-clause-fits : goal.returns-clause-fits
returns-clause-fits c =
    subst (λ n. c.self.inside.value < 256 ^ n) (counted c.self.inside.count c.self.inside.value c.args.self.now c.self.view_is)
    c.self.invariant.2
