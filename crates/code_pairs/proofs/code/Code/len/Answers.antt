use Rattle.std.proofs.Common.{subst}
use Rattle.code_pairs.specs.Bytes.{IsCodeForm}
use Rattle.code_pairs.proofs.Codes.{counted, IsCodeForm-big_endian}
use Rattle.code_pairs.proofs.code.Code.len.Goals as goal

pub returns-clause-value : goal.returns-clause-value
returns-clause-value c = counted c.self.inside.count c.self.inside.value c.args.self.now c.self.view_is

pub returns-clause-form : goal.returns-clause-form
returns-clause-form c =
    subst (λ u. IsCodeForm u) c.self.view_is
    (IsCodeForm-big_endian c.self.inside.count c.self.inside.value c.self.invariant.0 c.self.invariant.1)
