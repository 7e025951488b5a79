use Rattle.std.proofs.Common.{arith}
use Rattle.step_unicode.proofs.Utf16Firsts.{answer, one_byte}
use Rattle.std.proofs.lemmas.Bool.{false≢true}
use Rattle.step_unicode.proofs.utf16.read_first.Goals as goal

pub returns-then-input-lt2 : goal.returns-then-input-lt2
returns-then-input-lt2 c = one_byte c.args.input.now (omega arith) (omega arith) (omega (arith, c.type_inv.input 0))

pub returns : goal.returns
returns c = answer c.args.input.now c.read_little.result (omega arith) (record { big = λ e k. false≢true (c.if-are.ensures.1 (e, k)); little = λ e k. false≢true (c.if-are-2.ensures.1 (e, k)) }) c.read_little.ensures
