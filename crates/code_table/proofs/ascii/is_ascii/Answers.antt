use Rattle.std.proofs.Common.{sym, ◌∙◌, arith}
use Rattle.code_table.proofs.AsciiLaws.{one_more, is_all, is_none}
use Rattle.code_table.proofs.ascii.is_ascii.Goals as goal

pub returns-then-not-is_own : goal.returns-then-not-is_own
returns-then-not-is_own c = λ table is.
    sym (is_none table c.loop-byte.byte (omega (arith, c.loop-byte-test.true))
    (sym (c.is_own.ensures table is) ∙ c.if-not-is_own.true))

pub loop-byte-preserved : goal.loop-byte-preserved
loop-byte-preserved c = record {
  within = omega (arith, c.loop-byte-test.true);
  own = λ table is. one_more table c.loop-byte.byte
      (sym (c.is_own.ensures table is) ∙ c.if-not-is_own.false) (c.loop-byte.invariant.own table is);
}

pub returns : goal.returns
returns c = λ table is.
    sym (is_all table c.loop-byte.byte (omega (arith, c.loop-byte-test.false, c.loop-byte.invariant.within))
    (c.loop-byte.invariant.own table is))
