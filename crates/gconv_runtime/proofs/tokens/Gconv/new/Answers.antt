use Rattle.std.proofs.Common.{arith, ap, ◌∙◌}
use Rattle.gconv_runtime.proofs.Living.{first_stands}
use Rattle.gconv_runtime.proofs.tokens.Gconv.new.Goals as goal

pub overflow_mul-pages : goal.overflow_mul-pages
overflow_mul-pages g c = let p = c.requires.pages in omega arith

pub new-requires-4-clause-stands : goal.new-requires-4-clause-stands
new-requires-4-clause-stands g c =
    first_stands g.L.Library.holdings _ c.in-Ok.ensures.empty c.in-Ok.ensures.graph c.of-first.ensures (c.heard_of.ensures.same ∙ c.in-Ok-new.ensures)
