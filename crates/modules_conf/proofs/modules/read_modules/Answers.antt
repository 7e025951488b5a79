use Rattle.std.proofs.Common.{◌≡◌, ap, ◌∙◌, arith, Ok, ◌+◌}
use Rattle.std.specs.List.{enumerate_from}
use Rattle.text_lines.specs.Lines.{lines}
use Rattle.modules_conf.specs.Modules.{conf_of}
use Rattle.modules_conf.specs.Reading.{conf_with}
use Rattle.modules_conf.proofs.ReadingLemmas.{conf_with-start, conf_with-end}
use Rattle.modules_conf.proofs.LimitLemmas.{IsWithinLimits-conf_of}
use Rattle.modules_conf.proofs.modules.read_modules.Goals as goal

pub loop-line-init : goal.loop-line-init
loop-line-init c = record {
  value = rw (c.new.ensures, c.new-2.ensures) (conf_with-start c.args.text.now);
  left = omega arith;
  passed = omega arith;
  few = record { edges = rw c.new.ensures (omega arith); aliases = rw c.new-2.ensures (omega arith) };
}

pub take_line-requires-clause-long : goal.take_line-requires-clause-long
take_line-requires-clause-long c = omega (arith, c.in-Some.ensures.sized, c.loop-line.invariant.left, c.requires)

pub returns-clause-value : goal.returns-clause-value
returns-clause-value c =
    c.loop-line.invariant.value ∙ ap (λ rest. conf_with c.loop-line.conf (enumerate_from (c.loop-line.number + 1) (lines rest))) c.in_default.ensures.found
    ∙ conf_with-end c.loop-line.conf c.loop-line.invariant.few

pub returns-clause-limits : goal.returns-clause-limits
returns-clause-limits c =
    let value : conf_of c.args.text.now ≡ Ok c.loop-line.conf =
    c.loop-line.invariant.value ∙ ap (λ rest. conf_with c.loop-line.conf (enumerate_from (c.loop-line.number + 1) (lines rest))) c.in_default.ensures.found
    ∙ conf_with-end c.loop-line.conf c.loop-line.invariant.few in
    IsWithinLimits-conf_of c.args.text.now c.loop-line.conf value c.requires c.loop-line.invariant.few.edges
