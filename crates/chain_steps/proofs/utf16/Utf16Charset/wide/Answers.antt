use Rattle.std.proofs.Common.{sym, subst, arith}
use Rattle.step_unicode.specs.declared.set.State.{State}
use Rattle.step_unicode.specs.declared.set.Uni.TheVariants.{Utf16}
use Rattle.step_unicode.specs.Sets.{IsUnit}
use Rattle.wide_lanes.specs.Wide.{AreWide}
use Rattle.chain_steps.specs.Blocks.{IsBlock}
use Rattle.chain_steps.proofs.WideSets.{marked_low_block, marked_high_block}
use Rattle.chain_steps.proofs.utf16.Utf16Charset.wide.Goals as goal

pub returns-in_ok-wide-in-Little-clause-block : goal.returns-in_ok-wide-in-Little-clause-block
returns-in_ok-wide-in-Little-clause-block g c =
    let at = c.in_ok-wide-in-Little in
    subst (λ (s : State). IsBlock AreWide (IsUnit Utf16) s c.args.input.now at.wide.points 16) (sym c.in-Little.is)
    (marked_low_block c.args.input.now at.wide.points (omega arith) at.ensures.1 at.ensures.0)

pub returns-in_ok-wide-in-Big-clause-block : goal.returns-in_ok-wide-in-Big-clause-block
returns-in_ok-wide-in-Big-clause-block g c =
    let at = c.in_ok-wide-in-Big in
    subst (λ (s : State). IsBlock AreWide (IsUnit Utf16) s c.args.input.now at.wide.points 16) (sym c.in-Big.is)
    (marked_high_block c.args.input.now at.wide.points (omega arith) at.ensures.1 at.ensures.0)
