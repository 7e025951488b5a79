use Rattle.std.proofs.Common.{sym, subst, arith}
use Rattle.step_unicode.specs.declared.set.State.{State}
use Rattle.step_unicode.specs.declared.set.Uni.TheVariants.{Utf16}
use Rattle.step_unicode.specs.Sets.{IsUnit}
use Rattle.ascii_lanes.specs.Plain.{ArePlain}
use Rattle.chain_steps.specs.Blocks.{IsBlock}
use Rattle.chain_steps.proofs.PlainSets.{marked_little_block, marked_big_block}
use Rattle.chain_steps.proofs.utf16.Utf16Charset.block.Goals as goal

pub returns-in_ok-lanes-in-Little : goal.returns-in_ok-lanes-in-Little
returns-in_ok-lanes-in-Little g c =
    let at = c.in_ok-lanes-in-Little in
    subst (λ (s : State). IsBlock ArePlain (IsUnit Utf16) s c.args.input.now at.lanes.points 32) (sym c.in-Little.is)
    (marked_little_block c.args.input.now at.lanes.points (omega arith) at.ensures.1 at.ensures.0)

pub returns-in_ok-lanes-in-Big : goal.returns-in_ok-lanes-in-Big
returns-in_ok-lanes-in-Big g c =
    let at = c.in_ok-lanes-in-Big in
    subst (λ (s : State). IsBlock ArePlain (IsUnit Utf16) s c.args.input.now at.lanes.points 32) (sym c.in-Big.is)
    (marked_big_block c.args.input.now at.lanes.points (omega arith) at.ensures.1 at.ensures.0)
