use Rattle.std.proofs.Common.{sym, subst, arith}
use Rattle.step_unicode.specs.declared.set.State.{State}
use Rattle.step_unicode.specs.declared.set.Uni.TheVariants.{Utf16}
use Rattle.step_unicode.specs.Sets.{IsSpellable, spelling}
use Rattle.chain_steps.specs.Blocks.{IsBlockPut}
use Rattle.chain_steps.proofs.PlainSets.{marked_little_put, marked_big_put}
use Rattle.chain_steps.proofs.utf16.Utf16Charset.put_block.Goals as goal

pub returns-in-Little : goal.returns-in-Little
returns-in-Little g c =
    let put = c.put_low_first in
    subst (λ (s : State). IsBlockPut (IsSpellable Utf16) (spelling Utf16) s c.args.lanes.points c.args.at c.args.output.now put.new.output 32) (sym c.in-Little.is)
    (marked_little_put c.args.lanes.points c.args.at 32 c.args.output.now put.new.output c.requires.plain
    (record { within = omega arith; front = put.ensures.front; rest = put.ensures.rest }))

pub returns-in-Big : goal.returns-in-Big
returns-in-Big g c =
    let put = c.put_high_first in
    subst (λ (s : State). IsBlockPut (IsSpellable Utf16) (spelling Utf16) s c.args.lanes.points c.args.at c.args.output.now put.new.output 32) (sym c.in-Big.is)
    (marked_big_put c.args.lanes.points c.args.at 32 c.args.output.now put.new.output c.requires.plain
    (record { within = omega arith; front = put.ensures.front; rest = put.ensures.rest }))
