use Rattle.std.proofs.Common.{sym, subst, arith}
use Rattle.step_unicode.specs.declared.set.State.{State}
use Rattle.step_unicode.specs.declared.set.Uni.TheVariants.{Utf16}
use Rattle.step_unicode.specs.Sets.{IsSpellable, spelling}
use Rattle.chain_steps.specs.Blocks.{IsBlockPut}
use Rattle.chain_steps.proofs.WideSets.{marked_low_wide, marked_high_wide}
use Rattle.chain_steps.proofs.utf16.Utf16Charset.put_wide.Goals as goal

pub returns-in-Little-clause-put : goal.returns-in-Little-clause-put
returns-in-Little-clause-put g c =
    let put = c.put_low_first in
    subst (λ (s : State). IsBlockPut (IsSpellable Utf16) (spelling Utf16) s c.args.wide.points c.args.at c.args.output.now put.new.output 16) (sym c.in-Little.is)
    (marked_low_wide c.args.wide.points c.args.at 16 c.args.output.now put.new.output c.requires.wide
    (record { within = omega arith; front = put.ensures.front; rest = put.ensures.rest }))

pub returns-in-Big-clause-put : goal.returns-in-Big-clause-put
returns-in-Big-clause-put g c =
    let put = c.put_high_first in
    subst (λ (s : State). IsBlockPut (IsSpellable Utf16) (spelling Utf16) s c.args.wide.points c.args.at c.args.output.now put.new.output 16) (sym c.in-Big.is)
    (marked_high_wide c.args.wide.points c.args.at 16 c.args.output.now put.new.output c.requires.wide
    (record { within = omega arith; front = put.ensures.front; rest = put.ensures.rest }))
