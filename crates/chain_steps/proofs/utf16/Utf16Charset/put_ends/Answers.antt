use Rattle.std.proofs.Common.{sym, subst}
use Rattle.step_unicode.specs.declared.set.State.{State}
use Rattle.step_unicode.specs.declared.set.Uni.TheVariants.{Utf16}
use Rattle.step_unicode.specs.Sets.{IsSpellable, spelling}
use Rattle.wide_lanes.specs.Ends.{picked}
use Rattle.chain_steps.specs.Blocks.{IsBlockPut}
use Rattle.chain_steps.proofs.WideSets.{marked_low_wide, marked_high_wide}
use Rattle.chain_steps.proofs.utf16.Utf16Charset.put_ends.Goals as goal

pub returns-in-Little : goal.returns-in-Little
returns-in-Little g c =
    let put = c.put_ends_low_first in
    let q = picked c.args.ends.mask c.args.ends.numbers in
    subst (λ (s : State). IsBlockPut (IsSpellable Utf16) (spelling Utf16) s q c.args.at c.args.output.now put.new.output put.result) (sym c.in-Little.is)
    (marked_low_wide q c.args.at put.result c.args.output.now put.new.output c.requires.wide
    (record { within = put.ensures.within; front = put.ensures.front; rest = put.ensures.rest }))

pub returns-in-Big : goal.returns-in-Big
returns-in-Big g c =
    let put = c.put_ends_high_first in
    let q = picked c.args.ends.mask c.args.ends.numbers in
    subst (λ (s : State). IsBlockPut (IsSpellable Utf16) (spelling Utf16) s q c.args.at c.args.output.now put.new.output put.result) (sym c.in-Big.is)
    (marked_high_wide q c.args.at put.result c.args.output.now put.new.output c.requires.wide
    (record { within = put.ensures.within; front = put.ensures.front; rest = put.ensures.rest }))
