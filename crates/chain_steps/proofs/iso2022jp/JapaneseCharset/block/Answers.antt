use Rattle.std.proofs.Common.{arith, refl, sym, subst}
use Rattle.ascii_lanes.specs.Plain.{ArePlain}
use Rattle.code_pairs.specs.Tables.{table_at}
use Rattle.step_unicode.specs.declared.set.State.{State}
use Rattle.step_iso2022jp.specs.Sets.{IsJpUnit}
use Rattle.chain_steps.specs.Blocks.{IsBlock}
use Rattle.chain_steps.proofs.TableSets.{jp_block}
use Rattle.chain_steps.proofs.iso2022jp.JapaneseCharset.block.Goals as goal

pub returns-else-not-lacks : goal.returns-else-not-lacks
returns-else-not-lacks g c =
    let ts = g.T.Lookup.tables c.args._tables.now in
    let roman = table_at ts c.args.self.now.roman in
    let kanji = table_at ts c.args.self.now.kanji in
    let at = c.in_ok-lanes-in-Plain in
    subst (λ (s : State). IsBlock ArePlain (IsJpUnit roman kanji) s c.args.input.now at.lanes.points 16) (sym c.in-Plain.is)
    (jp_block roman kanji c.args.input.now at.lanes.points (omega arith) at.ensures.1 at.ensures.0 (c.if-not-lacks.ensures refl))
