use Rattle.std.proofs.Common.{arith, refl, sym, subst}
use Rattle.code_pairs.specs.Tables.{table_at}
use Rattle.step_unicode.specs.declared.set.State.{State}
use Rattle.step_iso2022jp.specs.Sets.{IsInJp, jp_spelling}
use Rattle.chain_steps.specs.Blocks.{IsBlockPut}
use Rattle.chain_steps.proofs.TableSets.{jp_put}
use Rattle.chain_steps.proofs.iso2022jp.JapaneseCharset.put_block.Goals as goal

pub returns-else-not-lacks : goal.returns-else-not-lacks
returns-else-not-lacks g c =
    let ts = g.T.Lookup.tables c.args._tables.now in
    let roman = table_at ts c.args.self.now.roman in
    let kanji = table_at ts c.args.self.now.kanji in
    let new = c.put_plain.new.output in
    subst (λ (s : State). IsBlockPut (IsInJp roman kanji) (jp_spelling roman kanji) s c.args.lanes.points c.args.at c.args.output.now new 16) (sym c.in-Plain.is)
    (jp_put roman kanji c.args.lanes.points c.args.at 16 c.args.output.now new c.requires.plain (c.if-not-lacks.ensures refl)
    (record { within = omega arith; front = c.put_plain.ensures.front; rest = c.put_plain.ensures.rest }))
