use Rattle.std.proofs.Common.{refl, arith}
use Rattle.code_pairs.specs.Tables.{Tables}
use Rattle.ascii_lanes.specs.Plain.{ArePlain}
use Rattle.chain_steps.proofs.BlockRuns.{block_run, block_as, put_as}
use Rattle.chain_steps.proofs.engine.plain_block.Goals as goal

pub returns : goal.returns
returns g c =
    let ts : Tables = g.T.Lookup.tables c.args.tables.now in
    let R = c.args.recipe.now in
    let x = c.args.input.now in
    let a = c.args.from in
    let b = c.in_ok-some.some in
    let n = c.in_ok-made.made in
    let new = c.put_block.new.output in
    let block = block_as ArePlain ts _ R.reader x b.lanes.points a b.used c.requires.call.reader c.in_ok-some.ensures in (
      block_run ArePlain ts R c.requires.joints x c.args.output.now new b.lanes.points a b.used n (omega (arith, c.requires.some)) block
          (put_as ts _ R.writer b.lanes.points a c.args.output.now new n c.requires.call.writer c.in_ok-made.ensures),
      omega (arith, block.some),
      refl,
    )
