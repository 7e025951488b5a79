use Rattle.std.proofs.Common.{refl, arith}
use Rattle.code_pairs.specs.Tables.{Tables}
use Rattle.wide_lanes.specs.Wide.{AreWide}
use Rattle.chain_steps.proofs.BlockRuns.{block_run, block_as, put_over}
use Rattle.chain_steps.proofs.engine.wide_block.Goals as goal

pub returns-clause-tried : goal.returns-clause-tried
returns-clause-tried g c =
    let ts : Tables = g.T.Lookup.tables c.args.tables.now in
    let R = c.args.recipe.now in
    let x = c.args.input.now in
    let a = c.args.from in
    let b = c.in_ok-some.some in
    let n = c.in_ok-made.made in
    let new = c.put_wide.new.output in
    let block = block_as AreWide ts _ R.reader x b.wide.points a b.used c.requires.call.reader c.in_ok-some.ensures.block in (
      block_run AreWide ts R c.requires.joints x c.args.output.now new b.wide.points a b.used n (omega (arith, c.requires.some)) block
          (put_over _ ts _ R.writer b.wide.points a c.args.output.now new n c.wide.ensures.back.same c.requires.call.writer c.in_ok-made.ensures.put),
      omega (arith, block.some),
      refl,
    )
