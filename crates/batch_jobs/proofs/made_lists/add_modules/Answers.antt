use Rattle.std.proofs.Common.{◌+◌, ◌-◌, ◌++◌, map, refl, arith}
use Rattle.std.specs.List.{concat, range_with_len}
use Rattle.batch_jobs.specs.Generated.{all_modules, module_lines}
use Rattle.batch_jobs.proofs.Ranges.{finished, longer, texts_first, texts_none}
use Rattle.batch_jobs.proofs.made_lists.add_modules.Goals as goal

pub sets-init : goal.sets-init
unfolding all_modules
sets-init c = refl

pub sets-preserved : goal.sets-preserved
sets-preserved c = longer (c.args.text.now.items ++ all_modules) c.sets.text.items (module_lines c.sets.set) c.add_set.new.text.items
    (concat (map (module_lines) (range_with_len c.sets.set (8 - c.sets.set))))
    (concat (map (module_lines) (range_with_len (c.sets.set + 1) (8 - (c.sets.set + 1)))))
    c.sets.invariant (texts_first (module_lines) c.sets.set 8 (omega (arith, c.sets-test.true))) c.in_ok-add_set.ensures

pub returns : goal.returns
returns c = finished (c.args.text.now.items ++ all_modules) c.sets.text.items
    (concat (map (module_lines) (range_with_len c.sets.set (8 - c.sets.set))))
    c.sets.invariant (texts_none (module_lines) c.sets.set 8 (omega (arith, c.sets-test.false)))
