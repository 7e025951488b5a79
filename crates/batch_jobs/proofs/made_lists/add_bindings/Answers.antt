use Rattle.std.proofs.Common.{◌+◌, ◌-◌, ◌++◌, map, refl, arith}
use Rattle.std.specs.List.{concat, range_with_len}
use Rattle.batch_jobs.specs.Generated.{all_bindings, binding_line}
use Rattle.batch_jobs.proofs.Ranges.{finished, longer, texts_first, texts_none}
use Rattle.batch_jobs.proofs.made_lists.add_bindings.Goals as goal

pub sets-init : goal.sets-init
unfolding all_bindings
sets-init c = refl

pub sets-preserved : goal.sets-preserved
sets-preserved c = longer (c.args.text.now.items ++ all_bindings) c.sets.text.items (binding_line c.sets.set) c.add_binding.new.text.items
    (concat (map (binding_line) (range_with_len c.sets.set (8 - c.sets.set))))
    (concat (map (binding_line) (range_with_len (c.sets.set + 1) (8 - (c.sets.set + 1)))))
    c.sets.invariant (texts_first (binding_line) c.sets.set 8 (omega (arith, c.sets-test.true))) c.in_ok-add_binding.ensures

pub returns : goal.returns
returns c = finished (c.args.text.now.items ++ all_bindings) c.sets.text.items
    (concat (map (binding_line) (range_with_len c.sets.set (8 - c.sets.set))))
    c.sets.invariant (texts_none (binding_line) c.sets.set 8 (omega (arith, c.sets-test.false)))
