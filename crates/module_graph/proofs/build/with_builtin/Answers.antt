use Rattle.std.proofs.Common.{◌≡◌, ◌∙◌, ap, subst, arith}
use Rattle.module_graph.specs.Drafts.{IsDraft}
use Rattle.module_graph.proofs.Whole.{builtin_upto, builtin_step, builtin_all}
use Rattle.module_graph.proofs.build.with_builtin.Goals as goal

pub loop-number-preserved : goal.loop-number-preserved
loop-number-preserved c = builtin_step c.loop-number.number c.builtin_set-set.result c.internal-internal.result c.add-in-loop-number.new.self c.loop-number-test.true c.builtin_set-set.ensures c.internal-internal.ensures
    (c.in_ok-add-2.ensures _ (c.in_ok-add.ensures _ c.loop-number.invariant))

pub returns : goal.returns
returns c = let all : c.loop-number.number ≡ 6 = omega arith in subst (λ es. IsDraft es c.loop-number.draft) (ap builtin_upto all ∙ builtin_all) c.loop-number.invariant
