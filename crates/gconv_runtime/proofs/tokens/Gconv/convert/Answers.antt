use Rattle.std.proofs.Common.{sym, subst}
use Rattle.chain_steps.specs.Chains.{CanRun}
use Rattle.chain_steps.specs.Runs.{IsCall}
use Rattle.gconv_runtime.specs.Looking.{owned_tells}
use Rattle.gconv_runtime.proofs.tokens.Gconv.convert.Goals as goal

pub convert-requires-clause-ready : goal.convert-requires-clause-ready
convert-requires-clause-ready g c = let own = c.requires.owns in let k = c.requires.knows in
    record {
      own = k.own;
      held = (owned_tells _ _ _ _ c.args.descriptor.now.number own.desc c.args.descriptor.now.pins.items c.as_slice.result.now c.as_slice.ensures.value k.own.legal k.room own.live own.found own.pins).pins;
    }

pub convert-requires-clause-range : goal.convert-requires-clause-range
convert-requires-clause-range g c = let own = c.requires.owns in let k = c.requires.knows in
    subst (λ ts. CanRun ts c.args.descriptor.now.runner.recipe)
    (sym (owned_tells _ _ _ _ c.args.descriptor.now.number own.desc c.args.descriptor.now.pins.items c.as_slice.result.now c.as_slice.ensures.value k.own.legal k.room own.live own.found own.pins).tables) own.range

pub returns-clause-call : goal.returns-clause-call
returns-clause-call g c = let own = c.requires.owns in let k = c.requires.knows in
    subst (λ ts. IsCall ts c.args.descriptor.now.runner c.convert.new.self c.args.input.now c.args.output.now c.convert.new.output c.convert.result)
    (owned_tells _ _ _ _ c.args.descriptor.now.number own.desc c.args.descriptor.now.pins.items c.as_slice.result.now c.as_slice.ensures.value k.own.legal k.room own.live own.found own.pins).tables c.convert.ensures.call
