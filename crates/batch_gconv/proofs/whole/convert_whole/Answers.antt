use Rattle.std.proofs.Common.{◌∙◌, length, ap, subst, arith}
use Rattle.code_pairs.specs.Tables.{Tables}
use Rattle.unit_relations.specs.Meaning.{MeansWhole}
use Rattle.chain_steps.specs.declared.recipe.Recipe.{Recipe}
use Rattle.chain_steps.specs.Machine.{Machine}
use Rattle.chain_steps.specs.Chains.{chain, initial}
use Rattle.chain_steps.specs.Sets.{return_of}
use Rattle.step_buffers.specs.Ends.{ending}
use Rattle.conversion_book.proofs.Wholes.{left_recipe}
use Rattle.batch_gconv.proofs.whole.convert_whole.Goals as goal

pub returns-clause-ok : goal.returns-clause-ok
returns-clause-ok g c =
    let x = c.args.input.now in
    let w = c.end.result.0.output.items in
    let f = c.end.result.1 in
    let fed = c.in_ok-feed_all.ensures in
    let d = c.args.converter.now in
    let e = c.feed_all.new.converter in
    let old : Machine = g.C.Converter.machine d in
    let now : Machine = g.C.Converter.machine e in
    let whole : MeansWhole (chain (g.C.Converter.tables e) now.recipe) (return_of now.recipe.writer) initial x (ending w f (length x)) = c.end.ensures.means x fed.stands in
    record {
      means = subst (λ (R : Recipe). MeansWhole (chain (g.C.Converter.tables d) R) (return_of R.writer) initial x (ending w f (length x))) fed.recipe
          (subst (λ (us : Tables). MeansWhole (chain us now.recipe) (return_of now.recipe.writer) initial x (ending w f (length x))) fed.back.same whole);
      little = (let a = c.end.ensures.little in let b = fed.taken in omega (arith, a, b));
      recipe = ap (λ (m : Machine). m.recipe) c.end.ensures.machine ∙ (left_recipe f now ∙ fed.recipe);
    }
