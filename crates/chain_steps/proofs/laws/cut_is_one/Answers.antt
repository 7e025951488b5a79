use Rattle.unit_relations.proofs.Runs.{one_cut}
use Rattle.chain_steps.specs.Chains.{chain}
use Rattle.chain_steps.proofs.laws.cut_is_one.Goals as goal

pub returns : goal.returns
returns c = λ ts R well. one_cut (chain ts R) (c.chains_are_lawful.ensures.lawful ts R well)
