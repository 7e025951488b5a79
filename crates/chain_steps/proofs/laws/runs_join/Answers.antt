use Rattle.unit_relations.proofs.Runs.{Carried-nil, Carried-append}
use Rattle.chain_steps.specs.Chains.{chain}
use Rattle.chain_steps.proofs.laws.runs_join.Goals as goal

pub returns-clause-none : goal.returns-clause-none
returns-clause-none c = λ ts R. Carried-nil (chain ts R) (c.chains_are_lawful.ensures.joins ts R)

pub returns-clause-both : goal.returns-clause-both
returns-clause-both c = λ ts R. Carried-append (chain ts R) (c.chains_are_lawful.ensures.joins ts R)
