use Rattle.unit_relations.proofs.Room.{run_short, lack_short}
use Rattle.chain_steps.specs.Chains.{chain}
use Rattle.chain_steps.proofs.laws.runs_are_short.Goals as goal

pub returns-clause-run : goal.returns-clause-run
returns-clause-run c = λ ts R from to x w well. run_short (chain ts R) (c.chains_are_lawful.ensures.lawful ts R well) from to x w

pub returns-clause-unit : goal.returns-clause-unit
returns-clause-unit c = λ ts R at room rest well. lack_short (chain ts R) (c.chains_are_lawful.ensures.lawful ts R well) at room rest
