use Rattle.chain_steps.proofs.SetLaws.{first_state, units_stay, spellings_stay}
use Rattle.chain_steps.proofs.laws.states_stay.Goals as goal

pub returns-clause-first : goal.returns-clause-first
returns-clause-first c = first_state c.states_stay.ensures.first

pub returns-clause-read : goal.returns-clause-read
returns-clause-read c = units_stay c.states_stay.ensures.read c.states_stay-2.ensures.read

pub returns-clause-written : goal.returns-clause-written
returns-clause-written c = spellings_stay c.states_stay.ensures.written c.states_stay-2.ensures.written
