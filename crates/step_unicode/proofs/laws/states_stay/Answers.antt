use Rattle.step_unicode.proofs.States.{plain_is_state, unit_leads, spelling_leads}
use Rattle.step_unicode.proofs.laws.states_stay.Goals as goal

pub returns-clause-first : goal.returns-clause-first
returns-clause-first c = plain_is_state

pub returns-clause-read : goal.returns-clause-read
returns-clause-read c = unit_leads

pub returns-clause-written : goal.returns-clause-written
returns-clause-written c = spelling_leads
