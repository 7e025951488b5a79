use Rattle.chain_steps.proofs.SetLaws.{run_leads}
use Rattle.chain_steps.proofs.laws.chains_are_lawful.Goals as goal

pub returns-clause-lawful : goal.returns-clause-lawful
returns-clause-lawful c = λ ts R well. record {
  apart = c.units_are_apart.ensures.apart ts R.reader well;
  bytes = c.units_are_apart.ensures.some ts R.reader well;
  one_way = λ p r r' one two. c.joints_go_one_way.ensures.all ts R.joints well p r r' one.0 two.0;
  joins = c.spellings_join.ensures.joins ts R.writer;
  short = c.spellings_join.ensures.short ts R.writer well;
}

pub returns-clause-joins : goal.returns-clause-joins
returns-clause-joins c = λ ts R. c.spellings_join.ensures.joins ts R.writer

pub returns-clause-states : goal.returns-clause-states
returns-clause-states c = λ ts R. run_leads ts R (c.states_stay.ensures.read ts R.reader) (c.states_stay.ensures.written ts R.writer)
