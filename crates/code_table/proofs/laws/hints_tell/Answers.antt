use Rattle.code_table.proofs.AsciiLaws.{ascii_is}
use Rattle.code_table.proofs.LastLaws.{beyond_last, double_code}
use Rattle.code_table.proofs.laws.hints_tell.Goals as goal

pub returns-clause-last : goal.returns-clause-last
returns-clause-last c = beyond_last

pub returns-clause-double : goal.returns-clause-double
returns-clause-double c = double_code

pub returns-clause-ascii : goal.returns-clause-ascii
returns-clause-ascii c = ascii_is
