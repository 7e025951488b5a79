use Rattle.code_table.proofs.LookLaws.{look_is}
use Rattle.code_table.proofs.laws.looks_tell.Goals as goal

pub returns : goal.returns
returns c = λ table bytes well. look_is table well bytes
