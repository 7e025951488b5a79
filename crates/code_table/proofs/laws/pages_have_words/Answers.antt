use Rattle.code_table.proofs.ImageLaws.{length-image}
use Rattle.code_table.proofs.laws.pages_have_words.Goals as goal

pub returns : goal.returns
returns c = length-image
