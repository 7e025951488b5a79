use Rattle.step_unicode.proofs.ReadBack.{reads_back}
use Rattle.step_unicode.proofs.laws.spellings_read_back.Goals as goal

pub returns : goal.returns
returns c = reads_back
