use Rattle.std.proofs.Common.{◌≡◌, ◌++◌, map}
use Rattle.batch_jobs.specs.Packed.{packed_text, texts_from}
use Rattle.batch_jobs.proofs.made_words.packed_texts.Given as goal

abbrev pub invariant-places : goal.invariant-places
invariant-places l = texts_from l.number 0 ≡ map packed_text l.words.items ++ texts_from l.number l.place
