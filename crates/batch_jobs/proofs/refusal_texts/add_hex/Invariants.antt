use Rattle.std.proofs.Common.{◌≡◌, ◌++◌, drop}
use Rattle.batch_jobs.specs.Refusals.{hex_text}
use Rattle.batch_jobs.proofs.refusal_texts.add_hex.Given as goal

abbrev pub invariant-bytes : goal.invariant-bytes
invariant-bytes l = l.initial.text.items ++ hex_text l.code ≡ l.text.items ++ hex_text (drop l.place l.code)
