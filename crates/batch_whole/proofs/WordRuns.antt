-- From a run for a request to a run for the words that ask for it.
use Rattle.std.proofs.Common.{◌≡◌, List, Some, None, inl, inr, refl, sym, subst}
use Rattle.outside.specs.Moments.{Outside, Written, Holdings}
use Rattle.runtime_histories.specs.declared.entries.Entry.{Entry}
use Rattle.batch_jobs.specs.Jobs.{Text}
use Rattle.batch_words.specs.Asked.{Request, asked}
use Rattle.batch_runs.specs.declared.cause.Cause.{Cause}
use Rattle.batch_runs.specs.declared.cause.Cause.TheVariants.{Done, Jobs, Usage, Input, InputFault, OutFault, Memory}
use Rattle.batch_runs.specs.Batches.{World}
use Rattle.batch_runs.specs.Lines.{memory_line, usage_line}
use Rattle.batch_runs.specs.Runs.{Ran, RanFor, RanShort, IsUntouched}
use Rattle.batch_whole.specs.Lines.{EndsWith}
use Rattle.batch_whole.specs.Worlds.{world}

-- A run for what the words ask for is a run for the words.
pub ran_asked : (words : List Text) (q : Request) (old new : World) (cause : Cause) (h : List Entry)
    → asked words ≡ Some q → RanFor q old new cause h → Ran words old new cause h
ran_asked words q old new Done h is r = record { request = q; is_asked = is; ran = r }
ran_asked words q old new Jobs h is r = record { request = q; is_asked = is; ran = r }
ran_asked words q old new Usage h is r = absurd r
ran_asked words q old new (Input which fault) h is r = record { request = q; is_asked = is; ran = r }
ran_asked words q old new (InputFault which) h is r = record { request = q; is_asked = is; ran = r }
ran_asked words q old new (OutFault which) h is r = record { request = q; is_asked = is; ran = r }
ran_asked words q old new Memory h is r = inr (record { request = q; is_asked = is; ran = r })

-- A run that did nothing but write a line has left all else untouched.
pub untouched_by : (files : Outside) (given left : Holdings) (a b : Written) (line : Text) (h : List Entry)
    → EndsWith line given left a b h → IsUntouched (world files given a) (world files left b) h
untouched_by files given left a b line h e =
    record { told = refl; puts = refl; library = e.same; empty = e.empty }

-- A run that wanted memory before its jobs.
pub short_by : (files : Outside) (given left : Holdings) (a b : Written) (h : List Entry)
    → EndsWith memory_line given left a b h → RanShort (world files given a) (world files left b) h
short_by files given left a b h e = record {
  untouched = untouched_by files given left a b memory_line h e;
  wrote = (e.answer, e.wrote);
}

-- The same, of a request.
pub short_for : (q : Request) (files : Outside) (given left : Holdings) (a b : Written) (cause : Cause)
    (h : List Entry) → cause ≡ Memory → EndsWith memory_line given left a b h
    → RanFor q (world files given a) (world files left b) cause h
short_for q files given left a b cause h is e =
    let P : Cause → Type 0 = λ c. RanFor q (world files given a) (world files left b) c h in
    subst P (sym is) (inl (short_by files given left a b h e))

-- The same, of words.
pub short_words : (words : List Text) (files : Outside) (given left : Holdings) (a b : Written)
    (cause : Cause) (h : List Entry) → cause ≡ Memory → EndsWith memory_line given left a b h
    → Ran words (world files given a) (world files left b) cause h
short_words words files given left a b cause h is e =
    let P : Cause → Type 0 = λ c. Ran words (world files given a) (world files left b) c h in
    subst P (sym is) (inl (short_by files given left a b h e))

-- Words that are no command.
pub usage_words : (words : List Text) (files : Outside) (given left : Holdings) (a b : Written)
    (cause : Cause) (h : List Entry) → asked words ≡ None → cause ≡ Usage
    → EndsWith usage_line given left a b h
    → Ran words (world files given a) (world files left b) cause h
usage_words words files given left a b cause h none is e =
    let P : Cause → Type 0 = λ c. Ran words (world files given a) (world files left b) c h in
    subst P (sym is)
    (none, untouched_by files given left a b usage_line h e, (e.answer, e.wrote))
