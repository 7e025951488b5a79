-- A run with workers that read its texts before its jobs.
use Rattle.std.proofs.Common.{◌≡◌, inl, inr, None, Ok, List, [], ◌∷◌, subst}
use Rattle.outside.specs.Moments.{Written, Holdings}
use Rattle.runtime_histories.specs.declared.entries.Entry.{Entry}
use Rattle.modules_conf.specs.declared.conf.Conf.{Conf}
use Rattle.modules_conf.specs.declared.bindings.Binding.{Binding}
use Rattle.modules_conf.specs.Modules.{conf_of}
use Rattle.modules_conf.specs.Bindings.{bindings_of}
use Rattle.batch_jobs.specs.Jobs.{Text, JobLine, jobs_of}
use Rattle.batch_words.specs.Asked.{Texts, Request}
use Rattle.batch_runs.specs.declared.cause.Cause.{Cause}
use Rattle.batch_runs.specs.Lines.{memory_line}
use Rattle.batch_runs.specs.Meanings.{IsSettingOf}
use Rattle.batch_runs.specs.Preparing.{AreRead, wanted}
use Rattle.batch_runs.specs.Batches.{World}
use Rattle.batch_runs.specs.Runs.{RanFor}
use Rattle.batch_alone.specs.Stops.{Tells}
use Rattle.batch_alone.proofs.Outer.{OnlyTook, aim_for, jobs_for, short_for, untouched_from}
use Rattle.batch_workers.specs.Starts.{IsStartedWith}

pub started-with : (q : Request) (old mid new : World) (cause : Cause) (h : List Entry) (x y z a b c d : Text) (conf : Conf) (bound : List Binding) (jobs : List JobLine)
    → q.source ≡ Texts a b c d → AreRead old.files.told (wanted (Texts a b c d)) (x ∷ y ∷ z ∷ []) None
    → conf_of x ≡ Ok conf → bindings_of y ≡ Ok bound → jobs_of z ≡ Ok jobs
    → OnlyTook old mid → IsStartedWith (aim_for conf bound jobs c q) q.workers mid new cause h → RanFor q old new cause h
started-with q old mid new cause h x y z a b c d conf bound jobs is read is_conf is_bound lines o (inl s) =
    let T : Written → Type 0 = λ w. Tells w new.sink memory_line in
    short_for q old new cause h (untouched_from old mid new h o s.untouched) s.is_cause (subst T o.sink s.told)
started-with q old mid new cause h x y z a b c d conf bound jobs is read is_conf is_bound lines o (inr s) =
    let S : Holdings → Type 0 = λ l. IsSettingOf conf bound c q.pages l.told s.setting in
    jobs_for q old mid new cause h (x ∷ y ∷ z ∷ []) (record { setting = s.setting; jobs = jobs }) a b c d is read
    (record { conf = conf; bound = bound; conf_is = is_conf; bound_is = is_bound; lines = lines; setting = subst S o.library s.is_setting })
    o s.ends
