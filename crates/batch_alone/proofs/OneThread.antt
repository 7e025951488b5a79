-- The history of a run in one thread, and its end.
use Rattle.std.proofs.Common.{◌≡◌, ◌∙◌, ◌⊎◌, inl, inr, ◌+◌, ◌≤◌, ℕ, suc, zero, Bool, true, false, List, [], ◌∷◌, ◌++◌, length, take, drop, map, Option, Some, None, ap, ap₂, sym, subst, refl, arith, take-append-drop, if◌then◌else◌}
use Rattle.std.proofs.Math.Seq.{take-length}
use Rattle.std.proofs.lemmas.List.{map-append}
use Rattle.outside.specs.Faults.{RoseBy}
use Rattle.outside.specs.Shelves.{Shelf}
use Rattle.outside.specs.Moments.{Outside, Written, Holdings}
use Rattle.outside.specs.declared.sinks.Sent.{Sent}
use Rattle.outside.specs.declared.sinks.Sent.TheVariants as sent
use Rattle.runtime_histories.specs.declared.entries.Entry.{Entry}
use Rattle.batch_jobs.specs.Jobs.{Text, JobLine}
use Rattle.batch_jobs.specs.declared.outcomes.Outcome.{Outcome}
use Rattle.batch_runs.specs.declared.cause.Cause.{Cause}
use Rattle.batch_runs.specs.declared.cause.Cause.TheVariants.{Done, Jobs, OutFault, Memory}
use Rattle.batch_runs.specs.Takings.{AreTaken, read_faults}
use Rattle.batch_runs.specs.Lines.{memory_line}
use Rattle.batch_runs.specs.Works.{Work, Skipped, Denied, Converted}
use Rattle.batch_runs.specs.Puts.{PutsJournal, ArePut, sent_fault, write_faults}
use Rattle.batch_runs.specs.Histories.{Ask, Call, weight, SameItems, SomeItems, calls_of, call_of_job, calls_of_jobs, ask_of, IsOrderly, IsHistory, IsPart, told_faults, placed_from}
use Rattle.batch_runs.specs.Batches.{World, Batch, IsDone, RunsJobs, Writes, all_good, report_by}
use Rattle.batch_runs.specs.Endings.{Task, Finishes, Halts, EndsBy, WritesLine, cause_of}
use Rattle.batch_alone.specs.Steps.{AreEntered, HaltsAt, Settles}
use Rattle.batch_runs.proofs.Weights.{weight-append}
use Rattle.batch_alone.proofs.Entered.{entered_of, entered_paired, entered_calls, own_of_one, called_one}
use Rattle.batch_alone.proofs.Snoc.{rose_on}
use Rattle.batch_alone.proofs.Asking.{asked_by}
use Rattle.runtime_histories.specs.Fetches.{FetchesFrom}
use Rattle.runtime_histories.specs.Settings.{Setting}
use Rattle.batch_alone.specs.Books.{Book, Keeps, Ends}
use Rattle.batch_runs.specs.Meanings.{AskedSince, HasFetched}
use Rattle.runtime_histories.specs.Legal.{Legal}

pub orderly_alone : (s : Setting) (workers : ℕ) (js : List JobLine) (ws : List Work) (h : List Entry) → Legal s h → AreEntered s 1 0 js ws h → IsOrderly s workers h
orderly_alone s workers js ws h legal e =
    let all = entered_of s 1 0 js ws h e in
    record {
      legal = legal;
      pairs = λ caller. own_of_one 1 caller 0 h all (entered_paired s 1 0 js ws h e);
      callers = called_one workers h all;
    }

pub history_alone : (s : Setting) (workers : ℕ) (js : List JobLine) (ws : List Work) (h : List Entry) → Legal s h → AreEntered s 1 0 js ws h → IsHistory s workers js ws h
history_alone s workers js ws h legal e =
    let calls = entered_calls s 1 0 js ws h e in
    record {
      orderly = orderly_alone s workers js ws h legal e;
      openings = λ of. ap (weight of) calls;
      in_order = λ none. calls;
    }

-- ---- the openings of a part

abbrev pub asks : List Call → List Ask
asks cs = map (λ (c : Call). c.ask) cs

ask_one : (s : Setting) (of : Ask → ℕ) (j : JobLine) (w : Work) → weight of (asks (call_of_job s j w)) ≤ of (ask_of s j)
ask_one s of j (Skipped miss) = omega arith
ask_one s of j (Denied r) = omega arith
ask_one s of j (Converted made) = omega arith

pub asks_jobs : (s : Setting) (of : Ask → ℕ) (js : List JobLine) (ws : List Work) → weight of (asks (calls_of_jobs s js ws)) ≤ weight of (map (ask_of s) js)
asks_jobs s of [] ws = omega arith
asks_jobs s of (j ∷ js) [] = omega arith
asks_jobs s of (j ∷ js) (w ∷ ws) =
    let here = ask_one s of j w in
    let rest = asks_jobs s of js ws in
    let e : weight of (asks (call_of_job s j w ++ calls_of_jobs s js ws)) ≡ weight of (asks (call_of_job s j w)) + weight of (asks (calls_of_jobs s js ws)) =
    ap (weight of) (map-append (λ (c : Call). c.ask) (call_of_job s j w) (calls_of_jobs s js ws)) ∙ weight-append of (asks (call_of_job s j w)) (asks (calls_of_jobs s js ws)) in
    omega (arith, here, rest, e)

asks_take : (s : Setting) (of : Ask → ℕ) (k : ℕ) (js : List JobLine) → weight of (map (ask_of s) (take k js)) ≤ weight of (map (ask_of s) js)
asks_take s of zero js = omega arith
asks_take s of (suc k) [] = omega arith
asks_take s of (suc k) (j ∷ js) = let i = asks_take s of k js in omega (arith, i)

pub part_alone : (s : Setting) (workers k : ℕ) (js : List JobLine) (ws : List Work) (h : List Entry) → Legal s h → AreEntered s 1 0 (take k js) ws h → IsPart s workers js h
part_alone s workers k js ws h legal e = record {
  orderly = orderly_alone s workers (take k js) ws h legal e;
  openings = λ of.
      let same = ap (λ cs. weight of (asks cs)) (entered_calls s 1 0 (take k js) ws h e) in
      let jobs = asks_jobs s of (take k js) ws in
      let front = asks_take s of k js in
      omega (arith, same, jobs, front);
}

-- ---- the end

pub ends_by : (t : Task) (report : Batch → Text) (old new : World) (es : List Outcome) (put answer : Sent) (h : List Entry)
    → Finishes t report old new (cause_of es put answer) h → EndsBy t report old new (cause_of es put answer) h
ends_by t report old new es sent.Failed answer h f = f
ends_by t report old new es sent.Done sent.Failed h f = f
ends_by t report old new es sent.Done sent.Done h f = go (all_good es) f
  where
    go : (b : Bool) → Finishes t report old new (if b then Done else Jobs) h → EndsBy t report old new (if b then Done else Jobs) h
    go true f = f
    go false f = f

pub finish_alone : (first last : Book) (from mid to : Outside) (js : List JobLine) (sums : Bool) (text : Text) (good : Bool) (left : Holdings) (h : List Entry)
    (workers : ℕ) (file : Option Text) (put answer : Sent) (before after : Written) (cause : Cause)
    → Settles first last from mid js sums text good → Ends last left h → first.journal ≡ []
    → PutsJournal mid.told file h put to.told → to.takes ≡ mid.takes → RoseBy (sent_fault put) mid.puts to.puts
    → Writes before after text answer → ((es : List Outcome) → good ≡ all_good es → cause ≡ cause_of es put answer)
    → EndsBy (record { setting = first.setting; jobs = js; workers = workers; file = file }) (report_by sums)
    (record { files = from; library = first.library; sink = before }) (record { files = to; library = left; sink = after }) cause h
finish_alone first last from mid to js sums text good left h workers file put answer before after cause s e given journal takes puts wrote is =
    let t : Task = record { setting = first.setting; jobs = js; workers = workers; file = file } in
    let old : World = record { files = from; library = first.library; sink = before } in
    let new : World = record { files = to; library = left; sink = after } in
    let why : cause ≡ cause_of s.batch.outcomes put answer = is s.batch.outcomes s.is_good in
    let P : Cause → Type 0 = λ c. EndsBy t (report_by sums) old new c h in
    let E : List Entry → Type 0 = λ xs. AreEntered first.setting 1 0 js s.batch.works xs in
    let L : Setting → Type 0 = λ x. Legal x h in
    let T : ℕ → Type 0 = λ n. RoseBy n from.puts to.puts in
    let U : ℕ → Type 0 = λ n. RoseBy (read_faults s.batch.inputs) from.takes n in
    let F : List Entry → Type 0 = λ xs. RoseBy (told_faults xs) first.library.faults last.library.faults in
    let G : Holdings → Type 0 = λ l. RoseBy (told_faults h) first.library.faults l.faults in
    let A : List Entry → Type 0 = λ xs. AskedSince (FetchesFrom first.setting xs h) first.library.paths left.paths in
    let J : List Entry → Type 0 = λ xs. AskedSince (FetchesFrom first.setting first.journal xs) first.library.paths last.library.paths in
    let K : Holdings → Type 0 = λ l. AskedSince (FetchesFrom first.setting first.journal h) first.library.paths l.paths in
    let W : Text → Type 0 = λ x. Writes before after x answer in
    subst P (sym why) (ends_by t (report_by sums) old new s.batch.outcomes put answer h (record {
      batch = s.batch;
      put = put;
      answer = answer;
      runs = record {
        between = mid.told;
        done = s.done;
        journal = journal;
        of_jobs = history_alone first.setting workers js s.batch.works h (subst L s.keeps.setting e.legal) (subst E (sym e.journal) s.entered);
        takes = subst U (sym takes) s.takes;
        puts = rose_on (write_faults s.batch.outcomes) (sent_fault put) from.puts mid.puts to.puts s.puts puts;
        library = subst G (sym e.library) (subst F (sym e.journal) s.keeps.faults);
        held = ap (λ (l : Holdings). l.told) e.library ∙ s.keeps.told;
        asked = asked_by first.setting workers h first.library.paths left.paths (subst A given (subst K (sym e.library) (subst J (sym e.journal) s.asked)));
      };
      wrote = subst W s.is_text wrote;
      is_cause = refl;
    }))

-- a run that settled its jobs, and wanted memory then
pub settled_halts : (first last : Book) (from to : Outside) (js : List JobLine) (sums : Bool) (text : Text) (good : Bool) → Settles first last from to js sums text good → HaltsAt first last from to js
settled_halts first last from to js sums text good s =
    let D : List JobLine → Type 0 = λ xs. IsDone first.setting xs from.told to.told s.batch in
    let E : List JobLine → Type 0 = λ xs. AreEntered first.setting 1 0 xs s.batch.works last.journal in
    record {
      done = length js;
      batch = s.batch;
      is_done = subst D (sym (take-length js)) s.done;
      begun = length js;
      begun_works = s.batch.works;
      entered = subst E (sym (take-length js)) s.entered;
      keeps = s.keeps;
    }

pub halt_alone : (first last : Book) (from mid to : Outside) (js : List JobLine) (sums : Bool) (left : Holdings) (h : List Entry)
    (workers : ℕ) (file : Option Text) (answer : Sent) (before after : Written)
    → HaltsAt first last from mid js → Ends last left h → to.told ≡ mid.told → Writes before after memory_line answer
    → EndsBy (record { setting = first.setting; jobs = js; workers = workers; file = file }) (report_by sums)
    (record { files = from; library = first.library; sink = before }) (record { files = to; library = left; sink = after }) Memory h
halt_alone first last from mid to js sums left h workers file answer before after s e same wrote =
    let E : List Entry → Type 0 = λ xs. AreEntered first.setting 1 0 (take s.begun js) s.begun_works xs in
    let L : Setting → Type 0 = λ x. Legal x h in
    let F : List Entry → Type 0 = λ xs. RoseBy (told_faults xs) first.library.faults last.library.faults in
    let G : Holdings → Type 0 = λ l. RoseBy (told_faults h) first.library.faults l.faults in
    record {
      front = take s.done js;
      rest = drop s.done js;
      is_front = sym (take-append-drop s.done js);
      batch = s.batch;
      between = mid.told;
      done = s.is_done;
      put_file = None;
      is_file = inl refl;
      journal = (refl, same);
      part = part_alone first.setting workers s.begun js s.begun_works h (subst L s.keeps.setting e.legal) (subst E (sym e.journal) s.entered);
      library = subst G (sym e.library) (subst F (sym e.journal) s.keeps.faults);
      wrote = (answer, wrote);
    }
