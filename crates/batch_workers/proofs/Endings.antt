-- How a run with workers ends.
use Rattle.std.proofs.Common.{◌≡◌, ◌∙◌, inl, ◌≤◌, ℕ, suc, zero, Bool, List, [], ◌∷◌, length, take, drop, Option, None, ap, sym, subst, refl, arith, take-append-drop}
use Rattle.std.proofs.lemmas.List.{take-map}
use Rattle.std.proofs.Math.Seq.{take-length}
use Rattle.outside.specs.Faults.{RoseBy}
use Rattle.outside.specs.Shelves.{Shelf}
use Rattle.outside.specs.Moments.{Outside, Written, Holdings}
use Rattle.outside.specs.declared.sinks.Sent.{Sent}
use Rattle.runtime_histories.specs.declared.entries.Entry.{Entry}
use Rattle.runtime_histories.specs.Fetches.{FetchesLoose}
use Rattle.runtime_histories.specs.Settings.{Setting}
use Rattle.batch_jobs.specs.Jobs.{Text, JobLine}
use Rattle.batch_jobs.specs.declared.outcomes.Outcome.{Outcome}
use Rattle.batch_runs.specs.declared.cause.Cause.{Cause}
use Rattle.batch_runs.specs.declared.cause.Cause.TheVariants.{Memory}
use Rattle.batch_runs.specs.Takings.{Taking, AreTaken, all_inputs, read_faults}
use Rattle.batch_runs.specs.Lines.{memory_line}
use Rattle.batch_runs.specs.Works.{Work, AreWorked}
use Rattle.batch_runs.specs.Puts.{PutsJournal, ArePut, sent_fault, write_faults}
use Rattle.batch_runs.specs.Histories.{Call, calls_of, calls_of_jobs, IsHistory, IsPart}
use Rattle.batch_runs.specs.Meanings.{AskedSince, HasFetched}
use Rattle.batch_runs.specs.Batches.{World, Batch, Writes, all_good, report_by}
use Rattle.batch_runs.specs.Endings.{Task, EndsBy, cause_of}
use Rattle.batch_alone.specs.Stops.{Tells}
use Rattle.batch_alone.proofs.Snoc.{names_of, rose_on}
use Rattle.batch_alone.proofs.SettleLemmas.{taken_take}
use Rattle.batch_alone.proofs.OneThread.{asks_jobs, ends_by}
use Rattle.batch_workers.specs.Parts.{Base, Part, Ends}
use Rattle.batch_workers.specs.Toils.{AreBegunBy, AreDoneBy}
use Rattle.batch_workers.specs.Settling.{ArePutSome, AreTakenAndDone, IsSettled}
use Rattle.batch_workers.proofs.Whose.{part-history, weight-map, whole-history}

asked-shared : (s : Setting) (n : ℕ) (h : List Entry) (before now : Option (List Text)) → 1 ≤ n → AskedSince (FetchesLoose s h) before now → AskedSince (HasFetched s n h) before now
asked-shared s zero h before now some a = absurd (omega (arith, some))
asked-shared s (suc n) h before now some a = a

whole-of : (base : Base) (count : ℕ) (js : List JobLine) (ts : List Taking) (callers : List Part) (ws : List Work) (left : Holdings) (h : List Entry)
    → AreDoneBy base.setting count js ts callers ws → Ends base callers left h → 1 ≤ count → IsHistory base.setting count js ws h
whole-of base count js ts callers ws left h done e some = whole-history base.setting count js ts callers ws h done some e.legal e.own e.whose

-- the whole history is some history
part-of : (s : Setting) (count : ℕ) (js : List JobLine) (ws : List Work) (h : List Entry) → IsHistory s count js ws h → IsPart s count js h
part-of s count js ws h w = record {
  orderly = w.orderly;
  openings = λ of.
      let a = weight-map of (λ (c : Call). c.ask) (calls_of h) in
      let b = w.openings (λ (c : Call). of c.ask) in
      let d = weight-map of (λ (c : Call). c.ask) (calls_of_jobs s js ws) in
      let e = asks_jobs s of js ws in
      omega (arith, a, b, d, e);
}

worked-take : (s : Setting) (js : List JobLine) (ts : List Taking) (ws : List Work) (k : ℕ) → AreWorked s js ts ws → AreWorked s (take k js) (take k ts) (take k ws)
worked-take s js ts ws zero h = tt
worked-take s [] [] [] (suc k) h = tt
worked-take s [] [] (w ∷ ws) (suc k) h = absurd h
worked-take s [] (t ∷ ts) ws (suc k) h = absurd h
worked-take s (j ∷ js) [] ws (suc k) h = absurd h
worked-take s (j ∷ js) (t ∷ ts) [] (suc k) h = absurd h
worked-take s (j ∷ js) (t ∷ ts) (w ∷ ws) (suc k) h = (h.0, worked-take s js ts ws k h.1)

pub finish-shared : (base : Base) (count : ℕ) (js : List JobLine) (ts : List Taking) (callers : List Part) (ws : List Work) (from mid behind to : Outside) (sums : Bool) (text : Text) (good : Bool)
    (left : Holdings) (h : List Entry) (file : Option Text) (put answer : Sent) (before after : Written) (cause : Cause)
    → AreTakenAndDone base.setting count from mid js callers ts ws → mid.told ≡ from.told → mid.puts ≡ from.puts
    → IsSettled mid behind js ts ws sums text good → Ends base callers left h → 1 ≤ count
    → PutsJournal behind.told file h put to.told → to.takes ≡ behind.takes → RoseBy (sent_fault put) behind.puts to.puts
    → Writes before after text answer → ((es : List Outcome) → good ≡ all_good es → cause ≡ cause_of es put answer)
    → EndsBy (record { setting = base.setting; jobs = js; workers = count; file = file }) (report_by sums)
    (record { files = from; library = base.handed; sink = before }) (record { files = to; library = left; sink = after }) cause h
finish-shared base count js ts callers ws from mid behind to sums text good left h file put answer before after cause t told untouched s e some journal takes puts wrote is =
    let task : Task = record { setting = base.setting; jobs = js; workers = count; file = file } in
    let old : World = record { files = from; library = base.handed; sink = before } in
    let new : World = record { files = to; library = left; sink = after } in
    let batch : Batch = record { inputs = ts; works = ws; outcomes = s.outcomes } in
    let why : cause ≡ cause_of s.outcomes put answer = is s.outcomes s.is_good in
    let P : Cause → Type 0 = λ c. EndsBy task (report_by sums) old new c h in
    let A : Option Shelf → Type 0 = λ o. ArePut o js ws s.outcomes behind.told in
    let T : ℕ → Type 0 = λ n. RoseBy (read_faults ts) from.takes n in
    let U : ℕ → Type 0 = λ n. RoseBy (write_faults s.outcomes) n behind.puts in
    let W : Text → Type 0 = λ x. Writes before after x answer in
    subst P (sym why) (ends_by task (report_by sums) old new s.outcomes put answer h (record {
      batch = batch;
      put = put;
      answer = answer;
      runs = record {
        between = behind.told;
        done = record { inputs = t.taken; works = t.done.worked; puts = subst A told s.puts };
        journal = journal;
        of_jobs = whole-of base count js ts callers ws left h t.done e some;
        takes = subst T (sym (takes ∙ s.takes)) t.takes;
        puts = rose_on (write_faults s.outcomes) (sent_fault put) from.puts behind.puts to.puts (subst U untouched s.faults) puts;
        library = e.faults;
        held = e.told;
        asked = asked-shared base.setting count h base.handed.paths left.paths some e.asked;
      };
      wrote = subst W s.is_text wrote;
      is_cause = refl;
    }))

-- memory was wanting before all jobs were done
pub halts-before : (base : Base) (count : ℕ) (js : List JobLine) (callers : List Part) (from to : Outside) (sums : Bool) (left : Holdings) (h : List Entry) (file : Option Text) (before after : Written)
    → AreBegunBy base.setting count js callers → Ends base callers left h → to.told ≡ from.told → Tells before after memory_line
    → EndsBy (record { setting = base.setting; jobs = js; workers = count; file = file }) (report_by sums)
    (record { files = from; library = base.handed; sink = before }) (record { files = to; library = left; sink = after }) Memory h
halts-before base count js callers from to sums left h file before after b e told wrote = record {
  front = [];
  rest = js;
  is_front = refl;
  batch = record { inputs = []; works = []; outcomes = [] };
  between = from.told;
  done = record { inputs = tt; works = tt; puts = refl };
  put_file = None;
  is_file = inl refl;
  journal = (refl, told);
  part = part-history base.setting count js callers h b e.legal e.own e.whose;
  library = e.faults;
  wrote = wrote;
}

-- memory was wanting behind the works
pub halts-behind : (base : Base) (count : ℕ) (js : List JobLine) (ts : List Taking) (callers : List Part) (ws : List Work) (from mid behind to : Outside) (sums : Bool)
    (left : Holdings) (h : List Entry) (file : Option Text) (before after : Written)
    → AreTakenAndDone base.setting count from mid js callers ts ws → mid.told ≡ from.told → ArePutSome mid behind js ws → Ends base callers left h → 1 ≤ count
    → to.told ≡ behind.told → Tells before after memory_line
    → EndsBy (record { setting = base.setting; jobs = js; workers = count; file = file }) (report_by sums)
    (record { files = from; library = base.handed; sink = before }) (record { files = to; library = left; sink = after }) Memory h
halts-behind base count js ts callers ws from mid behind to sums left h file before after t told p e some same wrote =
    let A : Option Shelf → Type 0 = λ o. ArePut o (take p.done js) (take p.done ws) p.outcomes behind.told in
    let N : List Text → Type 0 = λ ns. AreTaken from.told all_inputs ns (take p.done ts) in
    record {
      front = take p.done js;
      rest = drop p.done js;
      is_front = sym (take-append-drop p.done js);
      batch = record { inputs = take p.done ts; works = take p.done ws; outcomes = p.outcomes };
      between = behind.told;
      done = record {
        inputs = subst N (take-map (λ (j : JobLine). j.input) p.done js) (taken_take from.told all_inputs (names_of js) ts p.done t.taken);
        works = worked-take base.setting js ts ws p.done t.done.worked;
        puts = subst A told p.puts;
      };
      put_file = None;
      is_file = inl refl;
      journal = (refl, same);
      part = part-of base.setting count js ws h (whole-of base count js ts callers ws left h t.done e some);
      library = e.faults;
      wrote = wrote;
    }

-- all outputs were put, and the report wanted memory, or the journal
pub settled-some : (from to : Outside) (js : List JobLine) (ts : List Taking) (ws : List Work) (sums : Bool) (text : Text) (good : Bool) (s : Setting) → AreWorked s js ts ws
    → IsSettled from to js ts ws sums text good → ArePutSome from to js ws
settled-some from to js ts ws sums text good s worked h =
    let J : List JobLine → Type 0 = λ xs. ArePut from.told xs (take (length js) ws) h.outcomes to.told in
    let W : List Work → Type 0 = λ xs. ArePut from.told js xs h.outcomes to.told in
    record {
      done = length js;
      outcomes = h.outcomes;
      puts = subst J (sym (take-length js)) (subst W (sym (ap (λ k. take k ws) (sym (same js ts ws worked)) ∙ take-length ws)) h.puts);
    }
  where
    same : (js : List JobLine) (ts : List Taking) (ws : List Work) → AreWorked s js ts ws → length ws ≡ length js
    same [] [] [] h = refl
    same [] [] (w ∷ ws) h = absurd h
    same [] (t ∷ ts) ws h = absurd h
    same (j ∷ js) [] ws h = absurd h
    same (j ∷ js) (t ∷ ts) [] h = absurd h
    same (j ∷ js) (t ∷ ts) (w ∷ ws) h = let i = same js ts ws h.1 in omega (arith, i)

-- the same over other spellings of its end
pub ends-as : (t : Task) (report : Batch → Text) (old : World) (files : Outside) (sink : Written) (left kept : Holdings) (h k : List Entry) (cause : Cause)
    → EndsBy t report old (record { files = files; library = left; sink = sink }) Memory h → cause ≡ Memory → kept ≡ left → k ≡ h
    → EndsBy t report old (record { files = files; library = kept; sink = sink }) cause k
ends-as t report old files sink left kept h k cause e a b c =
    let P : Cause → Type 0 = λ x. EndsBy t report old (record { files = files; library = kept; sink = sink }) x k in
    let Q : Holdings → Type 0 = λ l. EndsBy t report old (record { files = files; library = l; sink = sink }) Memory k in
    let R : List Entry → Type 0 = λ xs. EndsBy t report old (record { files = files; library = left; sink = sink }) Memory xs in
    subst P (sym a) (subst Q (sym b) (subst R (sym c) e))
