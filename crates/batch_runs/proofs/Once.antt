-- Without faults what a run finds and does is what the batch means.
use Rattle.std.proofs.Common.{◌≡◌, ◌≢◌, ◌∙◌, ◌+◌, ◌-◌, ◌≤◌, ◌<◌, ◌^◌, ◌⊎◌, inl, inr, ℕ, min, Bool, true, false, List, [], ◌∷◌, ◌++◌, length, map, Option, Some, None, ap, ap₂, sym, subst, refl, arith, rules, IfSome, IsSomeAnd, if◌then◌else◌, Decides, true≢false}
use Rattle.std.specs.Str.{bytes_eq}
use Rattle.std.proofs.lemmas.Slice.Eq.{bytes_eq-Decides}
use Rattle.outside.specs.Faults.{RoseBy, IsCalm}
use Rattle.outside.specs.Shelves.{Shelf, content_of, KeepsOthers}
use Rattle.outside.specs.declared.sinks.Sent.{Sent}
use Rattle.outside.specs.declared.sinks.Sent.TheVariants as sent
use Rattle.runtime_histories.specs.declared.entries.Entry.{Entry}
use Rattle.runtime_histories.specs.declared.refusals.Refusal.{Refusal}
use Rattle.runtime_histories.specs.declared.refusals.Refusal.TheVariants.{BadName, NoConversion, LibraryFault, NoCharmap, BadCharmap, StoreFull, JournalFull, Memory}
use Rattle.batch_jobs.specs.Jobs.{Text, JobLine}
use Rattle.batch_jobs.specs.Journals.{journal_text}
use Rattle.batch_jobs.specs.declared.outcomes.Outcome.{Outcome}
use Rattle.batch_jobs.specs.declared.outcomes.Outcome.TheVariants.{WriteFault}
use Rattle.batch_runs.specs.Takings.{Taking, Got, Missed, AreTaken, TakesOne, room, one_input, length_taken, read_fault, read_faults, all_inputs}
use Rattle.batch_runs.specs.declared.misses.Miss.{Miss}
use Rattle.batch_runs.specs.declared.misses.Miss.TheVariants.{NoFile, Large, Fault}
use Rattle.batch_runs.specs.Works.{Work, Skipped, Denied, Converted, Works, AreWorked, outcome_of, bytes_of}
use Rattle.batch_runs.specs.Puts.{PutsBytes, PutsOne, ArePut, PutsJournal, write_fault, write_faults, sent_fault}
use Rattle.batch_runs.specs.Histories.{Call, Ask, calls_of, call_of_job, calls_of_jobs, ask_of, weight, told_fault, told_faults}
use Rattle.batch_runs.specs.Batches.{World, Batch, IsDone, RunsJobs}
use Rattle.batch_runs.specs.Plain.{judged, inputs_of, Means, AreMeant, IsBatch, Contents, put_on, after_puts, after_journal, Hold, is_full, HasRoom, IsFaultless, IsDetermined, ComesTo}
use Rattle.batch_runs.proofs.Weights.{weight-append}
use Rattle.runtime_histories.specs.Settings.{Setting}
use Rattle.batch_runs.specs.Meanings.{Made, is_passing, library_fault}

-- ---- counts

-- where a count hasn't risen, nothing was told
pub calm : (n old new : ℕ) → RoseBy n old new → IsCalm old new → n ≡ 0
calm n old new h c = let same = c.same in let below = c.below in omega (arith, h, same, below)

-- ---- inputs

fits : (limit : ℕ) (x : Text) → length x ≤ limit → judged limit (Some x) ≡ Got x
fits limit x h = search (rules, h)

large : (limit : ℕ) (o : Option Text) → IsSomeAnd o (λ x. limit < length x) → judged limit o ≡ Missed Large
large limit (Some x) h = search (rules, h)
large limit None h = absurd h

one_taking : (files : Shelf) (limit : ℕ) (n : Text) (t : Taking) → TakesOne (Some files) limit n t → read_fault t ≡ 0 → t ≡ judged limit (content_of files n)
one_taking files limit n (Got x) h quiet = sym (fits limit x h.0) ∙ ap (judged limit) (sym h.1)
one_taking files limit n (Missed NoFile) h quiet = ap (judged limit) (sym h)
one_taking files limit n (Missed Large) h quiet = sym (large limit (content_of files n) h)
one_taking files limit n (Missed Fault) h quiet = absurd (omega (arith, quiet))

pub inputs_once : (files : Shelf) (left : ℕ) (ns : List Text) (ts : List Taking) → AreTaken (Some files) left ns ts → read_faults ts ≡ 0 → ts ≡ inputs_of files left ns
inputs_once files left [] [] h quiet = refl
inputs_once files left [] (t ∷ ts) h quiet = absurd h
inputs_once files left (n ∷ ns) [] h quiet = absurd h
inputs_once files left (n ∷ ns) (t ∷ ts) h quiet =
    let here_quiet : read_fault t ≡ 0 = omega (arith, quiet) in
    let rest_quiet : read_faults ts ≡ 0 = omega (arith, quiet) in
    let here : t ≡ judged (room left) (content_of files n) = one_taking files (room left) n t h.0 here_quiet in
    let rest : ts ≡ inputs_of files (left - length_taken t) ns = inputs_once files (left - length_taken t) ns ts h.1 rest_quiet in
    ap (λ us. t ∷ us) rest ∙ ap (λ (u : Taking). u ∷ inputs_of files (left - length_taken u) ns) here

-- ---- works

no_pass : (r : Refusal) → told_fault (Some r) ≡ 0 → is_full (Some r) ≡ 0 → is_passing r ≡ false
no_pass (BadName which fault) a b = refl
no_pass NoConversion a b = refl
no_pass (LibraryFault m charmap) a b = absurd (omega (arith, a))
no_pass (NoCharmap m charmap) a b = refl
no_pass (BadCharmap m charmap fault) a b = refl
no_pass (StoreFull need free) a b = absurd (omega (arith, b))
no_pass (JournalFull n) a b = refl
no_pass Memory a b = refl

abbrev tells : Call → ℕ
tells c = told_fault c.refusal

abbrev fulls : Call → ℕ
fulls c = is_full c.refusal

one_work : (s : Setting) (j : JobLine) (t : Taking) (w : Work) → Works s j t w
    → weight tells (call_of_job s j w) ≡ 0 → weight fulls (call_of_job s j w) ≡ 0 → Means s j t w
one_work s j (Missed miss) w h a b = h
one_work s j (Got x) (Skipped miss) h a b = h
one_work s j (Got x) (Denied r) h a b = h.cause (no_pass r (omega (arith, a)) (omega (arith, b)))
one_work s j (Got x) (Converted made) h a b = h

pub works_once : (s : Setting) (js : List JobLine) (ts : List Taking) (ws : List Work) → AreWorked s js ts ws
    → weight tells (calls_of_jobs s js ws) ≡ 0 → weight fulls (calls_of_jobs s js ws) ≡ 0 → AreMeant s js ts ws
works_once s [] [] [] h a b = tt
works_once s [] [] (w ∷ ws) h a b = absurd h
works_once s [] (t ∷ ts) ws h a b = absurd h
works_once s (j ∷ js) [] ws h a b = absurd h
works_once s (j ∷ js) (t ∷ ts) [] h a b = absurd h
works_once s (j ∷ js) (t ∷ ts) (w ∷ ws) h a b =
    let sum_a : weight tells (call_of_job s j w) + weight tells (calls_of_jobs s js ws) ≡ 0 =
    sym (weight-append tells (call_of_job s j w) (calls_of_jobs s js ws)) ∙ a in
    let sum_b : weight fulls (call_of_job s j w) + weight fulls (calls_of_jobs s js ws) ≡ 0 =
    sym (weight-append fulls (call_of_job s j w) (calls_of_jobs s js ws)) ∙ b in (
      one_work s j t w h.0 (omega (arith, sum_a)) (omega (arith, sum_b)),
      works_once s js ts ws h.1 (omega (arith, sum_a)) (omega (arith, sum_b)),
    )

-- ---- puts

abbrev IsLike : Shelf → Contents → Type 0
IsLike files c = (n : Text) → content_of files n ≡ c n

put_like : (fs gs : Shelf) (c : Contents) (name bytes : Text) → IsLike fs c → content_of gs name ≡ Some bytes → KeepsOthers fs gs name
    → IsLike gs (put_on c name (Some bytes))
put_like fs gs c name bytes like here others n = go (bytes_eq n name) (bytes_eq-Decides n name)
  where
    go : (b : Bool) → Decides b (n ≡ name) → content_of gs n ≡ (if b then Some bytes else c n)
    go true e = ap (content_of gs) (e.0 refl) ∙ here
    go false e = others n (λ same. true≢false (sym (e.1 same))) ∙ like n

abbrev LeftOne : Contents → Text → Outcome → Option Text → Outcome → Option Shelf → Type 0
LeftOne c name plain bytes end new = IsSomeAnd new (λ gs. IsLike gs (put_on c name bytes) × (end ≡ plain))

one_put : (fs : Shelf) (c : Contents) (name : Text) (plain : Outcome) (bytes : Option Text) (end : Outcome) (new : Option Shelf)
    → IsLike fs c → PutsBytes (Some fs) name plain bytes end new → write_fault end ≡ 0 → LeftOne c name plain bytes end new
one_put fs c name plain None end new like h quiet = subst (LeftOne c name plain None end) (sym h.1) (like, h.0)
one_put fs c name plain (Some bytes) end (Some gs) like (inl h) quiet = (put_like fs gs c name bytes like h.1.0 h.1.1, h.0)
one_put fs c name plain (Some bytes) end None like (inl h) quiet = absurd h.1
one_put fs c name plain (Some bytes) end new like (inr h) quiet =
    let bad : 1 ≡ 0 = sym (ap write_fault h.0) ∙ quiet in absurd (omega (arith, bad))

abbrev LeftAll : Contents → List JobLine → List Work → List Outcome → Option Shelf → Type 0
LeftAll c js ws es new = IsSomeAnd new (λ gs. IsLike gs (after_puts c js ws) × (es ≡ map outcome_of ws))

pub puts_once : (fs : Shelf) (c : Contents) (js : List JobLine) (ws : List Work) (es : List Outcome) (new : Option Shelf) → IsLike fs c
    → ArePut (Some fs) js ws es new → write_faults es ≡ 0 → LeftAll c js ws es new
puts_once fs c [] [] [] new like h quiet = subst (LeftAll c [] [] []) (sym h) (like, refl)
puts_once fs c [] [] (e ∷ es) new like h quiet = absurd h
puts_once fs c [] (w ∷ ws) es new like h quiet = absurd h
puts_once fs c (j ∷ js) [] es new like h quiet = absurd h
puts_once fs c (j ∷ js) (w ∷ ws) [] new like h quiet = absurd h
puts_once fs c (j ∷ js) (w ∷ ws) (e ∷ es) new like h quiet =
    let here : write_fault e ≡ 0 = omega (arith, quiet) in
    let rest : write_faults es ≡ 0 = omega (arith, quiet) in
    go h.0 (one_put fs c j.output (outcome_of w) (bytes_of w) e h.0 like h.1 here) h.2
    (λ gs like more. puts_once gs (put_on c j.output (bytes_of w)) js ws es new like more rest)
  where
    done : (new : Option Shelf) → (e ≡ outcome_of w) → LeftAll (put_on c j.output (bytes_of w)) js ws es new → LeftAll c (j ∷ js) (w ∷ ws) (e ∷ es) new
    done None same h = h
    done (Some gs) same h = (h.0, ap₂ (λ (x : Outcome) (xs : List Outcome). x ∷ xs) same h.1)

    go : (mid : Option Shelf) → LeftOne c j.output (outcome_of w) (bytes_of w) e mid → ArePut mid js ws es new
        → ((gs : Shelf) → IsLike gs (put_on c j.output (bytes_of w)) → ArePut (Some gs) js ws es new → LeftAll (put_on c j.output (bytes_of w)) js ws es new)
        → LeftAll c (j ∷ js) (w ∷ ws) (e ∷ es) new
    go None one h rest = absurd one
    go (Some gs) one h rest = done new one.1 (rest gs one.0 h)

-- ---- the journal's file

journal_once : (fs : Shelf) (c : Contents) (file : Option Text) (history : List Entry) (answer : Sent) (new : Option Shelf) → IsLike fs c
    → PutsJournal (Some fs) file history answer new → sent_fault answer ≡ 0
    → (answer ≡ sent.Done) × Hold new (after_journal c file history)
journal_once fs c None history answer new like h quiet = (h.0, subst (λ o. Hold o c) (sym h.1) like)
journal_once fs c (Some name) history sent.Done (Some gs) like h quiet = (refl, put_like fs gs c name (journal_text history) like h.0 h.1)
journal_once fs c (Some name) history sent.Done None like h quiet = absurd h
journal_once fs c (Some name) history sent.Failed new like h quiet = absurd (omega (arith, quiet))

-- ---- the whole

pub runs_once : (s : Setting) (jobs : List JobLine) (workers : ℕ) (file : Option Text) (old new : World) (history : List Entry) (put : Sent) (b : Batch) (files : Shelf)
    → RunsJobs s jobs workers file old new history put b → old.files.told ≡ Some files → IsFaultless old new → HasRoom s
    → ComesTo s jobs files file history new.files.told put b
runs_once s jobs workers file old new history put b files r is none room =
    let faults : write_faults b.outcomes + sent_fault put ≡ 0 = calm _ _ _ r.puts none.puts in
    let tells_none : weight tells (calls_of_jobs s jobs b.works) ≡ 0 = sym (r.of_jobs.openings tells) ∙ calm _ _ _ r.library none.library in
    let full_none : weight fulls (calls_of_jobs s jobs b.works) ≡ 0 = sym (r.of_jobs.openings fulls) ∙ room history r.of_jobs.orderly.legal in
    let taken : AreTaken (Some files) all_inputs (map (λ (j : JobLine). j.input) jobs) b.inputs =
    subst (λ (o : Option Shelf). AreTaken o all_inputs (map (λ (j : JobLine). j.input) jobs) b.inputs) is r.done.inputs in
    let puts : ArePut (Some files) jobs b.works b.outcomes r.between = subst (λ (o : Option Shelf). ArePut o jobs b.works b.outcomes r.between) is r.done.puts in
    let left : LeftAll (content_of files) jobs b.works b.outcomes r.between =
    puts_once files (content_of files) jobs b.works b.outcomes r.between (λ n. refl) puts (omega (arith, faults)) in
    go r.between left r.journal (omega (arith, faults)) (inputs_once files all_inputs _ b.inputs taken (calm _ _ _ r.takes none.takes))
    (works_once s jobs b.inputs b.works r.done.works tells_none full_none)
  where
    go : (mid : Option Shelf) → LeftAll (content_of files) jobs b.works b.outcomes mid → PutsJournal mid file history put new.files.told → sent_fault put ≡ 0
        → b.inputs ≡ inputs_of files all_inputs (map (λ (j : JobLine). j.input) jobs) → AreMeant s jobs b.inputs b.works
        → ComesTo s jobs files file history new.files.told put b
    go None left journal quiet inputs works = absurd left
    go (Some gs) left journal quiet inputs works =
        let end = journal_once gs (after_puts (content_of files) jobs b.works) file history put new.files.told left.0 journal quiet in
        record { is_batch = record { inputs = inputs; works = works; outcomes = left.1 }; is_put = end.0; holds = end.1 }

-- ---- one batch

one_meaning : (s : Setting) → IsDetermined s → (j : JobLine) (t : Taking) (v w : Work) → Means s j t v → Means s j t w → v ≡ w
one_meaning s d j (Missed miss) v w h k = h ∙ sym k
one_meaning s d j (Got x) (Skipped a) w h k = absurd h
one_meaning s d j (Got x) (Denied r) (Skipped a) h k = absurd k
one_meaning s d j (Got x) (Denied r) (Denied q) h k = ap Denied (d.refusal j.from j.to r q h k)
one_meaning s d j (Got x) (Denied r) (Converted u) h k = absurd (d.apart j.from j.to x r u h k)
one_meaning s d j (Got x) (Converted u) (Skipped a) h k = absurd k
one_meaning s d j (Got x) (Converted u) (Denied q) h k = absurd (d.apart j.from j.to x q u k h)
one_meaning s d j (Got x) (Converted u) (Converted v) h k = ap Converted (d.made j.from j.to x u v h k)

all_meanings : (s : Setting) → IsDetermined s → (js : List JobLine) (ts : List Taking) (vs ws : List Work) → AreMeant s js ts vs → AreMeant s js ts ws → vs ≡ ws
all_meanings s d [] [] [] [] h k = refl
all_meanings s d [] [] [] (w ∷ ws) h k = absurd k
all_meanings s d [] [] (v ∷ vs) ws h k = absurd h
all_meanings s d [] (t ∷ ts) vs ws h k = absurd h
all_meanings s d (j ∷ js) [] vs ws h k = absurd h
all_meanings s d (j ∷ js) (t ∷ ts) [] ws h k = absurd h
all_meanings s d (j ∷ js) (t ∷ ts) (v ∷ vs) [] h k = absurd k
all_meanings s d (j ∷ js) (t ∷ ts) (v ∷ vs) (w ∷ ws) h k =
    ap₂ (λ (x : Work) (xs : List Work). x ∷ xs) (one_meaning s d j t v w h.0 k.0) (all_meanings s d js ts vs ws h.1 k.1)

abbrev batch_with : List Taking → List Work → List Outcome → Batch
batch_with ts ws es = record { inputs = ts; works = ws; outcomes = es }

pub batch_once : (s : Setting) (jobs : List JobLine) (files : Shelf) (b c : Batch) → IsDetermined s → IsBatch s jobs files b → IsBatch s jobs files c → b ≡ c
batch_once s jobs files b c d h k =
    let inputs : b.inputs ≡ c.inputs = h.inputs ∙ sym k.inputs in
    let works : b.works ≡ c.works =
    all_meanings s d jobs c.inputs b.works c.works (subst (λ (ts : List Taking). AreMeant s jobs ts b.works) inputs h.works) k.works in
    let outcomes : b.outcomes ≡ c.outcomes = h.outcomes ∙ ap (map outcome_of) works ∙ sym k.outcomes in
    ap (λ ts. batch_with ts b.works b.outcomes) inputs ∙ ap (λ ws. batch_with c.inputs ws b.outcomes) works
    ∙ ap (λ es. batch_with c.inputs c.works es) outcomes
