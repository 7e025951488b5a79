-- A fair run comes to its end.
use Rattle.std.proofs.Common.{◌≡◌, ◌∙◌, ◌⊎◌, inl, inr, ◌+◌, ◌≤◌, ◌<◌, ◌^◌, ◌-◌, min, ℕ, List, [], ◌∷◌, length, Option, Some, None, ap, sym, subst, refl, arith, IfSome, IsSomeAnd}
use Rattle.outside.specs.Faults.{Rose, RoseBy, IsCalm}
use Rattle.outside.specs.Shelves.{Shelf, content_of}
use Rattle.outside.specs.Moments.{Outside}
use Rattle.outside.specs.declared.sinks.Sent.{Sent}
use Rattle.outside.specs.declared.sinks.Sent.TheVariants as sent
use Rattle.runtime_histories.specs.declared.entries.Entry.{Entry}
use Rattle.batch_jobs.specs.Jobs.{Text}
use Rattle.batch_words.specs.Asked.{Source, Texts, Single, Generated, Request, asked}
use Rattle.batch_runs.specs.declared.cause.InputKind.{InputKind}
use Rattle.batch_runs.specs.declared.cause.InputKind.TheVariants.{Absent, TooLarge, Conf, Bind, Job}
use Rattle.batch_runs.specs.declared.cause.Which.{Which}
use Rattle.batch_runs.specs.declared.cause.Cause.{Cause}
use Rattle.batch_runs.specs.declared.cause.Cause.TheVariants.{Done, Jobs, Usage, Input as Refusing, InputFault, OutFault, Memory}
use Rattle.batch_runs.specs.Takings.{one_input}
use Rattle.batch_runs.specs.Preparing.{Wanted, Accepts, IsRefused, AreRead, wanted, text_fault, Prepared}
use Rattle.batch_runs.specs.declared.cause.Stop.{Stop}
use Rattle.batch_runs.specs.declared.cause.Stop.TheVariants.{Refused, Faulted}
use Rattle.batch_runs.specs.Puts.{sent_fault}
use Rattle.batch_runs.specs.Batches.{World, Batch, Writes}
use Rattle.batch_runs.specs.Endings.{Finishes, EndsBy, cause_of}
use Rattle.batch_runs.specs.Runs.{Stands, RanJobs, RanTo, RanFor, RanAsked, Ran, AreWithin, task_of, report_for, made_world}
use Rattle.batch_runs.specs.Plain.{HasRoom, IsFaultless, ComesTo}
use Rattle.batch_runs.specs.Completeness.{files_for, IsFair, IsComplete, Completes}
use Rattle.batch_runs.proofs.Once.{calm, runs_once}
use Rattle.batch_jobs.specs.Generated.{Input, generated}

-- a request is that of the words
same_request : (words : List Text) (r q : Request) → asked words ≡ Some r → asked words ≡ Some q → q ≡ r
same_request words r q h k = let e : Some q ≡ Some r = sym k ∙ h in cc

-- a text that is accepted isn't refused
not_refused : (files : Shelf) (w : Wanted) (x : Text) (kind : InputKind) → Accepts (Some files) w x → IsRefused (Some files) w kind → ⊥
not_refused files w x Absent a r = let e : Some x ≡ None = sym a.taken.1 ∙ r in cc
not_refused files w x TooLarge a r =
    let few = a.taken.0 in
    let P : Option Text → Type 0 = λ o. IsSomeAnd o (λ y. one_input < length y) in
    let many : one_input < length x = subst P a.taken.1 r in absurd (omega (arith, few, many))
not_refused files w x (Conf fault) a r =
    let e : Some r.0 ≡ Some x = sym r.1.1 ∙ a.taken.1 in
    let same : r.0 ≡ x = cc in
    let bad : None ≡ Some (Conf fault) = sym a.good ∙ ap (text_fault w.which) (sym same) ∙ r.2 in cc
not_refused files w x (Bind fault) a r =
    let e : Some r.0 ≡ Some x = sym r.1.1 ∙ a.taken.1 in
    let same : r.0 ≡ x = cc in
    let bad : None ≡ Some (Bind fault) = sym a.good ∙ ap (text_fault w.which) (sym same) ∙ r.2 in cc
not_refused files w x (Job fault) a r =
    let e : Some r.0 ≡ Some x = sym r.1.1 ∙ a.taken.1 in
    let same : r.0 ≡ x = cc in
    let bad : None ≡ Some (Job fault) = sym a.good ∙ ap (text_fault w.which) (sym same) ∙ r.2 in cc

-- texts that are all accepted don't stop at a refused one
no_stop : (files : Shelf) (ws : List Wanted) (xs ys : List Text) (which : Which) (kind : InputKind)
    → AreRead (Some files) ws xs None → AreRead (Some files) ws ys (Some (Refused which kind)) → ⊥
no_stop files [] xs [] which kind h k = k
no_stop files [] xs (y ∷ ys) which kind h k = k
no_stop files (w ∷ ws) [] ys which kind h k = h
no_stop files (w ∷ ws) (x ∷ xs) [] which kind h k = not_refused files w x kind h.0 k.1
no_stop files (w ∷ ws) (x ∷ xs) (y ∷ ys) which kind h k = no_stop files ws xs ys which kind h.1 k.1

no_rise : (old new : ℕ) → Rose old new → IsCalm old new → ⊥
no_rise old new h c = let same = c.same in let below = c.below in absurd (omega (arith, h, same, below))

sent_done : (answer : Sent) → sent_fault answer ≡ 0 → answer ≡ sent.Done
sent_done sent.Done quiet = refl
sent_done sent.Failed quiet = absurd (omega (arith, quiet))

-- where jobs are done without faults, and over which files
pub record IsQuiet (first last : World) (files : Shelf) : Type 0 where
  pub told : first.files.told ≡ Some files
  pub faultless : IsFaultless first last

quiet_within : (source : Source) (old new first last : World) (files : Shelf) → AreWithin source old new first last → old.files.told ≡ Some files → IsFaultless old new
    → IsQuiet first last (files_for source files)
quiet_within (Texts a b c d) old new first last files w told none =
    let P : World → World → Type 0 = λ x y. IsQuiet x y files in
    subst (λ y. P first y) (sym w.ends) (subst (λ x. P x new) (sym w.begins) (record { told = told; faultless = none }))
quiet_within (Single a b c d) old new first last files w told none =
    let P : World → World → Type 0 = λ x y. IsQuiet x y files in
    subst (λ y. P first y) (sym w.ends) (subst (λ x. P x new) (sym w.begins) (record { told = told; faultless = none }))
quiet_within (Generated n) old new first last files w told none =
    let P : World → Type 0 = λ x. IsQuiet x last (generated n).files in
    subst P (sym w.begins) (record {
      told = refl;
      faultless = record {
        takes = record { same = w.takes; below = omega arith };
        puts = record { same = w.puts; below = omega arith };
        library = record { same = w.faults; below = omega arith };
      };
    })

sinks_within : (source : Source) (old new first last : World) → AreWithin source old new first last → (first.sink ≡ old.sink) × (last.sink ≡ new.sink)
sinks_within (Texts a b c d) old new first last w = (ap (λ (x : World). x.sink) w.begins, ap (λ (x : World). x.sink) w.ends)
sinks_within (Single a b c d) old new first last w = (ap (λ (x : World). x.sink) w.begins, ap (λ (x : World). x.sink) w.ends)
sinks_within (Generated n) old new first last w = (ap (λ (x : World). x.sink) w.begins, w.sink)

finished : (old new : World) (request : Request) (texts : List Text) (files : Shelf) (cause : Cause) (history : List Entry) (p : Prepared) (first last : World)
    → Stands request.source request.pages old.library.told texts p → HasRoom p.setting → AreWithin request.source old new first last
    → old.files.told ≡ Some files → IsFaultless old new → IsCalm old.sink.faults new.sink.faults
    → Finishes (task_of request p) (report_for request.source) first last cause history → IsComplete old new request files cause history
finished old new request texts files cause history p first last stands room within told none sink f =
    let quiet = quiet_within request.source old new first last files within told none in
    let sinks = sinks_within request.source old new first last within in
    let comes = runs_once p.setting p.jobs request.workers request.journal first last history f.put f.batch (files_for request.source files) f.runs quiet.told quiet.faultless room in
    let W : Rattle.outside.specs.Moments.Written → Rattle.outside.specs.Moments.Written → Type 0 = λ a b. Writes a b (report_for request.source f.batch) f.answer in
    let wrote : Writes old.sink new.sink (report_for request.source f.batch) f.answer = subst (λ b. W old.sink b) sinks.1 (subst (λ a. W a last.sink) sinks.0 f.wrote) in
    let answer : f.answer ≡ sent.Done = sent_done f.answer (calm (sent_fault f.answer) old.sink.faults new.sink.faults wrote.cause sink) in
    let C : Sent → Type 0 = λ a. ComesTo p.setting p.jobs (files_for request.source files) request.journal history last.files.told a f.batch in
    let V : Sent → Type 0 = λ a. Writes old.sink new.sink (report_for request.source f.batch) a in
    record {
      prepared = p;
      texts = texts;
      stands = stands;
      last = last.files.told;
      batch = f.batch;
      comes = subst C comes.is_put comes;
      report = subst V answer wrote;
      is_cause = f.is_cause ∙ ap (λ a. cause_of f.batch.outcomes a f.answer) comes.is_put ∙ ap (cause_of f.batch.outcomes sent.Done) answer;
    }

-- texts that are all accepted are the same
read_same : (files : Shelf) (ws : List Wanted) (xs ys : List Text) → AreRead (Some files) ws xs None → AreRead (Some files) ws ys None → xs ≡ ys
read_same files [] [] [] h k = refl
read_same files [] [] (y ∷ ys) h k = absurd k
read_same files [] (x ∷ xs) ys h k = absurd h
read_same files (w ∷ ws) [] ys h k = absurd h
read_same files (w ∷ ws) (x ∷ xs) [] h k = absurd k
read_same files (w ∷ ws) (x ∷ xs) (y ∷ ys) h k =
    let e : Some x ≡ Some y = sym h.0.taken.1 ∙ k.0.taken.1 in
    let same : x ≡ y = cc in
    let rest : xs ≡ ys = read_same files ws xs ys h.1 k.1 in cc

finished_jobs : (words : List Text) (old new : World) (request : Request) (texts : List Text) (files : Shelf) (cause : Cause) (history : List Entry)
    → IsFair words old new request texts files → (r : RanJobs request old new cause history)
    → Finishes (task_of request r.prepared) (report_for request.source) r.first r.last cause history → IsComplete old new request files cause history
finished_jobs words old new request texts files cause history fair r f =
    let A : Option Shelf → List Text → Type 0 = λ o xs. AreRead o (wanted request.source) xs None in
    let theirs : AreRead (Some files) (wanted request.source) r.texts None = subst (λ o. A o r.texts) fair.told r.read in
    let ours : AreRead (Some files) (wanted request.source) texts None = subst (λ o. A o texts) fair.told fair.read in
    let S : List Text → Type 0 = λ xs. Stands request.source request.pages old.library.told xs r.prepared in
    let stands : S texts = subst S (read_same files (wanted request.source) r.texts texts theirs ours) r.stands in
    finished old new request texts files cause history r.prepared r.first r.last stands (fair.room r.prepared stands) r.within fair.told fair.faultless fair.sink f

stopped : (words : List Text) (old new : World) (request : Request) (texts : List Text) (files : Shelf) (history : List Entry) (which : Which) (kind : InputKind) (line : Text)
    → IsFair words old new request texts files → RanTo request old new history (Refused which kind) line → ⊥
stopped words old new request texts files history which kind line fair r =
    let A : Option Shelf → List Text → Option Stop → Type 0 = λ o xs stop. AreRead o (wanted request.source) xs stop in
    no_stop files (wanted request.source) texts r.texts which kind (subst (λ o. A o texts None) fair.told fair.read)
    (subst (λ o. A o r.texts (Some (Refused which kind))) fair.told r.read)

for_request : (words : List Text) (old new : World) (request : Request) (texts : List Text) (files : Shelf) (cause : Cause) (history : List Entry)
    → RanFor request old new cause history → IsFair words old new request texts files → Completes old new request files cause history
for_request words old new request texts files Done history r fair = inr (finished_jobs words old new request texts files Done history fair r r.ends)
for_request words old new request texts files Jobs history r fair = inr (finished_jobs words old new request texts files Jobs history fair r r.ends)
for_request words old new request texts files Usage history r fair = absurd r
for_request words old new request texts files (Refusing which fault) history r fair = absurd (stopped words old new request texts files history which fault _ fair r)
for_request words old new request texts files (InputFault which) history r fair = absurd (no_rise old.files.takes new.files.takes r.1 fair.faultless.takes)
for_request words old new request texts files (OutFault which) history r fair = inr (finished_jobs words old new request texts files (OutFault which) history fair r r.ends)
for_request words old new request texts files Memory history r fair = inl refl

for_words : (words : List Text) (old new : World) (request : Request) (texts : List Text) (files : Shelf) (cause : Cause) (history : List Entry)
    → RanAsked words old new cause history → IsFair words old new request texts files → Completes old new request files cause history
for_words words old new request texts files cause history r fair =
    let P : Request → Type 0 = λ q. RanFor q old new cause history in
    for_request words old new request texts files cause history (subst P (same_request words request r.request fair.is_asked r.is_asked) r.ran) fair

pub completes : (words : List Text) (old new : World) (request : Request) (texts : List Text) (files : Shelf) (cause : Cause) (history : List Entry)
    → Ran words old new cause history → IsFair words old new request texts files → Completes old new request files cause history
completes words old new request texts files Done history r fair = for_words words old new request texts files Done history r fair
completes words old new request texts files Jobs history r fair = for_words words old new request texts files Jobs history r fair
completes words old new request texts files Usage history r fair = let bad : None ≡ Some request = sym r.0 ∙ fair.is_asked in absurd (cc)
completes words old new request texts files (Refusing which fault) history r fair = for_words words old new request texts files (Refusing which fault) history r fair
completes words old new request texts files (InputFault which) history r fair = for_words words old new request texts files (InputFault which) history r fair
completes words old new request texts files (OutFault which) history r fair = for_words words old new request texts files (OutFault which) history r fair
completes words old new request texts files Memory history r fair = inl refl
