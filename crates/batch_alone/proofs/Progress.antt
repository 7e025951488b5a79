-- One more job.
use Rattle.std.proofs.Common.{◌≡◌, ◌∙◌, ◌+◌, ◌*◌, ◌≤◌, ◌<◌, ℕ, Bool, List, [], ◌∷◌, ◌++◌, length, take, map, slice_index_or, Option, Some, None, ap, ap₂, sym, subst, refl, arith}
use Rattle.outside.specs.Faults.{RoseBy}
use Rattle.outside.specs.Shelves.{Shelf}
use Rattle.outside.specs.Moments.{Outside}
use Rattle.runtime_histories.specs.declared.entries.Entry.{Entry}
use Rattle.batch_jobs.specs.declared.jobs.Job.{Job}
use Rattle.batch_jobs.specs.Jobs.{JobLine, line_of}
use Rattle.batch_alone.specs.declared.inputs.Input.{Input}
use Rattle.batch_alone.specs.Readings.{taking_of}
use Rattle.batch_jobs.specs.declared.outcomes.Outcome.{Outcome}
use Rattle.batch_runs.specs.Takings.{Taking}
use Rattle.batch_runs.specs.Works.{Work, Works}
use Rattle.batch_runs.specs.Puts.{ArePut, PutsOne, bytes_put, write_faults, write_fault}
use Rattle.batch_runs.specs.Histories.{told_faults}
use Rattle.batch_alone.specs.Steps.{AreCounted, AreTotals, Enters, Adds, Does, IsCut, DoesAndPuts, IsCutBefore, AreEntered, AreDone, AreHalted}
use Rattle.batch_alone.proofs.Snoc.{worked_snoc, put_snoc, write_faults-snoc, written_count-snoc, sum_put-snoc, rose_on, take_next_map}
use Rattle.batch_alone.proofs.Entered.{entered_snoc, told_faults-append}
use Rattle.runtime_histories.specs.Settings.{Setting}
use Rattle.batch_alone.specs.Books.{Book, Keeps, HasAsked}
use Rattle.batch_runs.specs.Meanings.{AskedSince}
use Rattle.runtime_histories.specs.Fetches.{FetchesFrom}
use Rattle.batch_alone.specs.declared.totals.Totals.{Totals}
use Rattle.batch_alone.proofs.Asking.{asked_on, asked_none}

pub keeps_on : (first mid last : Book) (n k : ℕ) → Keeps first mid n → Keeps mid last k → Keeps first last (n + k)
keeps_on first mid last n k h g = record {
  setting = g.setting ∙ h.setting;
  limit = g.limit ∙ h.limit;
  told = g.told ∙ h.told;
  faults = rose_on n k first.library.faults mid.library.faults last.library.faults h.faults g.faults;
}

keeps_more : (first mid last : Book) (es : List Entry) → Keeps first mid (told_faults mid.journal) → Adds mid last es → Keeps first last (told_faults last.journal)
keeps_more first mid last es h a =
    let P : ℕ → Type 0 = λ n. Keeps first last n in
    subst P (sym (ap told_faults a.journal ∙ told_faults-append mid.journal es)) (keeps_on first mid last _ _ h a.keeps)

entered_more : (first mid last : Book) (js : List JobLine) (ws : List Work) (j : JobLine) (w : Work) (es : List Entry)
    → AreEntered first.setting 1 0 js ws mid.journal → mid.setting ≡ first.setting → Enters mid.setting 1 (length mid.journal) j w es → last.journal ≡ mid.journal ++ es
    → AreEntered first.setting 1 0 (js ++ j ∷ []) (ws ++ w ∷ []) last.journal
entered_more first mid last js ws j w es h is one journal =
    let S : Setting → Type 0 = λ s. Enters s 1 (length mid.journal) j w es in
    let P : ℕ → Type 0 = λ p. Enters first.setting 1 p j w es in
    let Q : List Entry → Type 0 = λ xs. AreEntered first.setting 1 0 (js ++ j ∷ []) (ws ++ w ∷ []) xs in
    let place : length mid.journal ≡ 0 + length mid.journal = omega arith in
    subst Q (sym journal) (entered_snoc first.setting 1 0 js ws mid.journal j w es h (subst P place (subst S is one)))

put_lengths : (old new : Option Shelf) (js : List JobLine) (ws : List Work) (es : List Outcome) → ArePut old js ws es new → length ws ≡ length es
put_lengths old new [] [] [] h = refl
put_lengths old new [] [] (e ∷ es) h = absurd h
put_lengths old new [] (w ∷ ws) es h = absurd h
put_lengths old new (j ∷ js) [] es h = absurd h
put_lengths old new (j ∷ js) (w ∷ ws) [] h = absurd h
put_lengths old new (j ∷ js) (w ∷ ws) (e ∷ es) h = let i = put_lengths h.0 new js ws es h.2 in omega (arith, i)

-- totals of one more job
pub totals_more : (sums : Bool) (t u : Totals) (ws : List Work) (es : List Outcome) (w : Work) (e : Outcome) → length ws ≡ length es
    → AreTotals sums t ws es → AreCounted sums u (bytes_put w e)
    → AreTotals sums (record { written = t.written + u.written; sum = t.sum + u.sum }) (ws ++ w ∷ []) (es ++ e ∷ [])
totals_more sums t u ws es w e same h one = record {
  written = ap₂ (λ (a b : ℕ). a + b) h.written one.written ∙ sym (written_count-snoc ws es w e same);
  sum_is = λ on. ap₂ (λ (a b : ℕ). a + b) (h.sum_is on) (one.sum_is on) ∙ sym (sum_put-snoc ws es w e same);
}

-- what the library was asked for by one more job
asked_more : (first mid last : Book) (es : List Entry) → first.journal ≡ [] → HasAsked first mid mid.journal → mid.setting ≡ first.setting
    → HasAsked mid last es → last.journal ≡ mid.journal ++ es → HasAsked first last last.journal
asked_more first mid last es empty h is k journal =
    let S : Setting → Type 0 = λ s. AskedSince (FetchesFrom s mid.journal es) mid.library.paths last.library.paths in
    let B : List Entry → Type 0 = λ b. AskedSince (FetchesFrom first.setting (b ++ mid.journal) es) mid.library.paths last.library.paths in
    let P : List Entry → Type 0 = λ xs. AskedSince (FetchesFrom first.setting first.journal xs) first.library.paths last.library.paths in
    subst P (sym journal) (asked_on first.setting first.journal mid.journal es first.library.paths mid.library.paths last.library.paths h
    (subst B (sym empty) (subst S is k)))

pub done_more : (first mid last : Book) (from to new : Outside) (js : List JobLine) (ts : List Taking) (es : List Outcome) (sums : Bool) (totals : Totals) (j : JobLine) (t : Taking) (e : Outcome) (more : Totals)
    → first.journal ≡ [] → AreDone first mid from to js ts es sums totals → DoesAndPuts mid last to new j t sums e more
    → AreDone first last from new (js ++ j ∷ []) (ts ++ t ∷ []) (es ++ e ∷ []) sums (record { written = totals.written + more.written; sum = totals.sum + more.sum })
done_more first mid last from to new js ts es sums totals j t e more empty h one =
    let W : Setting → Type 0 = λ s. Works s j t one.work in
    let F : ℕ → Type 0 = λ n. RoseBy n from.puts new.puts in
    record {
      works = h.works ++ one.work ∷ [];
      worked = worked_snoc first.setting js ts h.works j t one.work h.worked (subst W h.keeps.setting one.does.works);
      puts = put_snoc from.told to.told new.told js h.works es j one.work e h.puts one.puts;
      entered = entered_more first mid last js h.works j one.work one.does.entries h.entered h.keeps.setting one.does.enters one.does.adds.journal;
      keeps = keeps_more first mid last one.does.entries h.keeps one.does.adds;
      live = one.does.adds.live ∙ h.live;
      asked = asked_more first mid last one.does.entries empty h.asked h.keeps.setting one.does.asked one.does.adds.journal;
      faults = subst F (sym (write_faults-snoc es e)) (rose_on (write_faults es) (write_fault e) from.puts to.puts new.puts h.faults one.faults);
      takes = one.takes ∙ h.takes;
      count = totals_more sums totals more h.works es one.work e (put_lengths from.told to.told js h.works es h.puts) h.count one.count;
    }

-- jobs that are done are halted behind them
pub halted_after : (first last : Book) (from new : Outside) (js : List JobLine) (ts : List Taking) (k : ℕ) (es : List Outcome) (sums : Bool) (totals : Totals)
    → AreDone first last from new (take k js) (take k ts) es sums totals → AreHalted first last from new js ts
halted_after first last from new js ts k es sums totals h = record {
  done = k;
  works = h.works;
  outcomes = es;
  worked = h.worked;
  puts = h.puts;
  begun = k;
  begun_works = h.works;
  entered = h.entered;
  keeps = h.keeps;
}

-- a job that is cut halts the jobs before it
pub halted_before : (first mid last : Book) (from to new : Outside) (js : List JobLine) (ts : List Taking) (k : ℕ) (j : JobLine) (es : List Outcome) (sums : Bool) (totals : Totals)
    → AreDone first mid from to (take k js) (take k ts) es sums totals → IsCutBefore mid last to new j → take (k + 1) js ≡ take k js ++ j ∷ []
    → AreHalted first last from new js ts
halted_before first mid last from to new js ts k j es sums totals h one next =
    let P : Option Shelf → Type 0 = λ o. ArePut from.told (take k js) h.works es o in
    let Q : List JobLine → Type 0 = λ xs. AreEntered first.setting 1 0 xs (h.works ++ one.cut.work ∷ []) last.journal in
    record {
      done = k;
      works = h.works;
      outcomes = es;
      worked = h.worked;
      puts = subst P (sym one.told) h.puts;
      begun = k + 1;
      begun_works = h.works ++ one.cut.work ∷ [];
      entered = subst Q (sym next) (entered_more first mid last (take k js) h.works j one.cut.work one.cut.entries h.entered h.keeps.setting one.cut.enters one.cut.adds.journal);
      keeps = keeps_more first mid last one.cut.entries h.keeps one.cut.adds;
    }

-- the same over other spellings of its lists
pub done_as : (first last : Book) (from to : Outside) (js ks : List JobLine) (ts us : List Taking) (es fs : List Outcome) (sums : Bool) (totals : Totals)
    → AreDone first last from to js ts es sums totals → ks ≡ js → us ≡ ts → fs ≡ es → AreDone first last from to ks us fs sums totals
done_as first last from to js ks ts us es fs sums totals h a b c =
    let P : List JobLine → Type 0 = λ xs. AreDone first last from to xs us fs sums totals in
    let Q : List Taking → Type 0 = λ xs. AreDone first last from to js xs fs sums totals in
    let R : List Outcome → Type 0 = λ xs. AreDone first last from to js ts xs sums totals in
    subst P (sym a) (subst Q (sym b) (subst R (sym c) h))

-- one more job of those in two lists
pub next_done : (first mid last : Book) (from to new : Outside) (jobs : List Job) (inputs : List Input) (i : ℕ) (job : Job) (input : Input)
    (es : List Outcome) (sums : Bool) (totals : Totals) (e : Outcome) (more : Totals)
    → i < length jobs → length inputs ≡ length jobs → job ≡ slice_index_or jobs i job → input ≡ slice_index_or inputs i input → first.journal ≡ []
    → AreDone first mid from to (take i (map line_of jobs)) (take i (map taking_of inputs)) es sums totals
    → DoesAndPuts mid last to new (line_of job) (taking_of input) sums e more
    → AreDone first last from new (take (i + 1) (map line_of jobs)) (take (i + 1) (map taking_of inputs)) (es ++ e ∷ []) sums
    (record { written = totals.written + more.written; sum = totals.sum + more.sum })
next_done first mid last from to new jobs inputs i job input es sums totals e more lt alike is_job is_input empty h one =
    done_as first last from new (take i (map line_of jobs) ++ line_of job ∷ []) (take (i + 1) (map line_of jobs))
    (take i (map taking_of inputs) ++ taking_of input ∷ []) (take (i + 1) (map taking_of inputs)) (es ++ e ∷ []) (es ++ e ∷ []) sums
    (record { written = totals.written + more.written; sum = totals.sum + more.sum })
    (done_more first mid last from to new (take i (map line_of jobs)) (take i (map taking_of inputs)) es sums totals (line_of job) (taking_of input) e more empty h one)
    (take_next_map line_of jobs i job lt is_job)
    (take_next_map taking_of inputs i input (omega (arith, lt, alike)) is_input)
    refl

-- the same over other spellings of the outcomes and the totals
pub done_with : (first last : Book) (from to : Outside) (js : List JobLine) (ts : List Taking) (es fs : List Outcome) (sums : Bool) (t u : Totals)
    → AreDone first last from to js ts es sums t → fs ≡ es → u ≡ t → AreDone first last from to js ts fs sums u
done_with first last from to js ts es fs sums t u h a b =
    let P : List Outcome → Type 0 = λ xs. AreDone first last from to js ts xs sums u in
    let Q : Totals → Type 0 = λ x. AreDone first last from to js ts es sums x in
    subst P (sym a) (subst Q (sym b) h)

abbrev none_yet : Totals
none_yet = record { written = 0; sum = 0 }

-- before the first job
pub first_done : (b : Book) (f : Outside) (es : List Outcome) (sums : Bool) (t : Totals) → b.journal ≡ [] → b.live ≡ 0 → es ≡ [] → t ≡ none_yet
    → AreDone b b f f [] [] es sums t
first_done b f es sums t empty idle no_es no_t =
    let F : ℕ → Type 0 = λ n. RoseBy n b.library.faults b.library.faults in
    let A : List Entry → Type 0 = λ xs. AskedSince (FetchesFrom b.setting b.journal xs) b.library.paths b.library.paths in
    done_with b b f f [] [] [] es sums none_yet t (record {
      works = [];
      worked = tt;
      puts = refl;
      entered = empty;
      keeps = record { setting = refl; limit = refl; told = refl; faults = subst F (sym (ap told_faults empty)) (omega arith) };
      live = idle;
      asked = subst A (sym empty) (asked_none b.setting b.journal b.library.paths);
      faults = omega arith;
      takes = refl;
      count = record { written = refl; sum_is = λ on. refl };
    }) no_es no_t
