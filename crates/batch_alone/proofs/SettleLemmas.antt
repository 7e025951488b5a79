-- From jobs to a whole run.
use Rattle.std.proofs.Common.{◌≡◌, ◌∙◌, ◌+◌, ◌-◌, ◌*◌, ◌≤◌, ◌<◌, ◌^◌, min, ℕ, suc, zero, Bool, true, false, List, [], ◌∷◌, ◌++◌, length, take, map, All, Option, Some, None, ap, ap₂, sym, subst, refl, arith}
use Rattle.std.proofs.Math.Seq.{take-length}
use Rattle.std.proofs.lemmas.List.{map-append, take-map, length-map}
use Rattle.std.proofs.lemmas.List.Elements.{All-nil, All-cons}
use Rattle.outside.specs.Faults.{RoseBy}
use Rattle.outside.specs.Shelves.{Shelf}
use Rattle.outside.specs.Moments.{Outside}
use Rattle.runtime_histories.specs.declared.entries.Entry.{Entry}
use Rattle.batch_jobs.specs.Jobs.{Text, JobLine}
use Rattle.batch_jobs.specs.Reports.{report_of, sum_report_of}
use Rattle.batch_jobs.specs.declared.outcomes.Outcome.{Outcome}
use Rattle.batch_alone.specs.declared.inputs.Input.{Input}
use Rattle.batch_alone.specs.declared.inputs.Input.TheVariants as input
use Rattle.batch_runs.specs.Takings.{Taking, AreTaken, TakesOne, all_inputs, room, length_taken, read_count, read_faults}
use Rattle.batch_runs.specs.Works.{Work}
use Rattle.batch_runs.specs.Puts.{ArePut, write_faults, written_count}
use Rattle.batch_runs.specs.Histories.{told_faults}
use Rattle.batch_runs.specs.Batches.{Batch, IsDone, all_good, report_by}
use Rattle.batch_alone.specs.Steps.{AreDone, AreHalted, AreTotals, HaltsAt, Settles, report_with}
use Rattle.batch_alone.proofs.Snoc.{names_of}
use Rattle.batch_alone.proofs.Progress.{done_as, halted_after}
use Rattle.runtime_histories.specs.Settings.{Setting}
use Rattle.batch_alone.specs.Books.{Book, Keeps}
use Rattle.batch_alone.specs.declared.totals.Totals.{Totals}
use Rattle.batch_alone.specs.Readings.{taking_of}

pub taken_alike : (told : Option Shelf) (left : ℕ) (ns : List Text) (ts : List Taking) → AreTaken told left ns ts → length ts ≡ length ns
taken_alike told left [] [] h = refl
taken_alike told left [] (t ∷ ts) h = absurd h
taken_alike told left (n ∷ ns) [] h = absurd h
taken_alike told left (n ∷ ns) (t ∷ ts) h = let i = taken_alike told (left - length_taken t) ns ts h.1 in omega (arith, i)

-- an input has at most so many bytes
abbrev pub IsShort : Input → Type 0
IsShort i = length_taken (taking_of i) ≤ 16777216

one_short : (told : Option Shelf) (left : ℕ) (n : Text) (i : Input) → TakesOne told (room left) n (taking_of i) → IsShort i
one_short told left n (input.Bytes v) h = let few = h.0 in omega (arith, few)
one_short told left n (input.Missed miss) h = omega arith

pub taken_short : (told : Option Shelf) (left : ℕ) (ns : List Text) (is : List Input) → AreTaken told left ns (map taking_of is) → All IsShort is
taken_short told left [] [] h = All-nil IsShort
taken_short told left [] (i ∷ is) h = absurd h
taken_short told left (n ∷ ns) [] h = absurd h
taken_short told left (n ∷ ns) (i ∷ is) h =
    All-cons IsShort i is (one_short told left n i h.0) (taken_short told (left - length_taken (taking_of i)) ns is h.1)

pub taken_take : (told : Option Shelf) (left : ℕ) (ns : List Text) (ts : List Taking) (k : ℕ) → AreTaken told left ns ts → AreTaken told left (take k ns) (take k ts)
taken_take told left ns ts zero h = tt
taken_take told left [] [] (suc k) h = tt
taken_take told left [] (t ∷ ts) (suc k) h = absurd h
taken_take told left (n ∷ ns) [] (suc k) h = absurd h
taken_take told left (n ∷ ns) (t ∷ ts) (suc k) h = (h.0, taken_take told (left - length_taken t) ns ts k h.1)

abbrev no_batch : Batch
no_batch = record { inputs = []; works = []; outcomes = [] }

-- nothing was begun
pub halts_none : (first : Book) (from to : Outside) (js : List JobLine) → first.journal ≡ [] → to.told ≡ from.told → HaltsAt first first from to js
halts_none first from to js empty same =
    let F : ℕ → Type 0 = λ n. RoseBy n first.library.faults first.library.faults in
    record {
      done = 0;
      batch = no_batch;
      is_done = record { inputs = tt; works = tt; puts = same };
      begun = 0;
      begun_works = [];
      entered = empty;
      keeps = record { setting = refl; limit = refl; told = refl; faults = subst F (sym (ap told_faults empty)) (omega arith) };
    }

pub settle_halts : (first last : Book) (from mid to : Outside) (js : List JobLine) (ts : List Taking)
    → AreHalted first last mid to js ts → AreTaken from.told all_inputs (names_of js) ts → mid.told ≡ from.told → HaltsAt first last from to js
settle_halts first last from mid to js ts h taken same =
    let P : List Text → Type 0 = λ ns. AreTaken from.told all_inputs ns (take h.done ts) in
    let Q : Option Shelf → Type 0 = λ o. ArePut o (take h.done js) h.works h.outcomes to.told in
    record {
      done = h.done;
      batch = record { inputs = take h.done ts; works = h.works; outcomes = h.outcomes };
      is_done = record {
        inputs = subst P (take-map (λ (j : JobLine). j.input) h.done js) (taken_take from.told all_inputs (names_of js) ts h.done taken);
        works = h.worked;
        puts = subst Q same h.puts;
      };
      begun = h.begun;
      begun_works = h.begun_works;
      entered = h.entered;
      keeps = h.keeps;
    }

pub settle_short : (first last : Book) (from mid to : Outside) (js : List JobLine) (ts : List Taking) (es : List Outcome) (sums : Bool) (totals : Totals)
    → AreDone first last mid to js ts es sums totals → AreTaken from.told all_inputs (names_of js) ts → mid.told ≡ from.told → HaltsAt first last from to js
settle_short first last from mid to js ts es sums totals h taken same =
    let alike : length ts ≡ length js = taken_alike from.told all_inputs (names_of js) ts taken ∙ length-map js (λ (j : JobLine). j.input) in
    let all_ts : take (length js) ts ≡ ts = ap (λ k. take k ts) (sym alike) ∙ take-length ts in
    settle_halts first last from mid to js ts
    (halted_after first last mid to js ts (length js) es sums totals
    (done_as first last mid to js (take (length js) js) ts (take (length js) ts) es es sums totals h (take-length js) all_ts refl)) taken same

-- the report by what was counted is that of the batch
report_same : (sums : Bool) (es : List Outcome) (ts : List Taking) (ws : List Work) (t : Totals) → AreTotals sums t ws es
    → report_with sums es (read_count ts) t ≡ report_by sums (record { inputs = ts; works = ws; outcomes = es })
report_same false es ts ws t h = ap (λ w. report_of es (read_count ts) w) h.written
report_same true es ts ws t h = ap₂ (λ (w v : ℕ). sum_report_of es (read_count ts) w v) h.written (h.sum_is refl)

pub settle_done : (first last : Book) (from mid to : Outside) (js : List JobLine) (ts : List Taking) (es : List Outcome) (sums : Bool) (totals : Totals) (text : Text) (good : Bool)
    → AreDone first last mid to js ts es sums totals → AreTaken from.told all_inputs (names_of js) ts → mid.told ≡ from.told
    → RoseBy (read_faults ts) from.takes mid.takes → mid.puts ≡ from.puts
    → text ≡ report_with sums es (read_count ts) totals → good ≡ all_good es
    → Settles first last from to js sums text good
settle_done first last from mid to js ts es sums totals text good h taken same takes puts is_text is_good =
    let Q : Option Shelf → Type 0 = λ o. ArePut o js h.works es to.told in
    let T : ℕ → Type 0 = λ n. RoseBy (read_faults ts) from.takes n in
    let U : ℕ → Type 0 = λ n. RoseBy (write_faults es) n to.puts in
    record {
      batch = record { inputs = ts; works = h.works; outcomes = es };
      done = record { inputs = taken; works = h.worked; puts = subst Q same h.puts };
      entered = h.entered;
      keeps = h.keeps;
      asked = h.asked;
      takes = subst T (sym h.takes) takes;
      puts = subst U puts h.faults;
      is_text = is_text ∙ report_same sums es ts h.works totals h.count;
      is_good = is_good;
    }

done_outcomes : (old new : Option Shelf) (js : List JobLine) (ws : List Work) (es : List Outcome) → ArePut old js ws es new → length es ≡ length js
done_outcomes old new [] [] [] h = refl
done_outcomes old new [] [] (e ∷ es) h = absurd h
done_outcomes old new [] (w ∷ ws) es h = absurd h
done_outcomes old new (j ∷ js) [] es h = absurd h
done_outcomes old new (j ∷ js) (w ∷ ws) [] h = absurd h
done_outcomes old new (j ∷ js) (w ∷ ws) (e ∷ es) h = let i = done_outcomes h.0 new js ws es h.2 in omega (arith, i)

pub done_count : (first last : Book) (from to : Outside) (js : List JobLine) (ts : List Taking) (es : List Outcome) (sums : Bool) (totals : Totals) → AreDone first last from to js ts es sums totals → length es ≡ length js
done_count first last from to js ts es sums totals h = done_outcomes from.told to.told js h.works es h.puts
