-- One more at the end.
use Rattle.std.proofs.Common.{◌≡◌, ◌∙◌, ◌+◌, ◌-◌, ◌≤◌, ◌<◌, ◌^◌, min, ℕ, suc, List, [], ◌∷◌, ◌++◌, length, map, take, Option, ap, sym, subst, refl, arith, add-one, slice_index_or, append_assoc}
use Rattle.std.proofs.Math.Seq.{take-suc}
use Rattle.std.proofs.lemmas.List.{map-append, take-map}
use Rattle.outside.specs.Shelves.{Shelf}
use Rattle.outside.specs.Faults.{RoseBy}
use Rattle.std.specs.Prelude.{String, string_bytes}
use Rattle.batch_jobs.specs.declared.jobs.Job.{Job}
use Rattle.batch_jobs.specs.Jobs.{Text, JobLine, line_of}
use Rattle.batch_alone.specs.declared.inputs.Input.{Input}
use Rattle.batch_jobs.specs.declared.outcomes.Outcome.{Outcome}
use Rattle.batch_runs.specs.Takings.{Taking, AreTaken, TakesOne, all_inputs, room, length_taken, read_count, read_fault, read_faults}
use Rattle.batch_runs.specs.Works.{Work, Works, AreWorked}
use Rattle.batch_runs.specs.Batches.{sum_put}
use Rattle.std.specs.Prelude.{sum}
use Rattle.batch_runs.specs.Puts.{PutsOne, ArePut, bytes_put, write_fault, write_faults, written_count}
use Rattle.runtime_histories.specs.Settings.{Setting}
use Rattle.batch_alone.specs.Readings.{taking_of}

pub taken_snoc : (told : Option Shelf) (left : ℕ) (ns : List Text) (ts : List Taking) (n : Text) (t : Taking)
    → AreTaken told left ns ts → TakesOne told (room (left - read_count ts)) n t → AreTaken told left (ns ++ n ∷ []) (ts ++ t ∷ [])
taken_snoc told left [] [] n t h one =
    let P : ℕ → Type 0 = λ a. TakesOne told (room a) n t in
    let same : left - read_count [] ≡ left = omega arith in (subst P same one, tt)
taken_snoc told left [] (u ∷ ts) n t h one = absurd h
taken_snoc told left (k ∷ ns) [] n t h one = absurd h
taken_snoc told left (k ∷ ns) (u ∷ ts) n t h one =
    let same : left - read_count (u ∷ ts) ≡ (left - length_taken u) - read_count ts = omega arith in
    let P : ℕ → Type 0 = λ a. TakesOne told (room a) n t in
    (h.0, taken_snoc told (left - length_taken u) ns ts n t h.1 (subst P same one))

pub read_count-snoc : (ts : List Taking) (t : Taking) → read_count (ts ++ t ∷ []) ≡ read_count ts + length_taken t
read_count-snoc [] t = omega arith
read_count-snoc (u ∷ ts) t = let e = read_count-snoc ts t in omega (arith, e)

pub read_faults-snoc : (ts : List Taking) (t : Taking) → read_faults (ts ++ t ∷ []) ≡ read_faults ts + read_fault t
read_faults-snoc [] t = omega arith
read_faults-snoc (u ∷ ts) t = let e = read_faults-snoc ts t in omega (arith, e)

pub worked_snoc : (s : Setting) (js : List JobLine) (ts : List Taking) (ws : List Work) (j : JobLine) (t : Taking) (w : Work)
    → AreWorked s js ts ws → Works s j t w → AreWorked s (js ++ j ∷ []) (ts ++ t ∷ []) (ws ++ w ∷ [])
worked_snoc s [] [] [] j t w h one = (one, tt)
worked_snoc s [] [] (v ∷ ws) j t w h one = absurd h
worked_snoc s [] (u ∷ ts) ws j t w h one = absurd h
worked_snoc s (k ∷ js) [] ws j t w h one = absurd h
worked_snoc s (k ∷ js) (u ∷ ts) [] j t w h one = absurd h
worked_snoc s (k ∷ js) (u ∷ ts) (v ∷ ws) j t w h one = (h.0, worked_snoc s js ts ws j t w h.1 one)

pub put_snoc : (old between new : Option Shelf) (js : List JobLine) (ws : List Work) (es : List Outcome) (j : JobLine) (w : Work) (e : Outcome)
    → ArePut old js ws es between → PutsOne between j w e new → ArePut old (js ++ j ∷ []) (ws ++ w ∷ []) (es ++ e ∷ []) new
put_snoc old between new [] [] [] j w e h one = (new, subst (λ (o : Option Shelf). PutsOne o j w e new) h one, refl)
put_snoc old between new [] [] (d ∷ es) j w e h one = absurd h
put_snoc old between new [] (v ∷ ws) es j w e h one = absurd h
put_snoc old between new (k ∷ js) [] es j w e h one = absurd h
put_snoc old between new (k ∷ js) (v ∷ ws) [] j w e h one = absurd h
put_snoc old between new (k ∷ js) (v ∷ ws) (d ∷ es) j w e h one = (h.0, h.1, put_snoc h.0 between new js ws es j w e h.2 one)

pub write_faults-snoc : (es : List Outcome) (e : Outcome) → write_faults (es ++ e ∷ []) ≡ write_faults es + write_fault e
write_faults-snoc [] e = omega arith
write_faults-snoc (d ∷ es) e = let i = write_faults-snoc es e in omega (arith, i)

-- the counts of as many works as outcomes
pub written_count-snoc : (ws : List Work) (es : List Outcome) (w : Work) (e : Outcome) → length ws ≡ length es
    → written_count (ws ++ w ∷ []) (es ++ e ∷ []) ≡ written_count ws es + length (bytes_put w e)
written_count-snoc [] [] w e same = omega arith
written_count-snoc [] (d ∷ es) w e same = absurd (omega (arith, same))
written_count-snoc (v ∷ ws) [] w e same = absurd (omega (arith, same))
written_count-snoc (v ∷ ws) (d ∷ es) w e same =
    let less : length ws ≡ length es = omega (arith, same) in let i = written_count-snoc ws es w e less in omega (arith, i)

pub sum_put-snoc : (ws : List Work) (es : List Outcome) (w : Work) (e : Outcome) → length ws ≡ length es
    → sum_put (ws ++ w ∷ []) (es ++ e ∷ []) ≡ sum_put ws es + sum (bytes_put w e)
sum_put-snoc [] [] w e same = omega arith
sum_put-snoc [] (d ∷ es) w e same = absurd (omega (arith, same))
sum_put-snoc (v ∷ ws) [] w e same = absurd (omega (arith, same))
sum_put-snoc (v ∷ ws) (d ∷ es) w e same =
    let less : length ws ≡ length es = omega (arith, same) in let i = sum_put-snoc ws es w e less in omega (arith, i)

pub rose_on : (k n a b c : ℕ) → RoseBy k a b → RoseBy n b c → RoseBy (k + n) a c
rose_on k n a b c h g = omega (arith, h, g)

module _ {A : Type 0} where
  pub take_next : (xs : List A) (i : ℕ) (x : A) → i < length xs → x ≡ slice_index_or xs i x → take (i + 1) xs ≡ take i xs ++ x ∷ []
  take_next xs i x lt e = ap (λ k. take k xs) (add-one i) ∙ take-suc xs i x lt ∙ ap (λ y. take i xs ++ y ∷ []) (sym e)

module _ {A B : Type 0} where
  pub take_next_map : (f : A → B) (xs : List A) (i : ℕ) (x : A) → i < length xs → x ≡ slice_index_or xs i x
      → take (i + 1) (map f xs) ≡ take i (map f xs) ++ f x ∷ []
  take_next_map f xs i x lt e = take-map f (i + 1) xs ∙ ap (map f) (take_next xs i x lt e) ∙ map-append f (take i xs) (x ∷ [])
      ∙ ap (λ ys. ys ++ f x ∷ []) (sym (take-map f i xs))

-- the names of the inputs of jobs
abbrev pub names_of : List JobLine → List Text
names_of jobs = map (λ (j : JobLine). j.input) jobs

pub taken_more : (told : Option Shelf) (jobs : List Job) (i : ℕ) (job : Job) (is more : List Input) (t : Input) (left : ℕ)
    → i < length jobs → job ≡ slice_index_or jobs i job → more ≡ is ++ t ∷ []
    → AreTaken told all_inputs (names_of (map line_of (take i jobs))) (map taking_of is)
    → left + read_count (map taking_of is) ≡ all_inputs
    → TakesOne told (room left) (string_bytes job.input) (taking_of t)
    → AreTaken told all_inputs (names_of (map line_of (take (i + 1) jobs))) (map taking_of more)
taken_more told jobs i job is more t left lt e pushed h sum one =
    let names : names_of (map line_of (take (i + 1) jobs)) ≡ names_of (map line_of (take i jobs)) ++ string_bytes job.input ∷ [] =
    ap (λ xs. names_of (map line_of xs)) (take_next jobs i job lt e) ∙ ap names_of (map-append line_of (take i jobs) (job ∷ []))
    ∙ map-append (λ (j : JobLine). j.input) (map line_of (take i jobs)) (line_of job ∷ []) in
    let takings : map taking_of more ≡ map taking_of is ++ taking_of t ∷ [] = ap (map taking_of) pushed ∙ map-append taking_of is (t ∷ []) in
    let same : left ≡ all_inputs - read_count (map taking_of is) = omega (arith, sum) in
    let P : ℕ → Type 0 = λ a. TakesOne told (room a) (string_bytes job.input) (taking_of t) in
    let Q : List Text → Type 0 = λ ns. AreTaken told all_inputs ns (map taking_of more) in
    let R : List Taking → Type 0 = λ ts. AreTaken told all_inputs (names_of (map line_of (take i jobs)) ++ string_bytes job.input ∷ []) ts in
    subst Q (sym names) (subst R (sym takings) (taken_snoc told all_inputs (names_of (map line_of (take i jobs))) (map taking_of is) (string_bytes job.input) (taking_of t) h (subst P same one)))

pub counted_more : (is more : List Input) (t : Input) → more ≡ is ++ t ∷ [] → read_count (map taking_of more) ≡ read_count (map taking_of is) + length_taken (taking_of t)
counted_more is more t pushed = ap (λ xs. read_count (map taking_of xs)) pushed ∙ ap read_count (map-append taking_of is (t ∷ [])) ∙ read_count-snoc (map taking_of is) (taking_of t)

pub faulted_more : (is more : List Input) (t : Input) → more ≡ is ++ t ∷ [] → read_faults (map taking_of more) ≡ read_faults (map taking_of is) + read_fault (taking_of t)
faulted_more is more t pushed = ap (λ xs. read_faults (map taking_of xs)) pushed ∙ ap read_faults (map-append taking_of is (t ∷ [])) ∙ read_faults-snoc (map taking_of is) (taking_of t)
