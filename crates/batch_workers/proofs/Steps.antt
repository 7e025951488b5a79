-- One number more that a worker drew.
use Rattle.std.proofs.Common.{◌≡◌, ◌∙◌, ℕ, Bool, true, false, cond, List, [], ◌∷◌, ◌++◌, map, ap, sym, subst, refl, true≢false, append_assoc, Result, Ok, Err, MatchResult}
use Rattle.std.proofs.lemmas.List.{map-append, append-nil}
use Rattle.std.proofs.lemmas.List.Elements.{filter-append}
use Rattle.std.specs.List.{AllByRecursion, filter}
use Rattle.runtime_histories.specs.Settings.{Setting}
use Rattle.batch_jobs.specs.Jobs.{JobLine, Text}
use Rattle.batch_runs.specs.Takings.{Taking, Got}
use Rattle.batch_runs.specs.Works.{Works}
use Rattle.batch_runs.specs.Histories.{Placed}
use Rattle.batch_runs.specs.Shares.{Share, AreOwn, IsOwnOf}
use Rattle.batch_workers.specs.Parts.{Part, IsCutOff}
use Rattle.batch_workers.specs.Toils.{is_got, is_taken, job_at, share_of, taking_at}
use Rattle.batch_workers.specs.Stints.{GoesOn, Hands, IsAllowed, IsStint, Stint, shares_of}
use Rattle.batch_workers.specs.declared.piece.Piece.{Piece}

pub own_snoc : (s : Setting) (n : ℕ) (ds : List Share) (ps : List Placed) (d : Share) (these : List Placed)
    → AreOwn s n ds ps → IsOwnOf s n d.job d.work these → AreOwn s n (ds ++ d ∷ []) (ps ++ these)
own_snoc s n [] ps d these h one =
    let P : List Placed → Type 0 = λ qs. AreOwn s n (d ∷ []) (qs ++ these) in
    subst P (sym h) (these, [], sym (append-nil these), one, refl)
own_snoc s n (e ∷ ds) ps d these h one =
    (h.0, h.1 ++ these, ap (λ qs. qs ++ these) h.2 ∙ append_assoc h.0 h.1 these, h.3, own_snoc s n ds h.1 d these h.4 one)

module _ {A : Type 0} where
  pub each-snoc : (P : A → Type 0) (xs : List A) (x : A) → AllByRecursion P xs → P x → AllByRecursion P (xs ++ x ∷ [])
  each-snoc P [] x h one = (one, tt)
  each-snoc P (y ∷ xs) x h one = (h.0, each-snoc P xs x h.1 one)

drew_one : (inputs : List Taking) (drawn : List ℕ) (place : ℕ) → is_taken inputs place ≡ true
    → filter (is_taken inputs) (drawn ++ place ∷ []) ≡ filter (is_taken inputs) drawn ++ place ∷ []
drew_one inputs drawn place is =
    filter-append (is_taken inputs) drawn (place ∷ [])
    ∙ ap (λ (b : Bool). filter (is_taken inputs) drawn ++ cond b (place ∷ []) []) is

drew_none : (inputs : List Taking) (drawn : List ℕ) (place : ℕ) → is_taken inputs place ≡ false
    → filter (is_taken inputs) (drawn ++ place ∷ []) ≡ filter (is_taken inputs) drawn
drew_none inputs drawn place is =
    filter-append (is_taken inputs) drawn (place ∷ [])
    ∙ ap (λ (b : Bool). filter (is_taken inputs) drawn ++ cond b (place ∷ []) []) is ∙ append-nil (filter (is_taken inputs) drawn)

-- a number that stands for no job whose input was taken
pub goes_past : (s : Setting) (jobs : List JobLine) (inputs : List Taking) (p : Part) (pieces : List Piece) (place : ℕ)
    → is_taken inputs place ≡ false → GoesOn s jobs inputs p p pieces pieces place false
goes_past s jobs inputs p pieces place out drawn h = record {
  shares = h.shares;
  own = h.own;
  of_jobs = h.of_jobs;
  drew = h.drew ∙ sym (drew_none inputs drawn place out);
  whole = h.whole;
}

-- a job whose work was done
pub goes_on : (s : Setting) (jobs : List JobLine) (inputs : List Taking) (old new : Part) (before after : List Piece) (place : ℕ) (job : JobLine) (x : Text)
    → job_at jobs place ≡ job → taking_at inputs place ≡ Got x → Hands s old new before after place job (Got x)
    → GoesOn s jobs inputs old new before after place false
goes_on s jobs inputs old new before after place job x is_job is_input one drawn h =
    let taken : is_taken inputs place ≡ true = ap is_got is_input in
    let d : Share = share_of jobs one.piece in
    let here : d.job ≡ job = ap (job_at jobs) one.is_place ∙ is_job in
    let input : taking_at inputs d.place ≡ Got x = ap (taking_at inputs) one.is_place ∙ is_input in
    let J : JobLine → Type 0 = λ j. IsOwnOf s old.number j d.work one.serves.these in
    let N : ℕ → Type 0 = λ n. AreOwn s n (h.shares ++ d ∷ []) new.entries in
    let E : List Placed → Type 0 = λ es. AreOwn s old.number (h.shares ++ d ∷ []) es in
    let W : JobLine → Type 0 = λ j. Works s j (Got x) d.work in
    let V : Taking → Type 0 = λ t. Works s d.job t d.work in
    record {
      shares = h.shares ++ d ∷ [];
      own = subst N (sym one.serves.number) (subst E (sym one.serves.more) (own_snoc s old.number h.shares old.entries d one.serves.these h.own (subst J (sym here) one.serves.is_own)));
      of_jobs = each-snoc (λ (e : Share). e.job ≡ job_at jobs e.place) h.shares d h.of_jobs refl;
      drew = map-append (λ (e : Share). e.place) h.shares (d ∷ []) ∙ ap (λ ps. ps ++ d.place ∷ []) h.drew
          ∙ ap (λ p. filter (is_taken inputs) drawn ++ p ∷ []) one.is_place ∙ sym (drew_one inputs drawn place taken);
      whole = λ calm.
          let all = h.whole refl in (
            ap (λ ds. ds ++ d ∷ []) all.0 ∙ sym (map-append (share_of jobs) before (one.piece ∷ [])) ∙ sym (ap (map (share_of jobs)) one.handed),
            each-snoc (IsAllowed s inputs) h.shares d all.1 (record {
              works = subst V (sym input) (subst W (sym here) one.serves.works);
              room = one.room;
            }),
          );
    }

-- a job whose work wanted memory
pub goes_short : (s : Setting) (jobs : List JobLine) (inputs : List Taking) (old new : Part) (before after : List Piece) (place : ℕ) (job : JobLine) (x : Text)
    → job_at jobs place ≡ job → taking_at inputs place ≡ Got x → IsCutOff s old new job
    → GoesOn s jobs inputs old new before after place true
goes_short s jobs inputs old new before after place job x is_job is_input one drawn h =
    let taken : is_taken inputs place ≡ true = ap is_got is_input in
    let d : Share = record { place = place; job = job; work = one.work } in
    let N : ℕ → Type 0 = λ n. AreOwn s n (h.shares ++ d ∷ []) new.entries in
    let E : List Placed → Type 0 = λ es. AreOwn s old.number (h.shares ++ d ∷ []) es in
    record {
      shares = h.shares ++ d ∷ [];
      own = subst N (sym one.number) (subst E (sym one.more) (own_snoc s old.number h.shares old.entries d one.these h.own one.is_own));
      of_jobs = each-snoc (λ (e : Share). e.job ≡ job_at jobs e.place) h.shares d h.of_jobs (sym is_job);
      drew = map-append (λ (e : Share). e.place) h.shares (d ∷ []) ∙ ap (λ ps. ps ++ place ∷ []) h.drew ∙ sym (drew_one inputs drawn place taken);
      whole = λ calm. absurd (true≢false calm);
    }

-- a job whose work was done, or wanted memory
module _ {A E : Type 0} where
  pub goes_by : (s : Setting) (jobs : List JobLine) (inputs : List Taking) (old new : Part) (before after : List Piece) (place : ℕ) (job : JobLine) (x : Text) (r : Result A E)
      → job_at jobs place ≡ job → taking_at inputs place ≡ Got x
      → MatchResult r (λ _. Hands s old new before after place job (Got x)) (λ _. IsCutOff s old new job)
      → MatchResult r (λ _. GoesOn s jobs inputs old new before after place false) (λ _. GoesOn s jobs inputs old new before after place true)
  goes_by s jobs inputs old new before after place job x (Ok a) is_job is_input one = goes_on s jobs inputs old new before after place job x is_job is_input one
  goes_by s jobs inputs old new before after place job x (Err e) is_job is_input one = goes_short s jobs inputs old new before after place job x is_job is_input one

-- a worker that has done nothing
pub first_stint : (s : Setting) (jobs : List JobLine) (inputs : List Taking) (d : Stint) → d.part.entries ≡ [] → d.drawn ≡ [] → d.pieces ≡ [] → IsStint s jobs inputs d
first_stint s jobs inputs d entries drawn pieces = record {
  shares = [];
  own = entries;
  of_jobs = tt;
  drew = sym (ap (filter (is_taken inputs)) drawn);
  whole = λ calm. (sym (ap (shares_of jobs) pieces), tt);
}
