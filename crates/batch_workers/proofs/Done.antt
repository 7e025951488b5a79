-- What workers did, from what each drew and handed back.
use Rattle.std.proofs.Common.{◌≡◌, ◌∙◌, ◌≤◌, ◌<◌, ℕ, zero, suc, Bool, true, false, ◌||◌, if◌then◌else◌, List, [], ◌∷◌, ◌++◌, length, map, Option, Some, ap, ap₂, sym, subst, refl, arith, true≢false}
use Rattle.std.proofs.lemmas.List.{map-append}
use Rattle.std.proofs.lemmas.List.Elements.{filter-append}
use Rattle.std.specs.List.{AllByRecursion, filter}
use Rattle.job_board.specs.Numbers.{AreSame, weight}
use Rattle.runtime_histories.specs.Settings.{Setting}
use Rattle.batch_jobs.specs.Jobs.{JobLine}
use Rattle.batch_runs.specs.Histories as runs
use Rattle.batch_runs.specs.Takings.{Taking, Got, Missed}
use Rattle.batch_runs.specs.Works.{Work, Skipped, Denied, Converted, Works, AreWorked}
use Rattle.batch_runs.specs.Shares.{Share, AreAt, HaveAt, drawn}
use Rattle.batch_alone.specs.Readings.{length_made, work_of}
use Rattle.batch_workers.specs.Parts.{Part}
use Rattle.batch_workers.specs.Toils.{AreBegunBy, AreDoneBy, AreHeld, AreNumbered, AreOfJobs, IsHeld, OwnTheirs, Toil, is_taken, job_at, most_made, places, places_of, share_of, shares_in, taken_places, taking_at, work_in, works_in}
use Rattle.batch_workers.specs.Stints.{IsAllowed, IsStint, Stint, shares_of}
use Rattle.batch_workers.specs.Teams.{drawn_in, filled, no_pieces, pieces_in, some_wanting}
use Rattle.batch_workers.specs.declared.piece.Piece.{Piece}
use Rattle.batch_workers.proofs.Filling.{length-filled}
use Rattle.batch_workers.proofs.Counting.{filter-all, filter-less, pass-all, same, taken-less, taken-once, taken-pass, taken-there, weight-same}
use Rattle.batch_workers.proofs.Slots.{each-both, each-map, piece-found, pieces-stand, places_in, slot_at}

or-left : (a b : Bool) → (a || b) ≡ false → a ≡ false
or-left true b e = absurd (true≢false e)
or-left false b e = refl

or-right : (a b : Bool) → (a || b) ≡ false → b ≡ false
or-right true b e = absurd (true≢false e)
or-right false b e = e

-- what was found of the piece at a place
pub record Found (s : Setting) (jobs : List JobLine) (inputs : List Taking) (slots : List (Option Piece)) (place : ℕ) : Type 0 where
  pub piece : Piece
  pub stands : slot_at slots place ≡ Some piece
  pub works : Works s (job_at jobs place) (taking_at inputs place) (work_of piece.worked piece.output.items)
  pub room : length_made (work_of piece.worked piece.output.items) ≤ most_made

-- each job whose input was taken has its piece
worked-of : (s : Setting) (js : List JobLine) (ts : List Taking) (os : List (Option Piece)) → length ts ≡ length js → length os ≡ length ts
    → ((place : ℕ) → is_taken ts place ≡ true → Found s js ts os place) → AreWorked s js ts (works_in ts os) × AreHeld ts os
worked-of s [] [] [] a b f = (tt, tt)
worked-of s [] [] (o ∷ os) a b f = absurd (omega (arith, b))
worked-of s [] (t ∷ ts) os a b f = absurd (omega (arith, a))
worked-of s (j ∷ js) [] os a b f = absurd (omega (arith, a))
worked-of s (j ∷ js) (t ∷ ts) [] a b f = absurd (omega (arith, b))
worked-of s (j ∷ js) (t ∷ ts) (o ∷ os) a b f =
    let rest = worked-of s js ts os (omega (arith, a)) (omega (arith, b))
    (λ place in_it. let k = f (suc place) in_it in record { piece = k.piece; stands = k.stands; works = k.works; room = k.room }) in
    let here = one t o (λ in_it. f zero in_it) in
    ((here.0, rest.0), (here.1, rest.1))
  where
    one : (t : Taking) (o : Option Piece) → (is_taken (t ∷ ts) zero ≡ true → Found s (j ∷ js) (t ∷ ts) (o ∷ os) zero) → Works s j t (work_in t o) × IsHeld t o
    one (Missed miss) o f = (refl, tt)
    one (Got x) o f =
        let k = f refl in
        let P : Option Piece → Type 0 = λ q. Works s j (Got x) (work_in (Got x) q) × IsHeld (Got x) q in
        subst P (sym k.stands) (k.works, k.room)

-- the places of the works are those of the inputs
drawn-worked : (s : Setting) (js : List JobLine) (ts : List Taking) (ws : List Work) → AreWorked s js ts ws → drawn ws ≡ taken_places ts
drawn-worked s [] [] [] h = refl
drawn-worked s [] [] (w ∷ ws) h = absurd h
drawn-worked s [] (t ∷ ts) ws h = absurd h
drawn-worked s (j ∷ js) [] ws h = absurd h
drawn-worked s (j ∷ js) (t ∷ ts) [] h = absurd h
drawn-worked s (j ∷ js) (Missed miss ∷ ts) (w ∷ ws) h =
    ap (λ (v : Work). drawn (v ∷ ws)) h.0 ∙ ap (map suc) (drawn-worked s js ts ws h.1)
drawn-worked s (j ∷ js) (Got x ∷ ts) (Skipped miss ∷ ws) h = absurd h.0
drawn-worked s (j ∷ js) (Got x ∷ ts) (Denied refusal ∷ ws) h = ap (λ ps. zero ∷ map suc ps) (drawn-worked s js ts ws h.1)
drawn-worked s (j ∷ js) (Got x ∷ ts) (Converted made ∷ ws) h = ap (λ ps. zero ∷ map suc ps) (drawn-worked s js ts ws h.1)

-- the work of a piece that stands in its slot
have-at : (js : List JobLine) (ts : List Taking) (os : List (Option Piece)) (place : ℕ) (d : Piece) → length ts ≡ length js → length os ≡ length ts
    → is_taken ts place ≡ true → slot_at os place ≡ Some d → HaveAt js (works_in ts os) place (job_at js place) (work_of d.worked d.output.items)
have-at [] [] os place d a b in_it is = absurd (cc)
have-at [] (t ∷ ts) os place d a b in_it is = absurd (omega (arith, a))
have-at (j ∷ js) [] os place d a b in_it is = absurd (omega (arith, a))
have-at (j ∷ js) (t ∷ ts) [] place d a b in_it is = absurd (omega (arith, b))
have-at (j ∷ js) (Missed miss ∷ ts) (o ∷ os) zero d a b in_it is = absurd (cc)
have-at (j ∷ js) (Got x ∷ ts) (o ∷ os) zero d a b in_it is = (refl, sym (ap (work_in (Got x)) is))
have-at (j ∷ js) (t ∷ ts) (o ∷ os) (suc place) d a b in_it is = have-at js ts os place d (omega (arith, a)) (omega (arith, b)) in_it is

length-none : (n : ℕ) → length (no_pieces n) ≡ n
length-none zero = refl
length-none (suc n) = let i = length-none n in omega (arith, i)

taken-low : (ts : List Taking) (place : ℕ) → is_taken ts place ≡ true → place < length ts
taken-low [] place h = absurd (cc)
taken-low (t ∷ ts) zero h = omega arith
taken-low (t ∷ ts) (suc place) h = let i = taken-low ts place h in omega (arith, i)

module _ (s : Setting) (jobs : List JobLine) (inputs : List Taking) where
  -- each worker's own entries are those of what it drew
  abbrev pub AreStints : List Stint → Type 0
  AreStints ds = AllByRecursion (IsStint s jobs inputs) ds

  abbrev toils_of : (ds : List Stint) → AreStints ds → List Toil
  toils_of [] h = []
  toils_of (d ∷ ds) h = record { part = d.part; shares = h.0.shares } ∷ toils_of ds h.1

  abbrev pub parts_in : List Stint → List Part
  parts_in ds = map (λ (d : Stint). d.part) ds

  toils-parts : (ds : List Stint) (h : AreStints ds) → parts_in ds ≡ map (λ (t : Toil). t.part) (toils_of ds h)
  toils-parts [] h = refl
  toils-parts (d ∷ ds) h = ap (λ ps. d.part ∷ ps) (toils-parts ds h.1)

  toils-own : (ds : List Stint) (h : AreStints ds) → OwnTheirs s (toils_of ds h)
  toils-own [] h = tt
  toils-own (d ∷ ds) h = (h.0.own, toils-own ds h.1)

  each-append : (P : Share → Type 0) (xs ys : List Share) → AllByRecursion P xs → AllByRecursion P ys → AllByRecursion P (xs ++ ys)
  each-append P [] ys h k = k
  each-append P (x ∷ xs) ys h k = (h.0, each-append P xs ys h.1 k)

  toils-jobs : (ds : List Stint) (h : AreStints ds) → AreOfJobs jobs (shares_in (toils_of ds h))
  toils-jobs [] h = tt
  toils-jobs (d ∷ ds) h = each-append (λ (e : Share). e.job ≡ job_at jobs e.place) h.0.shares (shares_in (toils_of ds h.1)) h.0.of_jobs (toils-jobs ds h.1)

  toils-places : (ds : List Stint) (h : AreStints ds) → places_of (shares_in (toils_of ds h)) ≡ filter (is_taken inputs) (drawn_in ds)
  toils-places [] h = refl
  toils-places (d ∷ ds) h =
      map-append (λ (e : Share). e.place) h.0.shares (shares_in (toils_of ds h.1))
      ∙ ap₂ (λ (xs ys : List ℕ). xs ++ ys) h.0.drew (toils-places ds h.1)
      ∙ sym (filter-append (is_taken inputs) d.drawn (drawn_in ds))

  -- ---- where memory was wanting

  pub begun : (workers : ℕ) (ds : List Stint) → AreStints ds → length inputs ≡ length jobs → AreNumbered 1 (parts_in ds) → length (parts_in ds) ≤ workers
      → ((of : ℕ → ℕ) → weight of (drawn_in ds) ≤ weight of (taken_places inputs)) → AreBegunBy s workers jobs (parts_in ds)
  begun workers ds h alike numbered count some = record {
    toils = toils_of ds h;
    is_callers = toils-parts ds h;
    count = count;
    numbered = numbered;
    own = toils-own ds h;
    of_jobs = toils-jobs ds h;
    once = λ of.
        let a = ap (weight of) (toils-places ds h) in
        let b = filter-less of (is_taken inputs) (drawn_in ds) in
        let c = some of in
        let d = taken-less of inputs jobs alike in
        let e = weight-same of (places_of (shares_in (toils_of ds h))) in
        let f = weight-same of (places jobs) in
        omega (arith, a, b, c, d, e, f);
  }

  -- ---- where all jobs were done

  toils-shares : (ds : List Stint) (h : AreStints ds) → some_wanting ds ≡ false → shares_in (toils_of ds h) ≡ shares_of jobs (pieces_in ds)
  toils-shares [] h calm = refl
  toils-shares (d ∷ ds) h calm =
      ap₂ (λ (xs ys : List Share). xs ++ ys) (h.0.whole (or-left d.wanting (some_wanting ds) calm)).0 (toils-shares ds h.1 (or-right d.wanting (some_wanting ds) calm))
      ∙ sym (map-append (share_of jobs) d.pieces (pieces_in ds))

  toils-allowed : (ds : List Stint) (h : AreStints ds) → some_wanting ds ≡ false → AllByRecursion (IsAllowed s inputs) (shares_in (toils_of ds h))
  toils-allowed [] h calm = tt
  toils-allowed (d ∷ ds) h calm =
      each-append (IsAllowed s inputs) h.0.shares (shares_in (toils_of ds h.1)) (h.0.whole (or-left d.wanting (some_wanting ds) calm)).1
      (toils-allowed ds h.1 (or-right d.wanting (some_wanting ds) calm))

  pieces-places : (ds : List Piece) → places_of (shares_of jobs ds) ≡ places_in ds
  pieces-places [] = refl
  pieces-places (d ∷ ds) = ap (λ ps. d.place ∷ ps) (pieces-places ds)

  each-piece : (P : Share → Type 0) (ds : List Piece) → AllByRecursion P (shares_of jobs ds) → AllByRecursion (λ (d : Piece). P (share_of jobs d)) ds
  each-piece P [] h = tt
  each-piece P (d ∷ ds) h = (h.0, each-piece P ds h.1)

  each-place : (P : ℕ → Type 0) (ds : List Piece) → AllByRecursion P (places_in ds) → AllByRecursion (λ (d : Piece). P d.place) ds
  each-place P [] h = tt
  each-place P (d ∷ ds) h = (h.0, each-place P ds h.1)

  -- all pieces, whose places are those whose input was taken, each once
  pub record AreAll (ds : List Piece) : Type 0 where
    pub same_places : AreSame (taken_places inputs) (places_in ds)
    pub allowed : AllByRecursion (IsAllowed s inputs) (shares_of jobs ds)

  all-taken : (ds : List Piece) → AreAll ds → AllByRecursion (λ (d : Piece). is_taken inputs d.place ≡ true) ds
  all-taken ds h =
      each-place (λ (n : ℕ). is_taken inputs n ≡ true) ds
      (pass-all (is_taken inputs) (places_in ds) (sym (h.same_places (λ n. if is_taken inputs n then 0 else 1)) ∙ taken-pass inputs))

  all-stand : (ds : List Piece) → AreAll ds → AllByRecursion (λ (d : Piece). slot_at (filled (no_pieces (length inputs)) ds) d.place ≡ Some d) ds
  all-stand ds h =
      pieces-stand (no_pieces (length inputs)) ds (λ n. let a = h.same_places (same n) in let b = taken-once inputs n in omega (arith, a, b))
      (each-map (λ (d : Piece). is_taken inputs d.place ≡ true) (λ (d : Piece). d.place < length (no_pieces (length inputs))) ds
      (λ d in_it. let low = taken-low inputs d.place in_it in let long = length-none (length inputs) in omega (arith, low, long)) (all-taken ds h))

  all-found : (ds : List Piece) → AreAll ds → (place : ℕ) → is_taken inputs place ≡ true → Found s jobs inputs (filled (no_pieces (length inputs)) ds) place
  all-found ds h place in_it =
      let os = filled (no_pieces (length inputs)) ds in
      let e = piece-found (λ (d : Piece). (slot_at os d.place ≡ Some d) × IsAllowed s inputs (share_of jobs d)) place ds
      (let a = h.same_places (same place) in let b = taken-there inputs place in_it in omega (arith, a, b))
      (each-both (λ (d : Piece). slot_at os d.place ≡ Some d) (λ (d : Piece). IsAllowed s inputs (share_of jobs d))
      (λ (d : Piece). (slot_at os d.place ≡ Some d) × IsAllowed s inputs (share_of jobs d)) ds (λ d a b. (a, b)) (all-stand ds h)
      (each-piece (IsAllowed s inputs) ds h.allowed)) in
      let P : ℕ → Type 0 = λ n. slot_at os n ≡ Some e.0 in
      let Q : ℕ → Type 0 = λ n. Works s (job_at jobs n) (taking_at inputs n) (work_of e.0.worked e.0.output.items) in
      record {
        piece = e.0;
        stands = subst P e.1 e.2.0;
        works = subst Q e.1 e.2.1.works;
        room = e.2.1.room;
      }

  all-there : (ds es : List Piece) (os : List (Option Piece)) → length inputs ≡ length jobs → length os ≡ length inputs
      → AllByRecursion (λ (d : Piece). is_taken inputs d.place ≡ true) es → AllByRecursion (λ (d : Piece). slot_at os d.place ≡ Some d) es
      → AreAt jobs (works_in inputs os) (shares_of jobs es)
  all-there ds [] os a b h k = tt
  all-there ds (e ∷ es) os a b h k = (have-at jobs inputs os e.place e a b h.0 k.0, all-there ds es os a b h.1 k.1)

  pub done : (workers : ℕ) (ds : List Stint) (slots : List (Option Piece)) → AreStints ds → some_wanting ds ≡ false → length inputs ≡ length jobs
      → AreNumbered 1 (parts_in ds) → length (parts_in ds) ≡ workers → AreSame (taken_places inputs) (drawn_in ds)
      → slots ≡ filled (no_pieces (length inputs)) (pieces_in ds)
      → AreDoneBy s workers jobs inputs (parts_in ds) (works_in inputs slots) × AreHeld inputs slots
  done workers ds slots h calm alike numbered count all is =
      let ps = pieces_in ds in
      let os = filled (no_pieces (length inputs)) ps in
      let shares = toils-shares ds h calm in
      let passed = pass-all (is_taken inputs) (drawn_in ds) (sym (all (λ n. if is_taken inputs n then 0 else 1)) ∙ taken-pass inputs) in
      let kept : places_in ps ≡ drawn_in ds = sym (pieces-places ps) ∙ ap places_of (sym shares) ∙ toils-places ds h ∙ filter-all (is_taken inputs) (drawn_in ds) passed in
      let A : List Share → Type 0 = λ ds. AllByRecursion (IsAllowed s inputs) ds in
      let whole : AreAll ps = record {
        same_places = λ of. all of ∙ sym (ap (weight of) kept);
        allowed = subst A shares (toils-allowed ds h calm);
      } in
      let long : length os ≡ length inputs = length-filled (no_pieces (length inputs)) ps ∙ length-none (length inputs) in
      let both = worked-of s jobs inputs os alike long (all-found ps whole) in
      let P : List (Option Piece) → Type 0 = λ qs. AreDoneBy s workers jobs inputs (parts_in ds) (works_in inputs qs) × AreHeld inputs qs in
      let T : List Share → Type 0 = λ es. AreAt jobs (works_in inputs os) es in
      subst P (sym is) (
        record {
          toils = toils_of ds h;
          is_callers = toils-parts ds h;
          count = count;
          numbered = numbered;
          own = toils-own ds h;
          worked = both.0;
          there = subst T (sym shares) (all-there ps ps os alike long (all-taken ps whole) (all-stand ps whole));
          each_once = λ of.
              ap (runs.weight of) (ap places_of shares ∙ pieces-places ps) ∙ sym (weight-same of (places_in ps))
              ∙ sym (whole.same_places of) ∙ weight-same of (taken_places inputs) ∙ sym (ap (runs.weight of) (drawn-worked s jobs inputs (works_in inputs os) both.0));
        },
        both.1,
      )
