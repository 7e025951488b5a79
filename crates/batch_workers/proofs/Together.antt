-- Workers together, before and after their work.
use Rattle.std.proofs.Common.{◌≡◌, ◌∙◌, ◌≤◌, ◌<◌, ◌+◌, ℕ, zero, suc, Bool, true, false, ◌||◌, List, [], ◌∷◌, length, All, Option, Result, Ok, Err, OnOk, slice_index_or, ap, sym, subst, refl, arith}
use Rattle.std.specs.Result.{is_err}
use Rattle.job_board.specs.Numbers.{weight}
use Rattle.job_board.specs.Drawers.{is_drained}
use Rattle.job_board.specs.declared.board.Board.{Board}
use Rattle.runtime_histories.specs.Settings.{Setting}
use Rattle.batch_jobs.specs.Jobs.{JobLine}
use Rattle.batch_runs.specs.Takings.{Taking}
use Rattle.batch_workers.specs.Parts.{Part}
use Rattle.batch_workers.specs.Toils.{AreBegunBy, AreDoneBy, AreHeld, AreNumbered, taken_places, works_in}
use Rattle.batch_workers.specs.Stints.{CanWork, HasWorked, stint_of}
use Rattle.batch_workers.specs.Teams.{Draws, IsReady, filled, no_pieces, parts_of, pieces_in, some_drained, some_wanting, stints_of}
use Rattle.batch_workers.specs.declared.piece.Piece.{Piece}
use Rattle.batch_workers.specs.declared.worker.Worker.{Worker}
use Rattle.batch_workers.proofs.Steps.{first_stint}
use Rattle.batch_workers.proofs.Done.{AreStints, parts_in, begun, done}

or-front : (a b : Bool) → a ≡ true → a || b ≡ true
or-front true b h = refl
or-front false b h = absurd (cc)

or-left : (a b : Bool) → (a || b) ≡ false → a ≡ false
or-left true b e = absurd (cc)
or-left false b e = refl

module _ {C : Type 0} (part : C → Part) where
  parts-same : (ws : List (Worker C)) → (s : Setting) (jobs : List JobLine) (inputs : List Taking) → parts_in s jobs inputs (stints_of part ws) ≡ parts_of part ws
  parts-same [] s jobs inputs = refl
  parts-same (w ∷ ws) s jobs inputs = ap (λ ps. part w.caller ∷ ps) (parts-same ws s jobs inputs)

  length-parts : (ws : List (Worker C)) → length (parts_of part ws) ≡ length ws
  length-parts [] = refl
  length-parts (w ∷ ws) = let i = length-parts ws in omega (arith, i)

  pub ready-can : (known : C → Type 0) (board : Board) (ws : List (Worker C)) → All (CanWork part known board) ws → All (IsReady known board) ws
  ready-can known board ws can = λ k d lt. let h = can k d lt in record { knows = h.knows; split = h.split }

  pub stints-can : (known : C → Type 0) (board : Board) (s : Setting) (jobs : List JobLine) (inputs : List Taking) (ws : List (Worker C))
      → All (CanWork part known board) ws → AreStints s jobs inputs (stints_of part ws)
  stints-can known board s jobs inputs [] can = tt
  stints-can known board s jobs inputs (w ∷ ws) can =
      let h = can zero w (omega arith) in (
        first_stint s jobs inputs (stint_of part w) h.entries h.drawn h.pieces,
        stints-can known board s jobs inputs ws (λ k d lt. can (suc k) d (omega (arith, lt))),
      )

  -- each worker did what it drew
  abbrev pub Each : (C → Type 0) → Board → Setting → List JobLine → List Taking → List (Worker C) → List (Worker C) → Type 0
  Each known board s jobs inputs old new =
      (i : ℕ) (d : Worker C) → i < length old → HasWorked part known board s jobs inputs (slice_index_or old i d) (slice_index_or new i d)

  pub ready-worked : (known : C → Type 0) (board : Board) (s : Setting) (jobs : List JobLine) (inputs : List Taking) (old new : List (Worker C))
      → length new ≡ length old → Each known board s jobs inputs old new → All (IsReady known board) new
  ready-worked known board s jobs inputs old new same worked =
      λ k d lt. let h = worked k d (omega (arith, lt, same)) in record { knows = h.knows; split = h.split }

  pub numbered-worked : (known : C → Type 0) (board : Board) (s : Setting) (jobs : List JobLine) (inputs : List Taking) (n : ℕ) (old new : List (Worker C))
      → length new ≡ length old → Each known board s jobs inputs old new → AreNumbered n (parts_of part old) → AreNumbered n (parts_of part new)
  numbered-worked known board s jobs inputs n [] [] same worked h = tt
  numbered-worked known board s jobs inputs n [] (w ∷ new) same worked h = absurd (omega (arith, same))
  numbered-worked known board s jobs inputs n (v ∷ old) [] same worked h = absurd (omega (arith, same))
  numbered-worked known board s jobs inputs n (v ∷ old) (w ∷ new) same worked h = (
    (let k = worked zero v (omega arith) in k.number ∙ h.0),
    numbered-worked known board s jobs inputs (n + 1) old new (omega (arith, same)) (λ i d lt. worked (suc i) d (omega (arith, lt))) h.1,
  )

  pub stints-worked : (known : C → Type 0) (board : Board) (s : Setting) (jobs : List JobLine) (inputs : List Taking) (old new : List (Worker C))
      → length new ≡ length old → Each known board s jobs inputs old new → AreStints s jobs inputs (stints_of part new)
  stints-worked known board s jobs inputs [] [] same worked = tt
  stints-worked known board s jobs inputs [] (w ∷ new) same worked = absurd (omega (arith, same))
  stints-worked known board s jobs inputs (v ∷ old) [] same worked = absurd (omega (arith, same))
  stints-worked known board s jobs inputs (v ∷ old) (w ∷ new) same worked = (
    (let k = worked zero v (omega arith) in k.stint),
    stints-worked known board s jobs inputs old new (omega (arith, same)) (λ i d lt. worked (suc i) d (omega (arith, lt))),
  )

  pub drained-worked : (known : C → Type 0) (board : Board) (s : Setting) (jobs : List JobLine) (inputs : List Taking) (old new : List (Worker C))
      → length new ≡ length old → 1 ≤ length old → Each known board s jobs inputs old new → some_wanting (stints_of part new) ≡ false → some_drained new ≡ true
  drained-worked known board s jobs inputs [] new same some worked calm = absurd (omega (arith, some))
  drained-worked known board s jobs inputs (v ∷ old) [] same some worked calm = absurd (omega (arith, same))
  drained-worked known board s jobs inputs (v ∷ old) (w ∷ new) same some worked calm =
      let k = worked zero v (omega arith) in
      or-front (is_drained w.drawer) (some_drained new) (k.drained (or-left w.wanting (some_wanting (stints_of part new)) calm))

  pub begun-by : (s : Setting) (jobs : List JobLine) (inputs : List Taking) (workers : ℕ) (ws : List (Worker C)) (ended : List Part) (numbers : List ℕ) (drained : Bool)
      → AreStints s jobs inputs (stints_of part ws) → length inputs ≡ length jobs → AreNumbered 1 (parts_of part ws) → length ws ≤ workers
      → numbers ≡ taken_places inputs → Draws numbers (stints_of part ws) drained → ended ≡ parts_of part ws → AreBegunBy s workers jobs ended
  begun-by s jobs inputs workers ws ended numbers drained stints alike numbered few board draws is =
      let same = parts-same ws s jobs inputs in
      let N : List Part → Type 0 = λ ps. AreNumbered 1 ps in
      let B : List Part → Type 0 = λ ps. AreBegunBy s workers jobs ps in
      let L : List Part → Type 0 = λ ps. length ps ≤ workers in
      let long = length-parts ws in
      subst B (same ∙ sym is)
      (begun s jobs inputs workers (stints_of part ws) stints alike (subst N (sym same) numbered) (subst L (sym same) (omega (arith, long, few)))
      (λ of. let a = draws.some of in let b = ap (weight of) board in omega (arith, a, b)))

  pub done-by : (s : Setting) (jobs : List JobLine) (inputs : List Taking) (workers : ℕ) (ws : List (Worker C)) (ended : List Part) (numbers : List ℕ) (drained : Bool) (slots : List (Option Piece))
      → AreStints s jobs inputs (stints_of part ws) → some_wanting (stints_of part ws) ≡ false → length inputs ≡ length jobs → AreNumbered 1 (parts_of part ws) → length ws ≡ workers
      → numbers ≡ taken_places inputs → Draws numbers (stints_of part ws) drained → drained ≡ true → ended ≡ parts_of part ws
      → slots ≡ filled (no_pieces (length inputs)) (pieces_in (stints_of part ws))
      → AreDoneBy s workers jobs inputs ended (works_in inputs slots) × AreHeld inputs slots
  done-by s jobs inputs workers ws ended numbers drained slots stints calm alike numbered count board draws dry is filled_so =
      let same = parts-same ws s jobs inputs in
      let N : List Part → Type 0 = λ ps. AreNumbered 1 ps in
      let D : List Part → Type 0 = λ ps. AreDoneBy s workers jobs inputs ps (works_in inputs slots) × AreHeld inputs slots in
      subst D (same ∙ sym is)
      (done s jobs inputs workers (stints_of part ws) slots stints calm alike (subst N (sym same) numbered) (ap length same ∙ length-parts ws ∙ count)
      (λ of. sym (ap (weight of) board) ∙ draws.all dry of) filled_so)

module _ {A E : Type 0} where
  pub on-ok : (r : Result A E) (P : Type 0) → is_err r ≡ false → OnOk r P → P
  on-ok (Ok a) P is h = h
  on-ok (Err e) P is h = absurd (cc)
