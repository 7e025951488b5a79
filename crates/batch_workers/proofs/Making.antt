-- Workers that are made one after another.
use Rattle.std.proofs.Common.{◌≡◌, ◌∙◌, ◌+◌, ℕ, List, [], ◌∷◌, ◌++◌, length, ap, sym, subst, refl, arith, add-one}
use Rattle.std.proofs.lemmas.List.{map-append}
use Rattle.job_board.specs.Drawers.{Splits}
use Rattle.job_board.specs.declared.board.Board.{Board}
use Rattle.job_board.specs.declared.board.Drawer.{Drawer}
use Rattle.batch_workers.specs.Parts.{Part, Roll, new_part, with_caller}
use Rattle.batch_workers.specs.Toils.{AreNumbered}
use Rattle.batch_workers.specs.Teams.{HasMade, countdown, parts_of}
use Rattle.batch_workers.specs.declared.worker.Worker.{Worker}

numbered-snoc : (n : ℕ) (ps : List Part) (p : Part) → AreNumbered n ps → p.number ≡ n + length ps → AreNumbered n (ps ++ p ∷ [])
numbered-snoc n [] p h last = (let l = last in omega (arith, l), tt)
numbered-snoc n (q ∷ ps) p h last = (h.0, numbered-snoc (n + 1) ps p h.1 (let l = last in omega (arith, l)))

module _ {C : Type 0} (part : C → Part) where
  length-parts : (ws : List (Worker C)) → length (parts_of part ws) ≡ length ws
  length-parts [] = refl
  length-parts (w ∷ ws) = let i = length-parts ws in omega (arith, i)

  pub numbered-more : (ws more : List (Worker C)) (w : Worker C) (next : ℕ) → more ≡ ws ++ w ∷ [] → AreNumbered 1 (parts_of part ws)
      → part w.caller ≡ new_part next → next ≡ length ws + 1 → AreNumbered 1 (parts_of part more)
  numbered-more ws more w next is h new count =
      let P : List Part → Type 0 = λ ps. AreNumbered 1 ps in
      let n = ap (λ (p : Part). p.number) new in
      let l = length-parts ws in
      subst P (sym (ap (parts_of part) is ∙ map-append (λ (v : Worker C). part v.caller) ws (w ∷ [])))
      (numbered-snoc 1 (parts_of part ws) (part w.caller) h (omega (arith, n, l, count)))

pub made-more : (board : Board) (roll more : Roll) (old mid new : Drawer) (n m : ℕ) → HasMade roll old mid n → more ≡ with_caller roll → Splits board mid new → m ≡ n + 1
    → HasMade more old new m
made-more board roll more old mid new n m h is s count =
    let next = ap (λ (r : Roll). r.next) is in
    let a = h.next in
    let o = h.out in
    let t = s.away in
    record {
      next = omega (arith, next, a, count);
      away = ap (λ (r : Roll). r.away) is ∙ ap (λ k. k ∷ roll.away) h.next ∙ ap (λ ks. (n + 1) ∷ ks) h.away
          ∙ ap (λ k. k ∷ countdown n) (add-one n) ∙ sym (ap countdown (count ∙ add-one n));
      none = ap (λ (r : Roll). r.ended) is ∙ h.none;
      numbers = s.numbers ∙ h.numbers;
      drawn = s.drawn ∙ h.drawn;
      drained = s.drained ∙ h.drained;
      out = omega (arith, o, t, count);
    }
