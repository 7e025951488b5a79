-- Numbers that are left are drawn and counted.
use Rattle.std.proofs.Common.{◌≡◌, ℕ, ◌+◌, ◌≤◌, Bool, true, true≢false, List, [], ◌∷◌, ◌++◌, length, sym, refl, ap, ◌∙◌, subst, arith, append_assoc, append-nil, length-append}
use Rattle.crossbeam_queue.specs.Passes.{view}
use Rattle.job_board.specs.declared.board.Board.{Board}
use Rattle.job_board.specs.declared.board.Drawer.{Drawer}
use Rattle.job_board.specs.Numbers.{AreSame, most_numbers}
use Rattle.job_board.specs.Drawers.{drawn_by, is_drained, numbers_of, away_from, IsDrawer, IsLead, Draws, Drains, Leaves}

-- The leader has drawn so many numbers more.
pub record Settles (board : Board) (all drawn : List ℕ) (dry : Bool) (lead : Drawer) (count : ℕ) : Type 0 where
  pub leads : IsLead board lead
  pub joined : away_from lead ≡ 0
  pub numbers : numbers_of lead ≡ all
  pub left : List ℕ
  pub many : length left ≡ count
  pub drawn_is : drawn_by lead ≡ drawn ++ left
  pub dries : dry ≡ true → (count ≡ 0) × (is_drained lead ≡ true)

pub settles-first : (board : Board) (lead : Drawer) → IsLead board lead → away_from lead ≡ 0
    → Settles board (numbers_of lead) (drawn_by lead) (is_drained lead) lead 0
settles-first board lead leads joined = record {
  leads = leads;
  joined = joined;
  numbers = refl;
  left = [];
  many = refl;
  drawn_is = sym (append-nil (drawn_by lead));
  dries = λ is. (refl, is);
}

pub settles-next : (board : Board) (all drawn : List ℕ) (dry : Bool) (old new : Drawer) (count n : ℕ)
    → Settles board all drawn dry old count → IsDrawer board new → Draws (view old.pass) (view new.pass) n
    → Settles board all drawn dry new (count + 1)
settles-next board all drawn dry old new count n s drawer d = record {
  leads = record {
    drawer = drawer;
    leads = d.stays.leads ∙ s.leads.leads;
    few = subst (λ (ns : List ℕ). length ns ≤ most_numbers) (sym d.stays.all) s.leads.few;
  };
  joined = d.stays.away ∙ s.joined;
  numbers = d.stays.all ∙ s.numbers;
  left = s.left ++ n ∷ [];
  many = length-append s.left (n ∷ []) ∙ ap (λ k. k + 1) s.many;
  drawn_is = d.drawn ∙ ap (λ ns. ns ++ n ∷ []) s.drawn_is ∙ append_assoc drawn s.left (n ∷ []);
  dries = λ is. absurd (true≢false (sym (s.dries is).1 ∙ d.left));
}

-- No more numbers are counted than there are.
pub settles-few : (board : Board) (all drawn : List ℕ) (dry : Bool) (lead : Drawer) (count : ℕ)
    → Settles board all drawn dry lead count → length (drawn_by lead) ≤ length (numbers_of lead) → count ≤ most_numbers
settles-few board all drawn dry lead count s few =
    let a : length (drawn_by lead) ≡ length (drawn ++ s.left) = ap length s.drawn_is in
    let b : length (drawn ++ s.left) ≡ length drawn + length s.left = length-append drawn s.left in
    let c : length (numbers_of lead) ≤ 4096 = s.leads.few in
    let d : length s.left ≡ count = s.many in
    let e : count ≤ 4096 = omega arith in
    e

pub settles-left : (board : Board) (all drawn : List ℕ) (dry : Bool) (old new : Drawer) (count : ℕ)
    → Settles board all drawn dry old count → Drains (view old.pass) (view new.pass)
    → AreSame (numbers_of new) (drawn_by new) → Leaves all drawn count
settles-left board all drawn dry old new count s d same = record {
  left = s.left;
  many = s.many;
  same = subst (λ (ns : List ℕ). AreSame ns (drawn ++ s.left)) (d.stays.all ∙ s.numbers)
      (subst (λ (ns : List ℕ). AreSame (numbers_of new) ns) (d.drawn ∙ s.drawn_is) same);
}
