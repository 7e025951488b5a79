-- Each step keeps the rule of a board.
use Rattle.std.proofs.Common.{◌≡◌, ◌≢◌, ◌⊎◌, ℕ, zero, suc, ◌+◌, ◌-◌, ◌≤◌, Bool, true, false, ◌||◌, true≢false, List, [], ◌∷◌, ◌++◌, length, set, sym, refl, ap, ◌∙◌, subst, inl, inr, ⊎_elim, arith}
use mathlib.Core.Option.{some, some-injective, some-ne-none}
use lib.ListN.{get_elem?}
use Rattle.atomic_table.proofs.Lists.{at_set, at_snoc}
use Rattle.crossbeam_queue.specs.Fifo.{Pushes, Pops, Forks, Merges, Learns}
use Rattle.job_board.specs.declared.hand.Ticket.{Ticket}
use Rattle.job_board.specs.declared.hand.Ticket.TheVariants.{Number, Stop}
use Rattle.job_board.specs.declared.hand.Hand.{Hand}
use Rattle.job_board.specs.Numbers.{weight}
use Rattle.job_board.specs.Rule.{numbers, AllStops, total, one_if, outs, dries, Scene, IsHand, AllPorts, scene, IsFair, first, beginner, spent, may_act, with_number, with_stop, with_ticket, IsPut, IsTaken, with_split, with_drawer, Knows}
use Rattle.job_board.proofs.Totals.{total-set, total-snoc, total-at, total-alone}
use Rattle.job_board.proofs.Tickets.{weight-append, weight-ones, numbers-append, numbers-stops, length-numbers, stops-snoc, AllNumbers-snoc, Ends-stop, Ends-number, Ends-stops}

not_true : (b : Bool) → (b ≡ true → ⊥) → b ≡ false
not_true true isnt = absurd (isnt refl)
not_true false isnt = refl

not_both : (b : Bool) → b ≡ true → b ≡ false → ⊥
not_both b is isnt = true≢false (sym is ∙ isnt)

either : (b c : Bool) → (b || c) ≡ true → (b ≡ true) ⊎ (c ≡ true)
either true c is = inl refl
either false c is = inr is

-- What holds of a new drawer at a port and of all others holds of all.
all_set : (F : ℕ → Hand → Type 0) (vs : List Hand) (p : ℕ) (w : Hand) → F p w
    → ((j : ℕ) (u : Hand) → j ≢ p → get_elem? vs j ≡ some u → F j u) → AllPorts F (set vs p w)
all_set F vs p w mine others j u e = ⊎_elim
    (λ (x : (j ≡ p) × (w ≡ u)). subst (λ (y : ℕ × Hand). F y.0 y.1) (λ i. (sym x.0 i, x.1 i)) mine)
    (λ (x : (j ≢ p) × (get_elem? vs j ≡ some u)). others j u x.0 x.1) (at_set vs p j w u e)

all_snoc : (F : ℕ → Hand → Type 0) (vs : List Hand) (w : Hand) → ((j : ℕ) → F j w) → AllPorts F vs
    → AllPorts F (vs ++ w ∷ [])
all_snoc F vs w mine others j u e = ⊎_elim (λ (x : get_elem? vs j ≡ some u). others j u x)
    (λ (is : w ≡ u). subst (λ (y : Hand). F j y) is (mine j)) (at_snoc vs w u j e)

-- As many are out where the drawer at a port stays out or in.
outs-same : (vs : List Hand) (p : ℕ) (v w : Hand) → get_elem? vs p ≡ some v → w.out ≡ v.out → outs (set vs p w) ≡ outs vs
outs-same vs p v w at same =
    let e : outs (set vs p w) + one_if v.out ≡ outs vs + one_if w.out = total-set (λ x. one_if x.out) vs p v w at in
    let f : one_if w.out ≡ one_if v.out = ap one_if same in
    omega arith

dries-same : (vs : List Hand) (p : ℕ) (v w : Hand) → get_elem? vs p ≡ some v → w.drained ≡ v.drained → dries (set vs p w) ≡ dries vs
dries-same vs p v w at same =
    let e : dries (set vs p w) + one_if v.drained ≡ dries vs + one_if w.drained = total-set (λ x. one_if x.drained) vs p v w at in
    let f : one_if w.drained ≡ one_if v.drained = ap one_if same in
    omega arith

-- Somebody is out, or drained.
some_out : (vs : List Hand) (p : ℕ) (v : Hand) → get_elem? vs p ≡ some v → v.out ≡ true → outs vs ≡ 0 → ⊥
some_out vs p v at is none =
    let e : one_if v.out ≤ outs vs = total-at (λ x. one_if x.out) vs p v at in
    let f : one_if v.out ≡ 1 = ap one_if is in
    omega arith

some_dry : (vs : List Hand) (p : ℕ) (v : Hand) → get_elem? vs p ≡ some v → v.drained ≡ true → dries vs ≡ 0 → ⊥
some_dry vs p v at is none =
    let e : one_if v.drained ≤ dries vs = total-at (λ x. one_if x.drained) vs p v at in
    let f : one_if v.drained ≡ 1 = ap one_if is in
    omega arith

-- Where one drawer may act, no other one is fresh.
no_other_fresh : (lead : ℕ) (all : List ℕ) (items : List Ticket) (vs : List Hand) (p : ℕ) (v : Hand)
    → get_elem? vs p ≡ some v → may_act v ≡ true → IsHand (scene lead all items vs) p v
    → (j : ℕ) (u : Hand) → j ≢ p → IsHand (scene lead all items vs) j u → u.fresh ≡ true → ⊥
no_other_fresh lead all items vs p v at may mine j u other theirs fresh =
    let known = theirs.fresh fresh in
    ⊎_elim (λ (is : v.leads ≡ true). other ((theirs.leads known.0).0 ∙ sym (mine.leads is).0))
    (λ (is : v.out ≡ true). some_out vs p v at is known.1) (either v.leads v.out may)

-- What is known of another drawer stays, where as many are out and whoever was drained is.
kept : (lead : ℕ) (all : List ℕ) (items more : List Ticket) (vs ws : List Hand) (j : ℕ) (u : Hand)
    → IsHand (scene lead all items vs) j u → (u.fresh ≡ true → ⊥) → outs ws ≡ outs vs
    → (AllStops items → AllStops more) → IsHand (scene lead all more ws) j u
kept lead all items more vs ws j u theirs stale same stops = record {
  leads = λ is. ((theirs.leads is).0, (theirs.leads is).1, (theirs.leads is).2 ∙ sym same);
  fresh = λ is. absurd (stale is);
  idle = theirs.idle;
  drained = λ is. stops (theirs.drained is);
}

-- A drawer that acted is known as before, but for what it took.
acted : (lead : ℕ) (all : List ℕ) (items more : List Ticket) (vs ws : List Hand) (p : ℕ) (v w : Hand)
    → IsHand (scene lead all items vs) p v → may_act v ≡ true → w.leads ≡ v.leads → w.out ≡ v.out → w.all ≡ v.all
    → w.away ≡ v.away → w.fresh ≡ false → outs ws ≡ outs vs → (w.drained ≡ true → AllStops more)
    → IsHand (scene lead all more ws) p w
acted lead all items more vs ws p v w mine may leads out numbers away stale same stops = record {
  leads = λ is. let known = mine.leads (sym leads ∙ is) in (known.0, numbers ∙ known.1, away ∙ known.2 ∙ sym same);
  fresh = λ is. absurd (not_both w.fresh is stale);
  idle = λ a b. ⊎_elim (λ (is : v.leads ≡ true). absurd (not_both v.leads is (sym leads ∙ a)))
      (λ (is : v.out ≡ true). absurd (not_both v.out is (sym out ∙ b))) (either v.leads v.out may);
  drained = stops;
}

-- A board begins.
pub begins : IsFair [] (first ∷ [])
begins =
    let s : Scene = scene 0 [] [] (first ∷ []) in
    record {
      lead = 0;
      all = [];
      counted = λ of. refl;
      ends = tt;
      hands = λ j u e. at_first s (record {
        leads = λ is. (refl, refl, refl);
        fresh = λ is. (refl, refl, refl, tt);
        idle = λ a b. refl;
        drained = λ is. absurd (true≢false (sym is));
      }) j u e;
    }
  where
    at_first : (s : Scene) → IsHand s 0 first → (j : ℕ) (u : Hand) → get_elem? (first ∷ []) j ≡ some u → IsHand s j u
    at_first s known zero u e = subst (λ (y : Hand). IsHand s 0 y) (some-injective first u e) known
    at_first s known (suc j) u e = absurd (some-ne-none u (sym e))

-- A drawer takes a ticket out.
pub takes : (p : ℕ) (v : Hand) → may_act v ≡ true → Pops IsFair p v (IsTaken v)
takes p v may (Number n) items views fair at =
    let w : Hand = with_ticket v (Number n) in
    let mine = fair.hands p v at in
    let same : outs (set views p w) ≡ outs views = outs-same views p v w at refl in (
      w,
      record {
        lead = fair.lead;
        all = fair.all;
        counted = λ of.
            let a : weight of fair.all ≡ total (λ x. weight of x.drawn) views + (of n + weight of (numbers items)) = fair.counted of in
            let b : total (λ x. weight of x.drawn) (set views p w) + weight of v.drawn ≡ total (λ x. weight of x.drawn) views + weight of (v.drawn ++ n ∷ []) =
            total-set (λ x. weight of x.drawn) views p v w at in
            let c : weight of (v.drawn ++ n ∷ []) ≡ weight of v.drawn + (of n + 0) = weight-append of v.drawn (n ∷ []) in
            omega arith;
        ends = fair.ends;
        hands = all_set (IsHand (scene fair.lead fair.all items (set views p w))) views p w
            (acted fair.lead fair.all (Number n ∷ items) items views (set views p w) p v w mine may refl refl refl refl refl same (λ is. absurd (mine.drained is)))
            (λ j u other e. kept fair.lead fair.all (Number n ∷ items) items views (set views p w) j u (fair.hands j u e)
            (no_other_fresh fair.lead fair.all (Number n ∷ items) views p v at may mine j u other (fair.hands j u e)) same (λ stops. absurd stops));
      },
      (refl, not_true v.drained mine.drained),
    )
takes p v may Stop items views fair at =
    let w : Hand = with_ticket v Stop in
    let mine = fair.hands p v at in
    let same : outs (set views p w) ≡ outs views = outs-same views p v w at refl in (
      w,
      record {
        lead = fair.lead;
        all = fair.all;
        counted = λ of.
            let a : weight of fair.all ≡ total (λ x. weight of x.drawn) views + weight of (numbers items) = fair.counted of in
            let b : total (λ x. weight of x.drawn) (set views p w) + weight of v.drawn ≡ total (λ x. weight of x.drawn) views + weight of v.drawn =
            total-set (λ x. weight of x.drawn) views p v w at in
            omega arith;
        ends = Ends-stops items fair.ends;
        hands = all_set (IsHand (scene fair.lead fair.all items (set views p w))) views p w
            (acted fair.lead fair.all (Stop ∷ items) items views (set views p w) p v w mine may refl refl refl refl refl same (λ is. fair.ends))
            (λ j u other e. kept fair.lead fair.all (Stop ∷ items) items views (set views p w) j u (fair.hands j u e)
            (no_other_fresh fair.lead fair.all (Stop ∷ items) views p v at may mine j u other (fair.hands j u e)) same (λ stops. stops));
      },
      refl,
    )

-- The numbers stay where a stop joins.
stop_weighs : (of : ℕ → ℕ) (items : List Ticket) → weight of (numbers (items ++ Stop ∷ [])) ≡ weight of (numbers items)
stop_weighs of items =
    let a : weight of (numbers (items ++ Stop ∷ [])) ≡ weight of (numbers items ++ []) = ap (weight of) (numbers-append items (Stop ∷ [])) in
    let b : weight of (numbers items ++ []) ≡ weight of (numbers items) + 0 = weight-append of (numbers items) [] in
    omega arith

-- A drawer puts a stop in.
pub stops : (n p : ℕ) (v : Hand) → may_act v ≡ true → Pushes IsFair n p v Stop (IsPut v Stop)
stops n p v may items views room fair at =
    let w : Hand = with_stop v in
    let mine = fair.hands p v at in
    let same : outs (set views p w) ≡ outs views = outs-same views p v w at refl in (
      w,
      record {
        lead = fair.lead;
        all = fair.all;
        counted = λ of.
            let a : weight of fair.all ≡ total (λ x. weight of x.drawn) views + weight of (numbers items) = fair.counted of in
            let b : total (λ x. weight of x.drawn) (set views p w) + weight of v.drawn ≡ total (λ x. weight of x.drawn) views + weight of v.drawn =
            total-set (λ x. weight of x.drawn) views p v w at in
            let c : weight of (numbers (items ++ Stop ∷ [])) ≡ weight of (numbers items) = stop_weighs of items in
            omega arith;
        ends = Ends-stop items fair.ends;
        hands = all_set (IsHand (scene fair.lead fair.all (items ++ Stop ∷ []) (set views p w))) views p w
            (acted fair.lead fair.all items (items ++ Stop ∷ []) views (set views p w) p v w mine may refl refl refl refl refl same
            (λ is. stops-snoc items (mine.drained is)))
            (λ j u other e. kept fair.lead fair.all items (items ++ Stop ∷ []) views (set views p w) j u (fair.hands j u e)
            (no_other_fresh fair.lead fair.all items views p v at may mine j u other (fair.hands j u e)) same (stops-snoc items));
      },
      refl,
    )

-- A number joins with its weight.
number_weighs : (of : ℕ → ℕ) (items : List Ticket) (x : ℕ) → weight of (numbers (items ++ Number x ∷ [])) ≡ weight of (numbers items) + of x
number_weighs of items x =
    let a : weight of (numbers (items ++ Number x ∷ [])) ≡ weight of (numbers items ++ x ∷ []) = ap (weight of) (numbers-append items (Number x ∷ [])) in
    let b : weight of (numbers items ++ x ∷ []) ≡ weight of (numbers items) + (of x + 0) = weight-append of (numbers items) (x ∷ []) in
    omega arith

-- A fresh leader puts a number in.
pub puts : (n p : ℕ) (v : Hand) (x : ℕ) → v.leads ≡ true → v.fresh ≡ true → Pushes IsFair n p v (Number x) (IsPut v (Number x))
puts n p v x leads fresh items views room fair at =
    let w : Hand = with_number v x in
    let mine = fair.hands p v at in
    let led = mine.leads leads in
    let free = mine.fresh fresh in
    let all : List ℕ = fair.all ++ x ∷ [] in
    let same : outs (set views p w) ≡ outs views = outs-same views p v w at refl in
    let dry : dries (set views p w) ≡ dries views = dries-same views p v w at refl in (
      w,
      record {
        lead = fair.lead;
        all = all;
        counted = λ of.
            let a : weight of fair.all ≡ total (λ x. weight of x.drawn) views + weight of (numbers items) = fair.counted of in
            let b : total (λ x. weight of x.drawn) (set views p w) + weight of v.drawn ≡ total (λ x. weight of x.drawn) views + weight of v.drawn =
            total-set (λ x. weight of x.drawn) views p v w at in
            let c : weight of (numbers (items ++ Number x ∷ [])) ≡ weight of (numbers items) + of x = number_weighs of items x in
            let d : weight of (fair.all ++ x ∷ []) ≡ weight of fair.all + (of x + 0) = weight-append of fair.all (x ∷ []) in
            omega arith;
        ends = Ends-number items x free.3;
        hands = all_set (IsHand (scene fair.lead all (items ++ Number x ∷ []) (set views p w))) views p w
            (record {
              leads = λ is. (led.0, ap (λ ns. ns ++ x ∷ []) led.1, led.2 ∙ sym same);
              fresh = λ is. (leads, same ∙ free.1, dry ∙ free.2, AllNumbers-snoc items x free.3);
              idle = λ a b. absurd (not_both v.leads leads a);
              drained = λ is. absurd (some_dry views p v at is free.2);
            })
            (λ j u other e. record {
              leads = λ is. absurd (other (((fair.hands j u e).leads is).0 ∙ sym led.0));
              fresh = λ is. absurd (other (((fair.hands j u e).leads ((fair.hands j u e).fresh is).0).0 ∙ sym led.0));
              idle = (fair.hands j u e).idle;
              drained = λ is. absurd (some_dry views j u e is free.2);
            });
      },
      refl,
    )

-- A leader splits a drawer.
pub splits : (p : ℕ) (v : Hand) → v.leads ≡ true → Forks IsFair p v (with_split v) beginner
splits p v leads items views fair at =
    let w : Hand = with_split v in
    let mine = fair.hands p v at in
    let led = mine.leads leads in
    let ws : List Hand = set views p w ++ beginner ∷ [] in
    let same : outs (set views p w) ≡ outs views = outs-same views p v w at refl in
    let more : outs ws ≡ outs (set views p w) + 1 = total-snoc (λ x. one_if x.out) (set views p w) beginner in
    let is_out : v.away + 1 ≡ outs ws = let e : v.away ≡ outs views = led.2 in omega arith in
    record {
      lead = fair.lead;
      all = fair.all;
      counted = λ of.
          let a : weight of fair.all ≡ total (λ x. weight of x.drawn) views + weight of (numbers items) = fair.counted of in
          let b : total (λ x. weight of x.drawn) (set views p w) + weight of v.drawn ≡ total (λ x. weight of x.drawn) views + weight of v.drawn =
          total-set (λ x. weight of x.drawn) views p v w at in
          let c : total (λ x. weight of x.drawn) ws ≡ total (λ x. weight of x.drawn) (set views p w) + 0 =
          total-snoc (λ x. weight of x.drawn) (set views p w) beginner in
          omega arith;
      ends = fair.ends;
      hands = all_snoc (IsHand (scene fair.lead fair.all items ws)) (set views p w) beginner
          (λ j. record {
            leads = λ is. absurd (true≢false (sym is));
            fresh = λ is. absurd (true≢false (sym is));
            idle = λ a b. refl;
            drained = λ is. absurd (true≢false (sym is));
          })
          (all_set (IsHand (scene fair.lead fair.all items ws)) views p w
          (record {
            leads = λ is. (led.0, led.1, is_out);
            fresh = λ is. absurd (true≢false (sym is));
            idle = λ a b. absurd (not_both v.leads leads a);
            drained = mine.drained;
          })
          (λ j u other e. record {
            leads = λ is. absurd (other (((fair.hands j u e).leads is).0 ∙ sym led.0));
            fresh = λ is. absurd (other (((fair.hands j u e).leads ((fair.hands j u e).fresh is).0).0 ∙ sym led.0));
            idle = (fair.hands j u e).idle;
            drained = (fair.hands j u e).drained;
          }));
    }

-- A leader takes a drawer in.
pub joins : (p : ℕ) (v : Hand) (o : ℕ) (u : Hand) → v.leads ≡ true → u.out ≡ true → Merges IsFair p v o u (with_drawer v u) spent
joins p v o u leads out items views fair at apart at' =
    let w : Hand = with_drawer v u in
    let mine = fair.hands p v at in
    let led = mine.leads leads in
    let vs : List Hand = set views p w in
    let ws : List Hand = set vs o spent in
    let was : get_elem? views o ≡ some u =
    ⊎_elim (λ (x : (o ≡ p) × (w ≡ u)). absurd (apart x.0)) (λ (x : (o ≢ p) × (get_elem? views o ≡ some u)). x.1) (at_set views p o w u at') in
    let theirs = fair.hands o u was in
    let same : outs vs ≡ outs views = outs-same views p v w at refl in
    let is_out : v.away - 1 ≡ outs ws =
    let a : v.away ≡ outs views = led.2 in
    let b : outs ws + one_if u.out ≡ outs vs + 0 = total-set (λ x. one_if x.out) vs o u spent at' in
    let c : one_if u.out ≡ 1 = ap one_if out in
    omega arith in
    record {
      lead = fair.lead;
      all = fair.all;
      counted = λ of.
          let a : weight of fair.all ≡ total (λ x. weight of x.drawn) views + weight of (numbers items) = fair.counted of in
          let b : total (λ x. weight of x.drawn) vs + weight of v.drawn ≡ total (λ x. weight of x.drawn) views + weight of (v.drawn ++ u.drawn) =
          total-set (λ x. weight of x.drawn) views p v w at in
          let c : total (λ x. weight of x.drawn) ws + weight of u.drawn ≡ total (λ x. weight of x.drawn) vs + 0 =
          total-set (λ x. weight of x.drawn) vs o u spent at' in
          let d : weight of (v.drawn ++ u.drawn) ≡ weight of v.drawn + weight of u.drawn = weight-append of v.drawn u.drawn in
          omega arith;
      ends = fair.ends;
      hands = all_set (IsHand (scene fair.lead fair.all items ws)) vs o spent
          (record {
            leads = λ is. absurd (true≢false (sym is));
            fresh = λ is. absurd (true≢false (sym is));
            idle = λ a b. refl;
            drained = λ is. absurd (true≢false (sym is));
          })
          (λ j y other e. ⊎_elim
          (λ (x : (j ≡ p) × (w ≡ y)). subst (λ (z : ℕ × Hand). IsHand (scene fair.lead fair.all items ws) z.0 z.1) (λ i. (sym x.0 i, x.1 i))
          (record {
            leads = λ is. (led.0, led.1, is_out);
            fresh = λ is. absurd (true≢false (sym is));
            idle = λ a b. absurd (not_both v.leads leads a);
            drained = λ is. ⊎_elim mine.drained theirs.drained (either v.drained u.drained is);
          }))
          (λ (x : (j ≢ p) × (get_elem? views j ≡ some y)). record {
            leads = λ is. absurd (x.0 (((fair.hands j y x.1).leads is).0 ∙ sym led.0));
            fresh = λ is. absurd (x.0 (((fair.hands j y x.1).leads ((fair.hands j y x.1).fresh is).0).0 ∙ sym led.0));
            idle = (fair.hands j y x.1).idle;
            drained = (fair.hands j y x.1).drained;
          }) (at_set views p j w y e));
    }

-- What a drawer learns at any moment.
pub learns : (p : ℕ) (v : Hand) → Learns IsFair p v (Knows v)
learns p v items views fair at =
    let mine = fair.hands p v at in
    let ones : weight (λ n. 1) fair.all ≡ total (λ x. weight (λ n. 1) x.drawn) views + weight (λ n. 1) (numbers items) = fair.counted (λ n. 1) in
    let long : weight (λ n. 1) fair.all ≡ length fair.all = weight-ones fair.all in
    record {
      few = λ is.
          let a : weight (λ n. 1) v.drawn ≤ total (λ x. weight (λ n. 1) x.drawn) views = total-at (λ x. weight (λ n. 1) x.drawn) views p v at in
          let b : weight (λ n. 1) v.drawn ≡ length v.drawn = weight-ones v.drawn in
          let c : length v.all ≡ length fair.all = ap length (mine.leads is).1 in
          omega arith;
      held = λ is.
          let a : length items ≡ length (numbers items) = length-numbers items (mine.fresh is).3 in
          let b : weight (λ n. 1) (numbers items) ≡ length (numbers items) = weight-ones (numbers items) in
          let c : length v.all ≡ length fair.all = ap length (mine.leads (mine.fresh is).0).1 in
          omega arith;
      done = λ is none dry of.
          let out : outs views ≡ 0 = sym (mine.leads is).2 ∙ none in
          let a : weight of fair.all ≡ total (λ x. weight of x.drawn) views + weight of (numbers items) = fair.counted of in
          let b : weight of (numbers items) ≡ 0 = ap (weight of) (numbers-stops items (mine.drained dry)) in
          let c : total (λ x. weight of x.drawn) views ≡ weight of v.drawn = total-alone (λ x. weight of x.drawn) views p v at
          (λ j u other e. ap (weight of) ((fair.hands j u e).idle
          (not_true u.leads (λ (l : u.leads ≡ true). other (((fair.hands j u e).leads l).0 ∙ sym (mine.leads is).0)))
          (not_true u.out (λ (o : u.out ≡ true). some_out views j u e o out)))) in
          let d : weight of v.all ≡ weight of fair.all = ap (weight of) (mine.leads is).1 in
          omega arith;
    }
