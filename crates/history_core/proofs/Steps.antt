-- Each step keeps the rule.
use Rattle.std.proofs.lemmas.List.{length-replicate, get_or-replicate}
use Rattle.std.proofs.Common.{cond, eq-eqb, ne_eqb, replicate, append-nil, zero, suc, length-append}
use Rattle.std.proofs.Common.{◌≡◌, ◌≢◌, ◌⊎◌, ℕ, ◌+◌, ◌-◌, ◌<◌, eqb, Bool, true, false, List, []}
use Rattle.std.proofs.Common.{◌∷◌, ◌++◌, length, get_or, set, sym, refl, ap, ◌∙◌, subst, arith}
use Rattle.std.proofs.Common.{Option, Some, None, inl, inr, ⊎_elim, length-set, get_or-set_other}
use Rattle.std.proofs.Common.{get_or-set_same, true≢false}
use mathlib.Core.Option.{none, some, some-injective, some-ne-none}
use mathlib.Core.Option as maybe
use mathlib.Core.Logic.{dite}
use native.Mathlib.Decide.{ℕ_discrete}
use lib.ListN.{get_elem?}
use lib.Seq.{set-get_or}
use prog.Atomic.{either}
use Rattle.atomic_table.specs.Table.{State, Me, Step, step, Act, keeps, takes, gives, stepped}
use Rattle.atomic_table.specs.Table.{carried_after, Valid, Allows, Splits, Joins, opening, Final}
use Rattle.atomic_table.specs.Table.{Seen}
use Rattle.atomic_table.proofs.Lists.{at_set, set_here, set_else, set_again, at_longer}
use Rattle.history_core.specs.History.{History, EachNumber, Since, Grows, Has, without, longer}
use Rattle.history_core.specs.History.{EachEnd, HasEnd, AreEnded}
use Rattle.history_core.specs.declared.rule.Held.{Held}
use Rattle.history_core.specs.declared.rule.Held.TheVariants.{Home, Committing}
use Rattle.history_core.specs.declared.rule.View.{View}
use Rattle.history_core.specs.Rule.{Fits, AtHome, IsOut, Kept, Takes, taken, looked, committed}
use Rattle.history_core.specs.Rule.{released, settled, new_lead, spent, after_split, new_pass}
use Rattle.history_core.specs.Rule.{after_join, last_fill, wrote, saw, Covered}
use Rattle.history_core.proofs.Lists.{index_below, Some-injective, Some-ne-None, Since-whole}
use Rattle.history_core.proofs.Lists.{Since-more, Each-append, Each-weaker, Each-rest, since_longer}
use Rattle.history_core.proofs.Lists.{longer_begins, Since-twice, Since-weaker, EachEnd-weaker}
use Rattle.history_core.proofs.Lists.{without-gone, Has-kept, Distinct-without, length-without}
use Rattle.history_core.proofs.Lists.{Has-without, none_left, Each-first, put, put_here, put_else}
use Rattle.history_core.proofs.Lists.{at_end}

get_is : (xs : List ℕ) (i x : ℕ) → get_elem? xs i ≡ some x → get_or xs i 0 ≡ x
get_is [] i x e = absurd (some-ne-none x (sym e))
get_is (y ∷ ys) zero x e = some-injective y x e
get_is (y ∷ ys) (suc i) x e = get_is ys i x e

fill_cases : {C : Type 0} (p q x y : ℕ) (ws : List (ℕ × ℕ)) → last_fill q ((p, x) ∷ ws) ≡ Some y
    → (p ≡ q → x ≡ y → C) → (q ≢ p → last_fill q ws ≡ Some y → C) → C
fill_cases {C} p q x y ws e here there =
    let P : Bool → Type 0 = λ b. cond b (Some x) (last_fill q ws) ≡ Some y in
    dite (ℕ_discrete p q) (λ z. here z (Some-injective x y (subst P (eq-eqb p q z) e)))
    (λ ne. there (λ z. ne (sym z)) (subst P (ne_eqb p q ne) e))

no_length : (xs : List ℕ) → length xs ≡ 0 → xs ≡ []
no_length [] e = refl
no_length (x ∷ xs) e = absurd (omega arith)

not_true : (b : Bool) → (b ≡ true → ⊥) → b ≡ false
not_true true h = absurd (h refl)
not_true false h = refl

pos_of : (n : ℕ) → n ≢ 0 → 0 < n
pos_of zero h = absurd (h refl)
pos_of (suc n) h = omega arith

-- what is there after x was put in at 0 alone is not 0
put_at_0 : (n x : ℕ) → x ≢ 0 → either (eqb n 0) x n ≢ 0
put_at_0 n x busy =
    let P : Bool → Type 0 = λ b. either b x n ≢ 0 in
    dite (ℕ_discrete n 0) (λ z. subst P (sym (eq-eqb n 0 z)) busy)
    (λ ne. subst P (sym (ne_eqb n 0 ne)) ne)

abbrev entry_of : {V E : Type 0} → E → Held V E → E
entry_of d (Committing e) = e
entry_of d _ = d

abbrev entry_or : {V E : Type 0} → E → List (ℕ × Held V E) → E
entry_or d [] = d
entry_or d (x ∷ xs) = entry_of d x.1

entry_is : {V E : Type 0} (e x : E) → ◌≡◌ {A = List (ℕ × Held V E)} ((0, Committing e) ∷ [])
    ((0, Committing x) ∷ []) → e ≡ x
entry_is e x is = ap (entry_or e) is

module _ {V E T : Type 0} (setting : V → T) (Legal : T → History E → Type 0)
    (Stands : V → History E → Type 0) (pinned : T → History E → ℕ → ℕ → Option ℕ) (count : ℕ)
    (t : T) where
  abbrev St : Type 0
  St = State (Held V E) (View E T)

  abbrev Rule : St → Type 0
  Rule = Kept setting Legal Stands pinned count t

  -- a step on one of the first two words leaves the side words
  side : (ws : List ℕ) (i n p : ℕ) → i < 2 → get_elem? (set ws i n) (2 + p) ≡ get_elem? ws (2 + p)
  side ws i n p low = set_else ws i (2 + p) n (λ e. omega arith)

  abbrev Filled : History E → List ℕ → View E T → Type 0
  Filled log ws k = k.served ≡ true → (p x : ℕ) → last_fill p k.filled ≡ Some x
      → (get_elem? ws (2 + p) ≡ some x) × ((n : ℕ) → pinned t log n p ≡ None)

  idle_fills : (log : History E) (ws : List ℕ) (k : View E T) → k.served ≡ false → Filled log ws k
  idle_fills log ws k idle serves = absurd (true≢false (sym serves ∙ idle))

  -- nothing changes
  unmoved : (s : St) (i me : ℕ) (k : View E T) → get_elem? s.views me ≡ some k → Rule s
      → Rule record {
        words = set s.words i (get_or s.words i 0);
        homes = s.homes;
        views = set s.views me k;
      }
  unmoved s i me k at = subst Rule
      (λ j. record {
        words = sym (set-get_or s.words i 0) j;
        homes = s.homes;
        views = sym (set_again s.views me k at) j;
      })

  pub looks : (me slots : ℕ) (k : View E T) (held : List (ℕ × Held V E)) → k.setting ≡ Some t
      → k.served ≡ true → Allows Rule slots me (k, held) 0 (λ n. n)
      (looked (step slots 0 0 0 none) (k, held))
  looks me slots k held told serves s r deep at low =
      let f = r.live me k at (inl serves) in
      (k, keeps, tt, unmoved s 0 me k at r, (r.long ∙ ap length (sym (f.whole serves)), refl))

  -- what a live view knows, after a step of another seat or of its own
  views_step : (s : St) (me : ℕ) (w : View E T) (K : ℕ → View E T → Type 0) → K me w
      → ((i : ℕ) (k : View E T) → i ≢ me → get_elem? s.views i ≡ some k → K i k)
      → (i : ℕ) (k : View E T) → get_elem? (set s.views me w) i ≡ some k → K i k
  views_step s me w K mine others i k at =
      ⊎_elim (λ (z : (i ≡ me) × (w ≡ k)). subst (λ (x : ℕ × View E T). K x.0 x.1)
      (λ j. (sym z.0 j, z.1 j)) mine)
      (λ (z : (i ≢ me) × (get_elem? s.views i ≡ some k)). others i k z.0 z.1)
      (at_set s.views me i w k at)

  abbrev Served : View E T → History E → View E T
  Served k log = record k { served = true; front = log; filled = [] }

  -- the turn's word changes, and is not 0
  not_free : (s : St) (x : ℕ) → Rule s → x ≢ 0 → get_or (set s.words 1 x) 1 0 ≢ 0
  not_free s x r busy z =
      let wide = r.wide in busy (sym (get_or-set_same s.words 1 x 0 (omega arith)) ∙ z)

  takes_free : (me x : ℕ) (k : View E T) (s : St) → x ≢ 0 → k.setting ≡ Some t → k.number ≢ 0
      → get_elem? s.views me ≡ some k → (r : Rule s)
      → (h : AtHome setting Legal Stands pinned t r.log s)
      → Rule record {
        words = set s.words 1 x;
        homes = set s.homes 0 none;
        views = set s.views me (Served k r.log);
      }
  takes_free me x k s busy told pass at r h =
      let f = r.live me k at (inr (Some-ne-None t k.setting told)) in
      let w = Served k r.log in
      record {
        log = r.log;
        given = r.given;
        away = r.away;
        seat_of = r.seat_of;
        wide = length-set s.words 1 x ∙ r.wide;
        turn = inr record {
          word = not_free s x r busy;
          home = ap (λ (hs : List (maybe.Option (Held V E))). set hs 0 none) h.home;
          seat = me;
          known = w;
          there = set_here s.views me w (index_below s.views me k at);
          serves = refl;
          alone = views_step s me w (λ i j. j.served ≡ true → i ≡ me) (λ _. refl)
              (λ i j other there serves. absurd (true≢false (sym serves ∙ h.idle i j there)));
        };
        long = get_or-set_other s.words 1 0 x 0 (λ e. omega arith) ∙ r.long;
        legal = r.legal;
        numbers = r.numbers;
        some_given = r.some_given;
        pins = λ n p y h. side s.words 1 x p (omega arith) ∙ r.pins n p y h;
        fills = views_step s me w (λ i j. Filled r.log (set s.words 1 x) j)
            (λ _ p y e. absurd (Some-ne-None y None e refl))
            (λ i j other there. idle_fills r.log (set s.words 1 x) j (h.idle i j there));
        live = views_step s me w (λ i j. (j.served ≡ true) ⊎ (j.setting ≢ None)
            → Fits t r.log r.given r.away r.seat_of i j)
            (λ _. record {
              told = f.told;
              seen = Since-whole (λ m. m ≢ k.number) r.log;
              mine = f.mine;
              low = f.low;
              whole = λ _. refl;
              lead = λ z. absurd (pass z);
              pass = f.pass;
            })
            (λ i j other there. r.live i j there);
      }

  -- another number that is not 0 stands in the turn's word, and the turn is whose it was
  stays_out : (me x : ℕ) (k : View E T) (s : St) → x ≢ 0 → get_elem? s.views me ≡ some k → Rule s
      → IsOut setting Legal Stands pinned s
      → Rule record { words = set s.words 1 x; homes = s.homes; views = set s.views me k }
  stays_out me x k s busy at r h =
      let P : List (View E T) → Type 0 =
      λ vs. Rule record { words = set s.words 1 x; homes = s.homes; views = vs } in
      let kept : P s.views = record {
        log = r.log;
        given = r.given;
        away = r.away;
        seat_of = r.seat_of;
        wide = length-set s.words 1 x ∙ r.wide;
        turn = inr record {
          word = not_free s x r busy;
          home = h.home;
          seat = h.seat;
          known = h.known;
          there = h.there;
          serves = h.serves;
          alone = h.alone;
        };
        long = get_or-set_other s.words 1 0 x 0 (λ e. omega arith) ∙ r.long;
        legal = r.legal;
        numbers = r.numbers;
        some_given = r.some_given;
        pins = λ n p y e. side s.words 1 x p (omega arith) ∙ r.pins n p y e;
        fills = λ i j there y p z e. let b = r.fills i j there y p z e in
            (side s.words 1 x p (omega arith) ∙ b.0, b.1);
        live = r.live;
      } in
      subst P (sym (set_again s.views me k at)) kept

  -- what `Allows` asks of a step that makes f n of the number n in the turn's word
  abbrev Taking : Step (Held V E) → (ℕ → ℕ) → ℕ → View E T → St → ℕ → Type 0
  Taking st f me k s n = (w : View E T) × (a : Act (Held V E)) × Valid s.homes [] a
      × Rule (stepped s 1 (f n) me [] w a)
      × taken setting Legal Stands pinned st (k, []) n (w, carried_after [] a)

  takes_at_0 : (st : Step (Held V E)) (f : ℕ → ℕ) (me : ℕ) (k : View E T) (s : St) → f 0 ≢ 0 → k.setting ≡ Some t
      → k.number ≢ 0 → get_elem? s.views me ≡ some k → (r : Rule s)
      → AtHome setting Legal Stands pinned t r.log s → Taking st f me k s 0
  takes_at_0 st f me k s busy told pass at r h =
      let g = r.live me k at (inr (Some-ne-None t k.setting told)) in (
        Served k r.log,
        takes 0 (Home h.value),
        ap (λ (hs : List (maybe.Option (Held V E))). get_elem? hs 0) h.home,
        takes_free me (f 0) k s busy told pass at r h,
        λ u is _. (
          (λ _. subst (λ (x : T). Takes setting Legal Stands pinned x k
              (Served k r.log, (0, Home h.value) ∷ [])) (Some-injective t u (sym told ∙ is))
              record {
                value = h.value;
                log = r.log;
                now = refl;
                grows = g.seen;
                stands = h.stands;
                told = h.told;
                legal = r.legal;
              }),
          (λ ne. absurd (ne refl)),
        ),
      )

  takes_out : (st : Step (Held V E)) (f : ℕ → ℕ) (me : ℕ) (k : View E T) (s : St) → f (get_or s.words 1 0) ≢ 0
      → get_elem? s.views me ≡ some k → Rule s → IsOut setting Legal Stands pinned s
      → Taking st f me k s (get_or s.words 1 0)
  takes_out st f me k s busy at r h = (
    k,
    keeps,
    tt,
    stays_out me (f (get_or s.words 1 0)) k s busy at r h,
    λ u is _. ((λ z. absurd (h.word z)), (λ _. refl)),
  )

  takes_turn : (st : Step (Held V E)) (f : ℕ → ℕ) (me slots : ℕ) (k : View E T) → ((n : ℕ) → f n ≢ 0)
      → k.setting ≡ Some t → k.number ≢ 0
      → Allows Rule slots me (k, []) 1 f (taken setting Legal Stands pinned st (k, []))
  takes_turn st f me slots k busy told pass s r deep at low =
      ⊎_elim (λ (h : AtHome setting Legal Stands pinned t r.log s).
      subst (Taking st f me k s) (sym h.word) (takes_at_0 st f me k s (busy 0) told pass at r h))
      (λ (h : IsOut setting Legal Stands pinned s).
      takes_out st f me k s (busy (get_or s.words 1 0)) at r h) r.turn

  -- the turn ends, with the value x at home
  pub releases : (me slots : ℕ) (k : View E T) (x : V) → k.setting ≡ Some t → k.served ≡ true
      → setting x ≡ t → Stands x k.front
      → Allows Rule slots me (k, (0, Home x) ∷ []) 1 (λ _. 0)
      (released (step slots 1 0 0 none) (k, (0, Home x) ∷ []))
  releases me slots k x told serves of_t stands s r deep at low =
      let f = r.live me k at (inl serves) in
      let w : View E T = record k { served = false; filled = [] } in
      let P : Type 0 = Rule record {
        words = set s.words 1 0;
        homes = set s.homes 0 (some (Home x));
        views = set s.views me w;
      } in
      let kept : IsOut setting Legal Stands pinned s
      → P = λ h. let only : me ≡ h.seat = h.alone me k at serves in record {
        log = r.log;
        given = r.given;
        away = r.away;
        seat_of = r.seat_of;
        wide = length-set s.words 1 0 ∙ r.wide;
        turn = inl record {
          word = let wide = r.wide in get_or-set_same s.words 1 0 0 (omega arith);
          value = x;
          home = ap (λ (hs : List (maybe.Option (Held V E))). set hs 0 (some (Home x)))
              h.home;
          stands = subst (Stands x) (f.whole serves) stands;
          told = of_t;
          idle = views_step s me w (λ i j. j.served ≡ false) refl
              (λ i j other there.
              not_true j.served (λ y. other (h.alone i j there y ∙ sym only)));
        };
        long = get_or-set_other s.words 1 0 0 0 (λ e. omega arith) ∙ r.long;
        legal = r.legal;
        numbers = r.numbers;
        some_given = r.some_given;
        pins = λ n p x h. side s.words 1 0 p (omega arith) ∙ r.pins n p x h;
        fills = views_step s me w (λ i j. Filled r.log (set s.words 1 0) j)
            (λ y. absurd (true≢false (sym y)))
            (λ i j other there y. absurd (other (h.alone i j there y ∙ sym only)));
        live = views_step s me w
            (λ i j. (j.served ≡ true) ⊎ (j.setting ≢ None)
            → Fits t r.log r.given r.away r.seat_of i j)
            (λ _. record {
              told = f.told;
              seen = f.seen;
              mine = f.mine;
              low = f.low;
              whole = λ z. absurd (true≢false (sym z));
              lead = λ z. absurd (true≢false (sym serves ∙ (f.lead z).idle));
              pass = f.pass;
            })
            (λ i j other there. r.live i j there);
      } in (
        w,
        gives,
        tt,
        ⊎_elim (λ (h : AtHome setting Legal Stands pinned t r.log s).
            absurd (true≢false (sym serves ∙ h.idle me k at))) kept r.turn,
        refl,
      )

  -- the number of a seat that is not the lead's stands in no other live view
  apart : (s : St) (r : Rule s) (i j : ℕ) (k l : View E T)
      → Fits t r.log r.given r.away r.seat_of i k → Fits t r.log r.given r.away r.seat_of j l
      → i ≢ j → k.number ≢ l.number
  apart s r i j k l f g other same = other (sym f.mine ∙ (ap r.seat_of same ∙ g.mine))

  -- one entry more, of the seat that is served
  pub commits : (me slots n : ℕ) (k : View E T) (e : E) → k.setting ≡ Some t → k.served ≡ true
      → k.number ≢ 0 → n ≡ length k.front + 1 → Legal t (k.front ++ (k.number, e) ∷ [])
      → Covered pinned t k.front (k.front ++ (k.number, e) ∷ []) k.filled
      → Allows Rule slots me (k, (0, Committing e) ∷ []) 0 (λ _. n)
      (λ _. committed (step slots 0 n 0 none) (k, (0, Committing e) ∷ []) n)
  commits me slots n k e told serves pass long may covered s r deep at low =
      let f = r.live me k at (inl serves) in
      let log' : History E = k.front ++ (k.number, e) ∷ [] in
      let w : View E T = record k { front = log'; filled = [] } in
      let same : r.log ++ (k.number, e) ∷ [] ≡ log' =
      ap (λ (z : History E). z ++ (k.number, e) ∷ []) (sym (f.whole serves)) in
      let mine : EachNumber (λ m. (0 < m) × (m < r.given)) ((k.number, e) ∷ []) =
      ((pos_of k.number pass, f.low), tt) in
      let P : Type 0 = Rule record {
        words = set s.words 0 n;
        homes = s.homes;
        views = set s.views me w;
      } in
      let kept : IsOut setting Legal Stands pinned s
      → P = λ h. let only : me ≡ h.seat = h.alone me k at serves in record {
        log = log';
        given = r.given;
        away = r.away;
        seat_of = r.seat_of;
        wide = length-set s.words 0 n ∙ r.wide;
        turn = inr record {
          word = λ z. h.word (sym (get_or-set_other s.words 0 1 n 0 (λ y. omega arith)) ∙ z);
          home = h.home;
          seat = me;
          known = w;
          there = set_here s.views me w (index_below s.views me k at);
          serves = serves;
          alone = views_step s me w (λ i j. j.served ≡ true → i ≡ me) (λ _. refl)
              (λ i j other there y. h.alone i j there y ∙ sym only);
        };
        long =
            let wide = r.wide in
            get_or-set_same s.words 0 n 0 (omega arith)
            ∙ (long ∙ sym (length-append k.front ((k.number, e) ∷ [])));
        legal = may;
        numbers = subst (EachNumber (λ m. (0 < m) × (m < r.given))) same
            (Each-append (λ m. (0 < m) × (m < r.given)) r.log ((k.number, e) ∷ []) r.numbers
            mine);
        some_given = r.some_given;
        pins = λ m p x h. side s.words 0 n p (omega arith)
            ∙ ⊎_elim (λ (z : (m : ℕ) × (pinned t k.front m p ≡ Some x)).
            r.pins z.0 p x (ap (λ (l : History E). pinned t l z.0 p) (sym (f.whole serves))
            ∙ z.1)) (λ z. (r.fills me k at serves p x z).0) (covered m p x h);
        fills = views_step s me w (λ i j. Filled log' (set s.words 0 n) j)
            (λ _ p x e. absurd (Some-ne-None x None e refl))
            (λ i j other there y. absurd (other (h.alone i j there y ∙ sym only)));
        live = views_step s me w
            (λ i j. (j.served ≡ true) ⊎ (j.setting ≢ None)
            → Fits t log' r.given r.away r.seat_of i j)
            (λ _. record {
              told = f.told;
              seen = Since-whole (λ m. m ≢ k.number) log';
              mine = f.mine;
              low = f.low;
              whole = λ _. refl;
              lead = λ z. absurd (pass z);
              pass = f.pass;
            })
            (λ i j other there alive. let g = r.live i j there alive in record {
              told = g.told;
              seen = subst (Grows j.number j.front) same
                  (Since-more (λ m. m ≢ j.number) j.front r.log ((k.number, e) ∷ [])
                  ((λ z. other (sym g.mine ∙ (ap r.seat_of (sym z) ∙ f.mine))), tt) g.seen);
              mine = g.mine;
              low = g.low;
              whole = λ y. absurd (other (h.alone i j there y ∙ sym only));
              lead = λ z. let b = g.lead z in
                  record {
                    given_is = b.given_is;
                    away_is = b.away_is;
                    idle = b.idle;
                    rest = subst (Since (Has r.away) j.front) same
                        (Since-more (Has r.away) j.front r.log ((k.number, e) ∷ [])
                        (f.pass pass, tt) b.rest);
                    count_is = b.count_is;
                    distinct = b.distinct;
                    low = b.low;
                    own = b.own;
                    ends = b.ends;
                    known = b.known;
                  };
              pass = g.pass;
            });
      } in (
        w,
        keeps,
        tt,
        ⊎_elim (λ (h : AtHome setting Legal Stands pinned t r.log s).
            absurd (true≢false (sym serves ∙ h.idle me k at))) kept r.turn,
        λ x is. ap
            (λ (z : E). (
              record k { front = k.front ++ (k.number, z) ∷ []; filled = [] },
              (0, Committing e) ∷ [],
            )) (entry_is e x is),
      )

  abbrev Alive : View E T → Type 0
  Alive j = (j.served ≡ true) ⊎ (j.setting ≢ None)

  abbrev Ids : Type 0
  Ids = ℕ → ℕ

  pub splits : (me : ℕ) (k : View E T) → k.setting ≡ Some t → k.number ≡ 0
      → Splits Rule me k (after_split k) (new_pass k)
  splits me k told zeroth s r at =
      let f = r.live me k at (inr (Some-ne-None t k.setting told)) in
      let b = f.lead zeroth in
      let w = after_split k in
      let o = new_pass k in
      let given' : ℕ = r.given + 1 in
      let away' : List ℕ = r.given ∷ r.away in
      let n : ℕ = length s.views in
      let ids : Ids = put r.seat_of r.given n in
      let K : ℕ → View E T → Type 0 = λ i j. Alive j → Fits t r.log given' away' ids i j in
      let full : length (set s.views me w) ≡ n = length-set s.views me w in
      let rest_low : EachNumber (λ m. m < r.given) b.rest.0 =
      Each-weaker (λ m. (0 < m) × (m < r.given)) (λ m. m < r.given) (λ m h. h.1) b.rest.0
      (Each-rest (λ m. (0 < m) × (m < r.given)) k.front b.rest.0
      (subst (EachNumber (λ m. (0 < m) × (m < r.given))) b.rest.1 r.numbers)) in
      let old : (i : ℕ) (j : View E T) → get_elem? (set s.views me w) i ≡ some j
      → K i j = views_step s me w K
      (λ _. record {
        told = f.told;
        seen = f.seen;
        mine = put_else r.seat_of r.given n k.number (λ z. let p = r.some_given in omega arith)
            ∙ f.mine;
        low = let l = f.low in omega arith;
        whole = f.whole;
        lead = λ z. record {
          given_is = ap (λ (x : ℕ). x + 1) b.given_is;
          away_is = λ i. b.given_is i ∷ b.away_is i;
          idle = b.idle;
          rest = (
            b.rest.0,
            b.rest.1,
            Each-weaker (Has r.away) (Has away') (λ m h. inr h) b.rest.0
                b.rest.2,
          );
          count_is = (let c = b.count_is in omega arith);
          distinct = ((λ h. let l = (b.low r.given h).1 in absurd (omega arith)), b.distinct);
          low = λ m h. ⊎_elim (λ (e : r.given ≡ m). let p = r.some_given in
              let q : (0 < m) × (m < given') = (omega arith, omega arith) in q)
              (λ h. let l = b.low m h in let q : (0 < m) × (m < given') = (l.0, omega arith) in q)
              h;
          own = b.own;
          ends = EachEnd-weaker (λ m front. (m < r.given) × ¬ (Has r.away m)
              × Grows m front k.front) (λ m front. (m < given') × ¬ (Has away' m)
              × Grows m front k.front)
              (λ m front h. let l = h.0 in (
                (omega arith),
                (λ z. ⊎_elim (λ (e : r.given ≡ m). absurd (omega arith)) h.1 z),
                h.2,
              )) k.ended b.ends;
          known = λ m some few. dite (ℕ_discrete r.given m) (λ e. inl (inl e))
              (λ ne. ⊎_elim (λ h. inl (inr h)) (λ h. inr h) (b.known m some (omega arith)));
        };
        pass = λ z. absurd (z zeroth);
      })
      (λ i j other there alive. let g = r.live i j there alive in record {
        told = g.told;
        seen = g.seen;
        mine = put_else r.seat_of r.given n j.number (λ z. let l = g.low in omega arith) ∙ g.mine;
        low = let l = g.low in omega arith;
        whole = g.whole;
        lead = λ z. absurd (apart s r i me j k g f other (z ∙ sym zeroth));
        pass = λ z. inr (g.pass z);
      }) in
      let new : K n o = λ _. record {
        told = told;
        seen = (
          b.rest.0,
          b.rest.1,
          Each-weaker (λ m. m < r.given) (λ m. m ≢ k.given)
              (λ m h z. let e = b.given_is in omega arith) b.rest.0 rest_low,
        );
        mine = ap ids b.given_is ∙ put_here r.seat_of r.given n;
        low = let e = b.given_is in omega arith;
        whole = λ z. absurd (true≢false (sym z ∙ b.idle));
        lead = λ z. let p = r.some_given in let e = b.given_is in absurd (omega arith);
        pass = λ z. inl (sym b.given_is);
      } in
      let idle : ((i : ℕ) (j : View E T) → get_elem? s.views i ≡ some j → j.served ≡ false)
      → (i : ℕ) (j : View E T) → get_elem? (set s.views me w ++ o ∷ []) i ≡ some j
      → j.served ≡ false = λ h i j there.
      ⊎_elim (λ q. views_step s me w (λ i j. j.served ≡ false) b.idle (λ i j other q. h i j q) i j
      q) (λ (q : (i ≡ length (set s.views me w)) × (o ≡ j)).
      ap (λ (x : View E T). x.served) (sym q.1) ∙ b.idle)
      (at_end (set s.views me w) o j i there) in
      let P : Type 0 = AtHome setting Legal Stands pinned t r.log
      record { words = s.words; homes = s.homes; views = set s.views me w ++ o ∷ [] }
      ⊎ IsOut setting Legal Stands pinned
      record { words = s.words; homes = s.homes; views = set s.views me w ++ o ∷ [] } in
      record {
        log = r.log;
        given = given';
        away = away';
        seat_of = ids;
        wide = r.wide;
        turn =
            let Q : Type 0 = P in
            ⊎_elim (λ (h : AtHome setting Legal Stands pinned t r.log s). let x : Q =
            inl record {
              word = h.word;
              value = h.value;
              home = h.home;
              stands = h.stands;
              told = h.told;
              idle = idle h.idle;
            } in x)
            (λ (h : IsOut setting Legal Stands pinned s). let other : h.seat ≢ me =
            (λ z. true≢false
            (sym h.serves ∙ (ap (λ (x : View E T). x.served)
            (some-injective h.known k (sym h.there ∙ (ap (get_elem? s.views) z ∙ at)))
            ∙ b.idle))) in let x : Q = inr record {
              word = h.word;
              home = h.home;
              seat = h.seat;
              known = h.known;
              there = at_longer (set s.views me w) (o ∷ []) h.seat h.known
                  (set_else s.views me h.seat w other ∙ h.there);
              serves = h.serves;
              alone = λ i j there y.
                  ⊎_elim (λ q. views_step s me w (λ i j. j.served ≡ true → i ≡ h.seat)
                  (λ z. absurd (true≢false (sym z ∙ b.idle))) (λ i j other q. h.alone i j q) i j
                  q y)
                  (λ (q : (i ≡ length (set s.views me w)) × (o ≡ j)).
                  absurd
                  (true≢false
                  (sym y ∙ (ap (λ (x : View E T). x.served) (sym q.1) ∙ b.idle))))
                  (at_end (set s.views me w) o j i there);
            } in x) r.turn;
        long = r.long;
        legal = r.legal;
        numbers = Each-weaker (λ m. (0 < m) × (m < r.given)) (λ m. (0 < m) × (m < given'))
            (λ m h. (h.0, (let l = h.1 in omega arith))) r.log r.numbers;
        some_given = omega arith;
        pins = r.pins;
        fills = λ i j there. ⊎_elim (λ q. views_step s me w (λ i j. Filled r.log s.words j)
            (idle_fills r.log s.words w b.idle) (λ i j other q. r.fills i j q) i j q)
            (λ (q : (i ≡ length (set s.views me w)) × (o ≡ j)).
            idle_fills r.log s.words j (ap (λ (x : View E T). x.served) (sym q.1) ∙ b.idle))
            (at_end (set s.views me w) o j i there);
        live = λ i j there. ⊎_elim (λ q. old i j q)
            (λ (q : (i ≡ length (set s.views me w)) × (o ≡ j)).
            subst (λ (x : ℕ × View E T). K x.0 x.1) (λ c. (sym (q.0 ∙ full) c, q.1 c)) new)
            (at_end (set s.views me w) o j i there);
      }

  pub joins : (me : ℕ) (k : View E T) (other : ℕ) (w : View E T) → k.setting ≡ Some t → k.number ≡ 0
      → w.setting ≡ Some t → w.number ≢ 0 → w.served ≡ false
      → Joins Rule me k other w (after_join k w) spent
  joins me k other w told zeroth w_told pass idle_w s r at differs there =
      let there' : get_elem? s.views other ≡ some w =
      sym (set_else s.views me other (after_join k w) differs) ∙ there in
      let f = r.live me k at (inr (Some-ne-None t k.setting told)) in
      let g = r.live other w there' (inr (Some-ne-None t w.setting w_told)) in
      let b = f.lead zeroth in
      let u = after_join k w in
      let vs : List (View E T) = set s.views me u in
      let away' : List ℕ = without w.number r.away in
      let K : ℕ → View E T → Type 0 = λ i j. Alive j → Fits t r.log r.given away' r.seat_of i j in
      let count : k.count - 1 ≡ length away' = ap (λ (x : ℕ). x - 1) b.count_is
      ∙ sym (length-without r.away w.number (g.pass pass)) in
      let begins = longer_begins k.front w.front r.log r.away w.number b.rest g.seen in
      let front' : History E = longer k.front w.front in
      let older : EachEnd (λ m front. (m < r.given) × ¬ (Has away' m) × Grows m front front')
      k.ended = EachEnd-weaker (λ m front. (m < r.given) × ¬ (Has r.away m)
      × Grows m front k.front) (λ m front. (m < r.given) × ¬ (Has away' m)
      × Grows m front front')
      (λ m front h. (
        h.0,
        (λ z. h.1 (Has-kept r.away w.number m z)),
        Since-twice (λ x. x ≢ m) front
            k.front front' h.2 (Since-weaker (Has r.away) (λ x. x ≢ m)
            (λ x there e. h.1 (subst (Has r.away) e there)) k.front front' begins.0),
      )) k.ended b.ends
      in
      let leads : (Since (λ m. m ≢ 0) (longer k.front w.front) r.log
      × Since (Has away') (longer k.front w.front) r.log)
      → K me (record u { away = away'; was_away = r.away }) = λ q _. record {
        told = told;
        seen = subst (λ (x : ℕ). Since (λ m. m ≢ x) (longer k.front w.front) r.log)
            (sym zeroth) q.0;
        mine = f.mine;
        low = f.low;
        whole = λ z. absurd (true≢false (sym z ∙ b.idle));
        lead = λ _. record {
          given_is = b.given_is;
          away_is = refl;
          idle = b.idle;
          rest = q.1;
          count_is = count;
          distinct = Distinct-without r.away w.number b.distinct;
          low = λ m h. b.low m (Has-kept r.away w.number m h);
          own = begins.0;
          ends = ((g.low, without-gone r.away w.number b.distinct, begins.1), older);
          known = λ m some few. dite (ℕ_discrete w.number m) (λ e. inr (inl e))
              (λ ne. ⊎_elim (λ h. inl (Has-without r.away w.number m (λ e. ne (sym e)) h))
              (λ h. inr (inr h)) (b.known m some few));
        };
        pass = λ z. absurd (z zeroth);
      } in
      let mine : K me u = subst
      (λ (a : List ℕ). K me (record u { away = without w.number a; was_away = a }))
      (sym b.away_is)
      (leads (since_longer k.front w.front r.log r.away w.number b.rest g.seen
      (Each-weaker (λ m. (0 < m) × (m < r.given)) (λ m. m ≢ 0)
      (λ m h z. let l = h.0 in omega arith) r.log r.numbers))) in
      let others : (i : ℕ) (j : View E T) → i ≢ other → get_elem? vs i ≡ some j
      → K i j = λ i j far there_i. views_step s me u (λ i j. i ≢ other → K i j) (λ _. mine)
      (λ i j away_i q apart_i alive. let x = r.live i j q alive in record {
        told = x.told;
        seen = x.seen;
        mine = x.mine;
        low = x.low;
        whole = x.whole;
        lead = λ z. absurd (apart s r i me j k x f away_i (z ∙ sym zeroth));
        pass = λ z. Has-without r.away w.number j.number (apart s r i other j w x g apart_i)
            (x.pass z);
      }) i j there_i far in
      let s' : St = record { words = s.words; homes = s.homes; views = vs } in
      let P : Type 0 = AtHome setting Legal Stands pinned t r.log
      record { words = s.words; homes = s.homes; views = set vs other spent }
      ⊎ IsOut setting Legal Stands pinned
      record { words = s.words; homes = s.homes; views = set vs other spent } in
      record {
        log = r.log;
        given = r.given;
        away = away';
        seat_of = r.seat_of;
        wide = r.wide;
        turn =
            let Q : Type 0 = P in
            ⊎_elim (λ (h : AtHome setting Legal Stands pinned t r.log s). let x : Q = inl record {
              word = h.word;
              value = h.value;
              home = h.home;
              stands = h.stands;
              told = h.told;
              idle = views_step s' other spent (λ i j. j.served ≡ false) refl
                  (λ i j _ q. views_step s me u (λ i j. j.served ≡ false) b.idle
                  (λ i j _ q. h.idle i j q) i j q);
            } in x)
            (λ (h : IsOut setting Legal Stands pinned s).
            let not_served : (i : ℕ) (j : View E T) → get_elem? s.views i ≡ some j
            → j.served ≡ false → h.seat ≢ i =
            λ i j q idle z. true≢false
            (sym h.serves ∙ (ap (λ (x : View E T). x.served)
            (some-injective h.known j (sym h.there ∙ (ap (get_elem? s.views) z ∙ q)))
            ∙ idle)) in
            let x : Q = inr record {
              word = h.word;
              home = h.home;
              seat = h.seat;
              known = h.known;
              there = set_else vs other h.seat spent (not_served other w there' idle_w)
                  ∙ (set_else s.views me h.seat u (not_served me k at b.idle) ∙ h.there);
              serves = h.serves;
              alone = views_step s' other spent (λ i j. j.served ≡ true → i ≡ h.seat)
                  (λ z. absurd (true≢false (sym z)))
                  (λ i j _ q. views_step s me u (λ i j. j.served ≡ true → i ≡ h.seat)
                  (λ z. absurd (true≢false (sym z ∙ b.idle))) (λ i j _ q. h.alone i j q) i j q);
            } in x) r.turn;
        long = r.long;
        legal = r.legal;
        numbers = r.numbers;
        some_given = r.some_given;
        pins = r.pins;
        fills = views_step s' other spent (λ i j. Filled r.log s.words j)
            (idle_fills r.log s.words spent refl)
            (λ i j _ q. views_step s me u (λ i j. Filled r.log s.words j)
            (idle_fills r.log s.words u b.idle) (λ i j _ q. r.fills i j q) i j q);
        live = views_step s' other spent K
            (λ alive. absurd (⊎_elim (λ z. true≢false (sym z)) (λ z. z refl) alive)) others;
      }

  pub starts : (words : List ℕ) (x : V) → length words ≡ count + 2 → get_or words 0 0 ≡ 0
      → get_or words 1 0 ≡ 0 → setting x ≡ t → Stands x [] → Legal t []
      → ((n p : ℕ) → pinned t [] n p ≡ None) → Rule (opening words (Home x ∷ []) (new_lead t))
  starts words x wide len turn told stands legal unpinned = record {
    log = [];
    given = 1;
    away = [];
    seat_of = λ _. 0;
    wide = wide;
    turn = inl record {
      word = turn;
      value = x;
      home = refl;
      stands = stands;
      told = told;
      idle = only (λ i j. j.served ≡ false) refl;
    };
    long = len;
    legal = legal;
    numbers = tt;
    some_given = omega arith;
    pins = λ n p x h. absurd (Some-ne-None x (pinned t [] n p) h (unpinned n p));
    fills = only (λ i j. Filled [] words j) (idle_fills [] words (new_lead t) refl);
    live = only (λ i j. Alive j → Fits t [] 1 [] (λ _. 0) i j) (λ _. record {
      told = refl;
      seen = ([], refl, tt);
      mine = refl;
      low = omega arith;
      whole = λ _. refl;
      lead = λ _. record {
        given_is = refl;
        away_is = refl;
        idle = refl;
        rest = ([], refl, tt);
        count_is = refl;
        distinct = tt;
        low = λ n h. absurd h;
        own = ([], refl, tt);
        ends = tt;
        known = λ n some few. absurd (omega arith);
      };
      pass = λ z. absurd (z refl);
    });
  }
    where
      only : (K : ℕ → View E T → Type 0) → K 0 (new_lead t) → (i : ℕ) (j : View E T)
          → get_elem? (new_lead t ∷ []) i ≡ some j → K i j
      only K h zero j e = subst (K 0) (some-injective (new_lead t) j e) h
      only K h (suc i) j e = absurd (some-ne-none j (sym e))

  -- the value at the end, and the history that it stands for
  pub record Leaves (k : View E T) (xs : List (Held V E)) : Type 0 where
    pub value : V
    pub log : History E
    pub there : get_elem? xs 0 ≡ some (Home value)
    pub stands : Stands value log
    pub told : setting value ≡ t
    pub legal : Legal t log
    pub since : Since (Has k.away) k.front log

  -- nobody has the turn, so the value is at home
  pub leaves : (me : ℕ) (k : View E T) (ws : List ℕ) (xs : List (Held V E)) → k.setting ≡ Some t
      → k.number ≡ 0 → get_or ws 1 0 ≡ 0 → Final (Seen Rule me k) ws xs → Leaves k xs
  leaves me k ws xs told zeroth free z =
      let s = z.0 in
      let r = z.1.0 in
      let at = z.1.1 in
      let f = r.live me k at (inr (Some-ne-None t k.setting told)) in
      let b = f.lead zeroth in
      let C : Type 0 = Leaves k xs in
      ⊎_elim (λ (h : AtHome setting Legal Stands pinned t r.log s). let c : C = record {
        value = h.value;
        log = r.log;
        there = z.4 0 (Home h.value) (ap (λ (hs : List (maybe.Option (Held V E))). get_elem? hs 0)
            h.home);
        stands = h.stands;
        told = h.told;
        legal = r.legal;
        since = subst (λ (a : List ℕ). Since (Has a) k.front r.log) (sym b.away_is) b.rest;
      } in c)
      (λ (h : IsOut setting Legal Stands pinned s). let e : get_or s.words 1 0 ≡ 0 =
      ap (λ (w : List ℕ). get_or w 1 0) z.2 ∙ free in absurd (h.word e))
      r.turn

  pub record Closes (k : View E T) (ws : List ℕ) (xs : List (Held V E)) : Type 0 where
    pub value : V
    pub free : get_or ws 1 0 ≡ 0
    pub there : get_elem? xs 0 ≡ some (Home value)
    pub stands : Stands value k.front
    pub told : setting value ≡ t
    pub legal : Legal t k.front
    pub ended : AreEnded k.ended k.front
    pub all : EachNumber (HasEnd k.ended) k.front

  -- nobody is away, so the value is at home, and the lead has seen all
  pub closes : (me : ℕ) (k : View E T) (ws : List ℕ) (xs : List (Held V E)) → k.setting ≡ Some t
      → k.number ≡ 0 → length k.away ≡ 0 → Final (Seen Rule me k) ws xs → Closes k ws xs
  closes me k ws xs told zeroth nobody z =
      let s = z.0 in
      let r = z.1.0 in
      let at = z.1.1 in
      let f = r.live me k at (inr (Some-ne-None t k.setting told)) in
      let b = f.lead zeroth in
      let empty : r.away ≡ [] = sym b.away_is ∙ no_length k.away nobody in
      let all : r.log ≡ k.front = b.rest.1
      ∙ (ap (λ (q : History E). k.front ++ q) (none_left b.rest.0 r.away empty b.rest.2)
      ∙ append-nil k.front) in
      let C : Type 0 = Closes k ws xs in
      ⊎_elim (λ (h : AtHome setting Legal Stands pinned t r.log s). let c : C = record {
        value = h.value;
        free = ap (λ (w : List ℕ). get_or w 1 0) (sym z.2) ∙ h.word;
        there = z.4 0 (Home h.value) (ap (λ (hs : List (maybe.Option (Held V E))). get_elem? hs 0)
            h.home);
        stands = subst (Stands h.value) all h.stands;
        told = h.told;
        legal = subst (Legal t) all r.legal;
        ended = EachEnd-weaker (λ m front. (m < r.given) × ¬ (Has r.away m) × Grows m front k.front)
            (λ m front. Grows m front k.front) (λ m front h. h.2) k.ended b.ends;
        all = Each-weaker (λ m. (0 < m) × (m < r.given)) (HasEnd k.ended)
            (λ m h. ⊎_elim (λ (q : Has r.away m). absurd (subst (λ (a : List ℕ). Has a m) empty q))
            (λ q. q) (b.known m h.0 h.1)) k.front
            (subst (EachNumber (λ m. (0 < m) × (m < r.given))) all r.numbers);
      } in c)
      (λ (h : IsOut setting Legal Stands pinned s). let g =
      r.live h.seat h.known h.there (inl h.serves) in
      dite (ℕ_discrete h.known.number 0)
      (λ e. absurd (true≢false (sym h.serves ∙ (g.lead e).idle)))
      (λ ne. absurd (subst (λ (a : List ℕ). Has a h.known.number) empty (g.pass ne))))
      r.turn

  pub settles : (me slots : ℕ) (k : View E T) (held : List (ℕ × Held V E)) → k.setting ≡ Some t
      → k.number ≡ 0 → Allows Rule slots me (k, held) 0 (λ n. n)
      (settled (step slots 0 0 0 none) (k, held))
  settles me slots k held told zeroth s r deep at low =
      let b = (r.live me k at (inr (Some-ne-None t k.setting told))).lead zeroth in (
        k,
        keeps,
        tt,
        unmoved s 0 me k at r,
        (
          refl,
          b.own,
          EachEnd-weaker (λ m front. (m < r.given) × ¬ (Has r.away m)
              × Grows m front k.front) (λ m front. Grows m front k.front) (λ m front h. h.2) k.ended
              b.ends,
          b.count_is ∙ ap length (sym b.away_is),
          Each-first (λ q. (0 < q) × (q < k.given)) k.front b.rest.0
              (subst (λ (x : ℕ × History E). EachNumber (λ q. (0 < q) × (q < x.0)) x.1)
              (λ i. (sym b.given_is i, b.rest.1 i)) r.numbers),
        ),
      )

  -- the same, of a seat's own pair
  turn_on : (st : Step (Held V E)) (f : ℕ → ℕ) (me slots : ℕ) (m : Me (Held V E) (View E T))
      → ((n : ℕ) → f n ≢ 0) → m.0.setting ≡ Some t → m.0.number ≢ 0 → m.1 ≡ []
      → Allows Rule slots me m 1 f (taken setting Legal Stands pinned st m)
  turn_on st f me slots m busy told pass bare =
      let P : List (ℕ × Held V E) → Type 0 =
      λ held. Allows Rule slots me (m.0, held) 1 f
      (taken setting Legal Stands pinned st (m.0, held)) in
      subst P (sym bare) (takes_turn st f me slots m.0 busy told pass)

  -- 1 is put in where the word is 0
  pub take_on : (me slots : ℕ) (m : Me (Held V E) (View E T)) → m.0.setting ≡ Some t
      → m.0.number ≢ 0 → m.1 ≡ [] → Allows Rule slots me m 1 (λ n. either (eqb n 0) 1 n)
      (taken setting Legal Stands pinned (step slots 1 0 1 none) m)
  take_on me slots m told pass bare =
      turn_on (step slots 1 0 1 none) (λ n. either (eqb n 0) 1 n) me slots m
      (λ n. put_at_0 n 1 (λ z. omega arith)) told pass bare

  -- 2 is put in, whatever the word is
  pub claim_on : (me slots : ℕ) (m : Me (Held V E) (View E T)) → m.0.setting ≡ Some t
      → m.0.number ≢ 0 → m.1 ≡ [] → Allows Rule slots me m 1 (λ _. 2)
      (taken setting Legal Stands pinned (step slots 1 2 0 none) m)
  claim_on me slots m told pass bare =
      turn_on (step slots 1 2 0 none) (λ _. 2) me slots m (λ n z. omega arith) told pass bare

  pub release_on : (me slots : ℕ) (m : Me (Held V E) (View E T)) (x : V) → m.1 ≡ (0, Home x) ∷ []
      → m.0.setting ≡ Some t → m.0.served ≡ true → setting x ≡ t → Stands x m.0.front
      → Allows Rule slots me m 1 (λ _. 0) (released (step slots 1 0 0 none) m)
  release_on me slots m x is told serves of_t stands =
      let P : List (ℕ × Held V E) → Type 0 =
      λ held. Allows Rule slots me (m.0, held) 1 (λ _. 0)
      (released (step slots 1 0 0 none) (m.0, held)) in
      subst P (sym is) (releases me slots m.0 x told serves of_t stands)

  pub commit_on : (me slots n : ℕ) (m : Me (Held V E) (View E T)) (e : E)
      → m.1 ≡ (0, Committing e) ∷ [] → m.0.setting ≡ Some t → m.0.served ≡ true → m.0.number ≢ 0
      → n ≡ length m.0.front + 1 → Legal t (m.0.front ++ (m.0.number, e) ∷ [])
      → Covered pinned t m.0.front (m.0.front ++ (m.0.number, e) ∷ []) m.0.filled
      → Allows Rule slots me m 0 (λ _. n) (λ _. committed (step slots 0 n 0 none) m n)
  commit_on me slots n m e is told serves pass long may covered =
      let P : List (ℕ × Held V E) → Type 0 =
      λ held. Allows Rule slots me (m.0, held) 0 (λ _. n)
      (λ _. committed (step slots 0 n 0 none) (m.0, held) n) in
      subst P (sym is) (commits me slots n m.0 e told serves pass long may covered)

  pub looks_on : (me slots : ℕ) (m : Me (Held V E) (View E T)) → m.0.setting ≡ Some t
      → m.0.served ≡ true → Allows Rule slots me m 0 (λ n. n) (looked (step slots 0 0 0 none) m)
  looks_on me slots m told serves = looks me slots m.0 m.1 told serves

  pub begins : (ws : List ℕ) (xs : List (Held V E)) (x : V) → ws ≡ replicate (count + 2) 0
      → xs ≡ Home x ∷ [] → setting x ≡ t → Stands x [] → Legal t []
      → ((n p : ℕ) → pinned t [] n p ≡ None) → Rule (opening ws xs (new_lead t))
  begins ws xs x words slots told stands legal unpinned =
      subst (λ (z : List ℕ × List (Held V E)). Rule (opening z.0 z.1 (new_lead t)))
      (λ i. (sym words i, sym slots i))
      (starts (replicate (count + 2) 0) x (length-replicate (count + 2) 0)
      (get_or-replicate (count + 2) 0 0 0 (omega arith))
      (get_or-replicate (count + 2) 1 0 0 (omega arith)) told stands legal unpinned)

  -- a side word that nobody has pinned
  pub fills_word : (me slots p x : ℕ) (k : View E T) (held : List (ℕ × Held V E))
      → k.setting ≡ Some t → k.served ≡ true → p < count → ((n : ℕ) → pinned t k.front n p ≡ None)
      → Allows Rule slots me (k, held) (2 + p) (λ _. x)
      (λ _. wrote (step slots (2 + p) x 0 none) (k, held) x)
  fills_word me slots p x k held told serves inside free s r deep at low =
      let f = r.live me k at (inl serves) in
      let w : View E T = record k { filled = (p, x) ∷ k.filled } in
      let ws : List ℕ = set s.words (2 + p) x in
      let P : Type 0 = Rule record { words = ws; homes = s.homes; views = set s.views me w } in
      let nobody : (n : ℕ) → pinned t r.log n p ≡ None =
      λ n. ap (λ (l : History E). pinned t l n p) (sym (f.whole serves)) ∙ free n in
      let beside : (q y : ℕ) → q ≢ p → get_elem? s.words (2 + q) ≡ some y
      → get_elem? ws (2 + q) ≡ some y =
      λ q y ne e. set_else s.words (2 + p) (2 + q) x (λ z. ne (omega arith)) ∙ e in
      let kept : IsOut setting Legal Stands pinned s
      → P = λ h. let only : me ≡ h.seat = h.alone me k at serves in record {
        log = r.log;
        given = r.given;
        away = r.away;
        seat_of = r.seat_of;
        wide = length-set s.words (2 + p) x ∙ r.wide;
        turn = inr record {
          word = λ z.
              h.word (sym (get_or-set_other s.words (2 + p) 1 x 0 (λ y. omega arith)) ∙ z);
          home = h.home;
          seat = me;
          known = w;
          there = set_here s.views me w (index_below s.views me k at);
          serves = serves;
          alone = views_step s me w (λ i j. j.served ≡ true → i ≡ me) (λ _. refl)
              (λ i j other there y. h.alone i j there y ∙ sym only);
        };
        long = get_or-set_other s.words (2 + p) 0 x 0 (λ z. omega arith) ∙ r.long;
        legal = r.legal;
        numbers = r.numbers;
        some_given = r.some_given;
        pins = λ n q y pin. beside q y
            (λ z. Some-ne-None y (pinned t r.log n q) pin
            (ap (pinned t r.log n) z ∙ nobody n)) (r.pins n q y pin);
        fills = views_step s me w (λ i j. Filled r.log ws j)
            (λ _ q y e. fill_cases p q x y k.filled e
            (λ z same. (
              subst (λ (v : ℕ × ℕ). get_elem? ws (2 + v.0) ≡ some v.1)
                  (λ i. (z i, same i))
                  (set_here s.words (2 + p) x (let wide = r.wide in omega arith)),
              subst
                  (λ (v : ℕ). (n : ℕ) → pinned t r.log n v ≡ None) z nobody,
            ))
            (λ ne old. let b = r.fills me k at serves q y old in
            (beside q y ne b.0, b.1)))
            (λ i j other there y. absurd (other (h.alone i j there y ∙ sym only)));
        live = views_step s me w
            (λ i j. (j.served ≡ true) ⊎ (j.setting ≢ None)
            → Fits t r.log r.given r.away r.seat_of i j)
            (λ _. record {
              told = f.told;
              seen = f.seen;
              mine = f.mine;
              low = f.low;
              whole = f.whole;
              lead = λ z. absurd (true≢false (sym serves ∙ (f.lead z).idle));
              pass = f.pass;
            })
            (λ i j other there. r.live i j there);
      } in (
        w,
        keeps,
        tt,
        ⊎_elim (λ (h : AtHome setting Legal Stands pinned t r.log s).
            absurd (true≢false (sym serves ∙ h.idle me k at))) kept r.turn,
        λ q is. let same : p ≡ q =
            omega arith in λ i. (record k { filled = (same i, x) ∷ k.filled }, held),
      )

  -- a word that the seat's number has pinned
  pub reads_word : ((front rest : History E) (n p : ℕ) → 0 < n → Legal t (front ++ rest)
      → EachNumber (λ m. m ≢ n) rest → pinned t (front ++ rest) n p ≡ pinned t front n p)
      → (me slots p : ℕ) (k : View E T) (held : List (ℕ × Held V E)) → k.setting ≡ Some t
      → 0 < k.number → Allows Rule slots me (k, held) (2 + p) (λ n. n)
      (saw pinned (step slots (2 + p) 0 0 none) (k, held))
  reads_word stays me slots p k held told pass s r deep at low =
      let f = r.live me k at (inr (Some-ne-None t k.setting told)) in (
        k,
        keeps,
        tt,
        unmoved s (2 + p) me k at r,
        (
          refl,
          λ u q x is word pin.
              let e : t ≡ u = Some-injective t u (sym told ∙ is) in
              let same : p ≡ q = omega arith in
              let now : pinned t r.log k.number p ≡ Some x =
              ap (λ (l : History E). pinned t l k.number p) f.seen.1
              ∙ (stays k.front f.seen.0 k.number p pass (subst (Legal t) f.seen.1 r.legal)
              f.seen.2 ∙ (λ i. pinned (e i) k.front k.number (same i)) ∙ pin) in
              get_is s.words (2 + p) x (r.pins k.number p x now),
        ),
      )
