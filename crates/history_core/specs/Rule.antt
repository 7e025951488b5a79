-- The rule of a hall's table, and what each kind of step tells.
--
-- Word 0 is the length of the history, word 1 is 0 exactly while no seat has the turn, and the word
-- 2 + p is the side word of the place p. The one slot is for the value.
use Rattle.std.specs.Prelude.{◌≡◌, ◌≢◌, ◌⊎◌, ℕ, ◌+◌, ◌-◌, ◌<◌, ◌==◌, if◌then◌else◌, true, false}
use Rattle.std.specs.Prelude.{List, [], ◌∷◌, ◌++◌, length, slice_index, Option, Some, None}
use mathlib.Core.Option.{none, some}
use lib.ListN.{get_elem?}
use Rattle.atomic_table.specs.Table.{State, Me, Step}
use Rattle.history_core.specs.History.{History, EachNumber, Since, Grows, Has, Distinct, without}
use Rattle.history_core.specs.History.{longer, EachEnd, HasEnd, AreEnded}
use Rattle.history_core.specs.declared.rule.Held.{Held}
use Rattle.history_core.specs.declared.rule.Held.TheVariants.{Home, Committing}
use Rattle.history_core.specs.declared.rule.View.{View}

module _ {E T : Type 0} where
  -- What the lead knows at the start.
  abbrev pub new_lead : T → View E T
  new_lead t = record {
    setting = Some t;
    number = 0;
    served = false;
    front = [];
    filled = [];
    given = 1;
    away = [];
    count = 0;
    was_front = [];
    was_away = [];
    ended = [];
  }

  -- What a pass knows that was joined: nothing.
  abbrev pub spent : View E T
  spent = record {
    setting = None;
    number = 0;
    served = false;
    front = [];
    filled = [];
    given = 0;
    away = [];
    count = 0;
    was_front = [];
    was_away = [];
    ended = [];
  }

  -- What the lead knows after a split.
  abbrev pub after_split : View E T → View E T
  after_split k = record k { given = k.given + 1; away = k.given ∷ k.away; count = k.count + 1 }

  -- What the pass knows that a lead splits off.
  abbrev pub new_pass : View E T → View E T
  new_pass k = record k { number = k.given; given = 0; away = [] }

  -- What the lead knows after the join of a pass.
  abbrev pub after_join : View E T → View E T → View E T
  after_join k w = record k {
    front = longer k.front w.front;
    away = without w.number k.away;
    count = k.count - 1;
    was_front = k.front;
    was_away = k.away;
    ended = (w.number, w.front) ∷ k.ended;
  }

-- The word that was written last at the place, of a list with the last first.
abbrev pub last_fill : ℕ → List (ℕ × ℕ) → Option ℕ
last_fill p [] = None
last_fill p (w ∷ ws) = if w.0 == p then Some w.1 else last_fill p ws

-- What the lead knows, of the history, the count of numbers given, and the numbers away.
pub record Leads {E T : Type 0} (log : History E) (given : ℕ) (away : List ℕ) (k : View E T)
    : Type 0 where
  pub given_is : k.given ≡ given
  pub away_is : k.away ≡ away
  pub idle : k.served ≡ false
  pub rest : Since (Has away) k.front log
  pub count_is : k.count ≡ length away
  pub distinct : Distinct away
  pub low : (n : ℕ) → Has away n → (0 < n) × (n < given)
  pub own : Since (Has k.was_away) k.was_front k.front
  pub ends : EachEnd (λ n front. (n < given) × ¬ (Has away n) × Grows n front k.front) k.ended
  pub known : (n : ℕ) → 0 < n → n < given → Has away n ⊎ HasEnd k.ended n

-- A view that is not spent: its front begins the history, which went on with others' entries; its
-- number is its seat's alone, and is 0 of the lead and else away; with the turn its front is the
-- whole history.
pub record Fits {E T : Type 0} (t : T) (log : History E) (given : ℕ) (away : List ℕ)
    (seat_of : ℕ → ℕ) (seat : ℕ) (k : View E T) : Type 0 where
  pub told : k.setting ≡ Some t
  pub seen : Grows k.number k.front log
  pub mine : seat_of k.number ≡ seat
  pub low : k.number < given
  pub whole : k.served ≡ true → k.front ≡ log
  pub lead : k.number ≡ 0 → Leads log given away k
  pub pass : k.number ≢ 0 → Has away k.number

module _ {V E T : Type 0} (setting : V → T) (Legal : T → History E → Type 0)
    (Stands : V → History E → Type 0) (pinned : T → History E → ℕ → ℕ → Option ℕ) where
  -- No seat has the turn, and the value is at home and stands for the history.
  pub record AtHome (t : T) (log : History E) (s : State (Held V E) (View E T)) : Type 0 where
    pub word : slice_index s.words 1 ≡ 0
    pub value : V
    pub home : s.homes ≡ some (Home value) ∷ []
    pub stands : Stands value log
    pub told : setting value ≡ t
    pub idle : (i : ℕ) (k : View E T) → get_elem? s.views i ≡ some k → k.served ≡ false

  -- One seat alone has the turn, and the slot.
  pub record IsOut (s : State (Held V E) (View E T)) : Type 0 where
    pub word : slice_index s.words 1 ≢ 0
    pub home : s.homes ≡ none ∷ []
    pub seat : ℕ
    pub known : View E T
    pub there : get_elem? s.views seat ≡ some known
    pub serves : known.served ≡ true
    pub alone : (i : ℕ) (k : View E T) →
        get_elem? s.views i ≡ some k → k.served ≡ true → i ≡ seat

  -- The rule: there is a history whose length word 0 is, and which is legal; the turn is free or
  -- one seat has it; each word that a number has pinned stands; the words that the served seat
  -- wrote
  -- stand, in places that no number has pinned; and each view fits.
  pub record Kept (count : ℕ) (t : T) (s : State (Held V E) (View E T)) : Type 0 where
    pub log : History E
    pub given : ℕ
    pub away : List ℕ
    pub seat_of : ℕ → ℕ
    pub wide : length s.words ≡ count + 2
    pub turn : AtHome t log s ⊎ IsOut s
    pub long : slice_index s.words 0 ≡ length log
    pub legal : Legal t log
    pub numbers : EachNumber (λ n. (0 < n) × (n < given)) log
    pub some_given : 0 < given
    pub pins : (n p x : ℕ) → pinned t log n p ≡ Some x → get_elem? s.words (2 + p) ≡ some x
    pub fills : (i : ℕ) (k : View E T) → get_elem? s.views i ≡ some k → k.served ≡ true →
        (p x : ℕ) → last_fill p k.filled ≡ Some x →
        (get_elem? s.words (2 + p) ≡ some x) × ((n : ℕ) → pinned t log n p ≡ None)
    pub live : (i : ℕ) (k : View E T) → get_elem? s.views i ≡ some k →
        (k.served ≡ true) ⊎ (k.setting ≢ None) → Fits t log given away seat_of i k

  -- The seat got the turn: it has seen the whole history, and its slot has the value, which stands
  -- for it.
  pub record Takes (t : T) (k : View E T) (m' : Me (Held V E) (View E T)) : Type 0 where
    pub value : V
    pub log : History E
    pub now : m' ≡ (record k { served = true; front = log; filled = [] }, (0, Home value) ∷ [])
    pub grows : Grows k.number k.front log
    pub stands : Stands value log
    pub told : setting value ≡ t
    pub legal : Legal t log

  -- Where the turn was free, the seat got it; where it wasn't, nothing changed.
  abbrev pub taken : Step (Held V E) → Me (Held V E) (View E T) → ℕ
      → Me (Held V E) (View E T) → Type 0
  taken st m n m' = (t : T) → m.0.setting ≡ Some t → m.1 ≡ []
      → (n ≡ 0 → Takes t m.0 m') × (n ≢ 0 → m' ≡ m)

-- The word is the length of the seat's front.
abbrev pub looked : {V E T : Type 0} → Step (Held V E) → Me (Held V E) (View E T) → ℕ
    → Me (Held V E) (View E T) → Type 0
looked st m n m' = (n ≡ length m.0.front) × (m' ≡ m)

-- The entry in the slot has come to the history.
abbrev pub committed : {V E T : Type 0} → Step (Held V E) → Me (Held V E) (View E T) → ℕ
    → Me (Held V E) (View E T) → Type 0
committed {V} {E} st m n m' = (e : E) → m.1 ≡ (0, Committing e) ∷ []
    → m' ≡ (record m.0 { front = m.0.front ++ (m.0.number, e) ∷ []; filled = [] }, m.1)

-- The seat has the turn no more, and gave its slot back.
abbrev pub released : {V E T : Type 0} → Step (Held V E) → Me (Held V E) (View E T) → ℕ
    → Me (Held V E) (View E T) → Type 0
released st m n m' = m' ≡ (record m.0 { served = false; filled = [] }, [])

-- What the lead learns after a join: what came to its front since is of numbers that were away, no
-- joined number got an entry since its join, and each number of its front was given.
abbrev pub settled : {V E T : Type 0} → Step (Held V E) → Me (Held V E) (View E T) → ℕ
    → Me (Held V E) (View E T) → Type 0
settled st m n m' = (m' ≡ m)
    × Since (Has m.0.was_away) m.0.was_front m.0.front
    × AreEnded m.0.ended m.0.front
    × (m.0.count ≡ length m.0.away)
    × EachNumber (λ k. (0 < k) × (k < m.0.given)) m.0.front

-- A side word was written.
abbrev pub wrote : {V E T : Type 0} → Step (Held V E) → Me (Held V E) (View E T) → ℕ
    → Me (Held V E) (View E T) → Type 0
wrote st m n m' = (p : ℕ) → st.word ≡ 2 + p
    → m' ≡ (record m.0 { filled = (p, n) ∷ m.0.filled }, m.1)

-- The word is the one that the seat's number has pinned after its front.
abbrev pub saw : {V E T : Type 0} → (T → History E → ℕ → ℕ → Option ℕ) → Step (Held V E)
    → Me (Held V E) (View E T) → ℕ → Me (Held V E) (View E T) → Type 0
saw {V} {E} {T} pinned st m n m' = (m' ≡ m)
    × ((t : T) (p x : ℕ) → m.0.setting ≡ Some t → st.word ≡ 2 + p
    → pinned t m.0.front m.0.number p ≡ Some x → n ≡ x)

-- Each word that is pinned after the longer history was pinned before, or was written in this turn.
abbrev pub Covered : {E T : Type 0} → (T → History E → ℕ → ℕ → Option ℕ) → T → History E
    → History E → List (ℕ × ℕ) → Type 0
Covered pinned t log log' filled = (n p x : ℕ) → pinned t log' n p ≡ Some x
    → ((m : ℕ) × (pinned t log m p ≡ Some x)) ⊎ (last_fill p filled ≡ Some x)
