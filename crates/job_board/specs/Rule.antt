-- What holds of the queue and of all drawers, whatever they do. No public clause cites it.
use Rattle.std.specs.Prelude.{◌≡◌, ℕ, ◌+◌, ◌≤◌, Bool, true, false, ◌||◌, ◌-◌, List, [], ◌∷◌, ◌++◌, if◌then◌else◌, length}
use mathlib.Core.Option.{some}
use lib.ListN.{get_elem?}
use Rattle.job_board.specs.declared.hand.Ticket.{Ticket}
use Rattle.job_board.specs.declared.hand.Ticket.TheVariants.{Number, Stop}
use Rattle.job_board.specs.declared.hand.Hand.{Hand}
use Rattle.job_board.specs.Numbers.{weight, AreSame}

-- The numbers among tickets.
abbrev pub numbers : List Ticket → List ℕ
numbers [] = []
numbers (Number n ∷ ts) = n ∷ numbers ts
numbers (Stop ∷ ts) = numbers ts

-- All tickets are stops.
abbrev pub AllStops : List Ticket → Type 0
AllStops [] = Unit {0}
AllStops (Number n ∷ ts) = ⊥
AllStops (Stop ∷ ts) = AllStops ts

-- No ticket is a stop.
abbrev pub AllNumbers : List Ticket → Type 0
AllNumbers [] = Unit {0}
AllNumbers (Number n ∷ ts) = AllNumbers ts
AllNumbers (Stop ∷ ts) = ⊥

-- Behind a stop there are stops alone.
abbrev pub Ends : List Ticket → Type 0
Ends [] = Unit {0}
Ends (Number n ∷ ts) = Ends ts
Ends (Stop ∷ ts) = AllStops ts

-- The sum of what is counted of each drawer.
abbrev pub total : (Hand → ℕ) → List Hand → ℕ
total f [] = 0
total f (v ∷ vs) = f v + total f vs

-- A fact counts as one.
abbrev pub one_if : Bool → ℕ
one_if b = if b then 1 else 0

-- How many drawers are out, and how many are drained.
abbrev pub outs : List Hand → ℕ
outs vs = total (λ v. one_if v.out) vs

abbrev pub dries : List Hand → ℕ
dries vs = total (λ v. one_if v.drained) vs

-- What a drawer is judged by: who leads, all numbers, the tickets, how many are out, and how many drained.
pub record Scene : Type 0 where
  pub lead : ℕ
  pub all : List ℕ
  pub items : List Ticket
  pub outs : ℕ
  pub dries : ℕ

-- What is known of the drawer of a port.
pub record IsHand (s : Scene) (port : ℕ) (v : Hand) : Type 0 where
  pub leads : v.leads ≡ true → (port ≡ s.lead) × (v.all ≡ s.all) × (v.away ≡ s.outs)
  pub fresh : v.fresh ≡ true → (v.leads ≡ true) × (s.outs ≡ 0) × (s.dries ≡ 0) × AllNumbers s.items
  pub idle : v.leads ≡ false → v.out ≡ false → v.drawn ≡ []
  pub drained : v.drained ≡ true → AllStops s.items

-- So it is of the drawers of all ports.
abbrev pub AllPorts : (ℕ → Hand → Type 0) → List Hand → Type 0
AllPorts F vs = (port : ℕ) (v : Hand) → get_elem? vs port ≡ some v → F port v

abbrev pub scene : ℕ → List ℕ → List Ticket → List Hand → Scene
scene lead all items views =
    record { lead = lead; all = all; items = items; outs = outs views; dries = dries views }

-- All numbers are those that were drawn and those that stand in the queue, each once.
pub record IsFair (items : List Ticket) (views : List Hand) : Type 0 where
  pub lead : ℕ
  pub all : List ℕ
  pub counted : (of : ℕ → ℕ)
      → weight of all ≡ total (λ v. weight of v.drawn) views + weight of (numbers items)
  pub ends : Ends items
  pub hands : AllPorts (IsHand (scene lead all items views)) views

-- The leader before it has put numbers in, and a drawer that has done nothing.
abbrev pub first : Hand
first = record { leads = true; fresh = true; out = false; drained = false; away = 0; all = []; drawn = [] }

abbrev pub beginner : Hand
beginner = record { leads = false; fresh = false; out = true; drained = false; away = 0; all = []; drawn = [] }

abbrev pub spent : Hand
spent = record { leads = false; fresh = false; out = false; drained = false; away = 0; all = []; drawn = [] }

-- A drawer may act where it leads or is out.
abbrev pub may_act : Hand → Bool
may_act v = v.leads || v.out

-- A leader put a number in.
abbrev pub with_number : Hand → ℕ → Hand
with_number v n = record v { all = v.all ++ n ∷ [] }

-- A drawer put a stop in.
abbrev pub with_stop : Hand → Hand
with_stop v = record v { fresh = false }

-- A ticket was put in: a number by a leader, or a stop.
abbrev pub IsPut : Hand → Ticket → Hand → Type 0
IsPut v (Number n) w = w ≡ with_number v n
IsPut v Stop w = w ≡ with_stop v

-- A drawer took a ticket out: a number, which it then has drawn, or a stop, behind which no number stands.
abbrev pub with_ticket : Hand → Ticket → Hand
with_ticket v (Number n) = record v { fresh = false; drawn = v.drawn ++ n ∷ [] }
with_ticket v Stop = record v { fresh = false; drained = true }

-- A drained drawer takes no number out.
abbrev pub IsTaken : Hand → Ticket → Hand → Type 0
IsTaken v (Number n) w = (w ≡ with_ticket v (Number n)) × (v.drained ≡ false)
IsTaken v Stop w = w ≡ with_ticket v Stop

-- A leader split a drawer.
abbrev pub with_split : Hand → Hand
with_split v = record v { fresh = false; away = v.away + 1 }

-- A leader took a drawer in.
abbrev pub with_drawer : Hand → Hand → Hand
with_drawer v w = record v {
  fresh = false;
  drained = v.drained || w.drained;
  away = v.away - 1;
  drawn = v.drawn ++ w.drawn;
}

-- What a leader knows at any moment: it has drawn no more numbers than there are, and all of them where nobody is
-- out and none is left.
pub record Knows (v : Hand) (items : List Ticket) : Type 0 where
  pub few : v.leads ≡ true → length v.drawn ≤ length v.all
  pub held : v.fresh ≡ true → length items ≤ length v.all
  pub done : v.leads ≡ true → v.away ≡ 0 → v.drained ≡ true → AreSame v.all v.drawn
