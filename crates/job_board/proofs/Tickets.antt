-- Tickets, their numbers and their weights.
use Rattle.std.proofs.Common.{◌≡◌, ℕ, ◌+◌, List, [], ◌∷◌, ◌++◌, length, refl, ap, arith}
use Rattle.job_board.specs.declared.hand.Ticket.{Ticket}
use Rattle.job_board.specs.declared.hand.Ticket.TheVariants.{Number, Stop}
use Rattle.job_board.specs.Numbers.{weight}
use Rattle.job_board.specs.Rule.{numbers, AllStops, AllNumbers, Ends}

pub weight-append : (of : ℕ → ℕ) (xs ys : List ℕ) → weight of (xs ++ ys) ≡ weight of xs + weight of ys
weight-append of [] ys = omega arith
weight-append of (x ∷ xs) ys =
    let e : weight of (xs ++ ys) ≡ weight of xs + weight of ys = weight-append of xs ys in omega arith

-- Where each number weighs 1, the weight is the length.
pub weight-ones : (xs : List ℕ) → weight (λ n. 1) xs ≡ length xs
weight-ones [] = refl
weight-ones (x ∷ xs) = let e : weight (λ n. 1) xs ≡ length xs = weight-ones xs in omega arith

pub numbers-append : (ts us : List Ticket) → numbers (ts ++ us) ≡ numbers ts ++ numbers us
numbers-append [] us = refl
numbers-append (Number n ∷ ts) us = ap (λ ns. n ∷ ns) (numbers-append ts us)
numbers-append (Stop ∷ ts) us = numbers-append ts us

-- Stops have no number.
pub numbers-stops : (ts : List Ticket) → AllStops ts → numbers ts ≡ []
numbers-stops [] stops = refl
numbers-stops (Number n ∷ ts) stops = absurd stops
numbers-stops (Stop ∷ ts) stops = numbers-stops ts stops

-- Without stops each ticket has a number.
pub length-numbers : (ts : List Ticket) → AllNumbers ts → length ts ≡ length (numbers ts)
length-numbers [] all = refl
length-numbers (Number n ∷ ts) all =
    let e : length ts ≡ length (numbers ts) = length-numbers ts all in omega arith
length-numbers (Stop ∷ ts) all = absurd all

pub stops-snoc : (ts : List Ticket) → AllStops ts → AllStops (ts ++ Stop ∷ [])
stops-snoc [] stops = tt
stops-snoc (Number n ∷ ts) stops = absurd stops
stops-snoc (Stop ∷ ts) stops = stops-snoc ts stops

pub AllNumbers-snoc : (ts : List Ticket) (n : ℕ) → AllNumbers ts → AllNumbers (ts ++ Number n ∷ [])
AllNumbers-snoc [] n all = tt
AllNumbers-snoc (Number m ∷ ts) n all = AllNumbers-snoc ts n all
AllNumbers-snoc (Stop ∷ ts) n all = absurd all

-- A stop may follow any tickets.
pub Ends-stop : (ts : List Ticket) → Ends ts → Ends (ts ++ Stop ∷ [])
Ends-stop [] ends = tt
Ends-stop (Number n ∷ ts) ends = Ends-stop ts ends
Ends-stop (Stop ∷ ts) ends = stops-snoc ts ends

-- A number may follow numbers.
pub Ends-number : (ts : List Ticket) (n : ℕ) → AllNumbers ts → Ends (ts ++ Number n ∷ [])
Ends-number [] n all = tt
Ends-number (Number m ∷ ts) n all = Ends-number ts n all
Ends-number (Stop ∷ ts) n all = absurd all

pub Ends-stops : (ts : List Ticket) → AllStops ts → Ends ts
Ends-stops [] stops = tt
Ends-stops (Number n ∷ ts) stops = absurd stops
Ends-stops (Stop ∷ ts) stops = stops
