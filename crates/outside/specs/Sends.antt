-- What a sink got.
use Rattle.std.specs.Prelude.{◌≡◌, ℕ, List, ◌++◌, take, Option, Some, None, IfSome, IsSomeAnd}
use Rattle.outside.specs.declared.sinks.Sent.{Sent}
use Rattle.outside.specs.declared.sinks.Sent.TheVariants.{Done, Failed}
use Rattle.outside.specs.Faults.{raised}

-- what a sink got after a piece was put: the piece where that was done, and some first bytes of it
-- where it failed. A sink that tells nothing tells nothing after it, and one that is done may stop
-- telling
abbrev pub Sends : Option (List ℕ) → Option (List ℕ) → List ℕ → Sent → Type 0
Sends None new piece sent = new ≡ None
Sends (Some old) new piece Done = IfSome new (λ got. got ≡ old ++ piece)
Sends (Some old) new piece Failed = IsSomeAnd new (λ got. (n : ℕ) × (got ≡ old ++ take n piece))

-- the count of faults after a piece was put: one that failed raises it, and no other does
abbrev pub count_after_send : Sent → ℕ → ℕ
count_after_send Failed count = raised count
count_after_send Done count = count
