use Rattle.std.proofs.Common.{length, ◌-◌, ◌≡◌, ◌≢◌, ℕ, ◌<◌, ◌≤◌}
use Rattle.history_core.specs.Rule.{last_fill}
use Rattle.history_core.specs.Tokens.{number, front, filled, IsTurnOf}
use Rattle.page_store.specs.Holdings.{AreFilled, side}
use Rattle.page_store.proofs.filling.put_table.Given as goal

-- the pages so far hold their words, and what lies in none of the pages what it held
abbrev pub invariant-loop-page : goal.invariant-loop-page
invariant-loop-page g l =
    IsTurnOf l.initial.turn.hall.now l.turn
    × (l.turn.pass.ghost_name ≡ l.initial.turn.pass.ghost_name)
    × (l.turn.hall ≡ l.initial.turn.hall) × (l.turn.value ≡ l.initial.turn.value)
    × (number l.turn.pass.now ≡ number l.initial.turn.pass.now)
    × (front l.turn.pass.now ≡ front l.initial.turn.pass.now)
    × (l.page ≤ l.count)
    × AreFilled l.table l.pages l.page (filled l.turn.pass.now)
    × ((place : ℕ) → ((k j : ℕ) → k < length l.pages → j < 256 → place ≢ side l.pages k j)
    → last_fill place (filled l.turn.pass.now)
    ≡ last_fill place (filled l.initial.turn.pass.now))

abbrev pub decreases-loop-page : goal.decreases-loop-page
decreases-loop-page g l = l.count - l.page
