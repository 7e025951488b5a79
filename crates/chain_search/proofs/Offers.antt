-- What holds while the edges of a row are offered.
use Rattle.std.proofs.Common.{◌≡◌, ℕ, ◌+◌, ◌<◌, List, length, get_or, take, set, Option, Some, subst, inr, arith}
use Rattle.std.specs.List.{Contains}
use Rattle.module_graph.specs.declared.edge.Edge.{Edge}
use Rattle.chain_search.specs.declared.step.Step.{Step}
use Rattle.chain_search.specs.declared.frontier.Open.{Open}
use Rattle.chain_search.specs.Steps.{step_at, step_by, NoGreater, HasAtMost, Relaxes}
use Rattle.chain_search.specs.Frontier.{AreQueued, entry}
use Rattle.chain_search.proofs.Relaxing.{relax_more, kept_more}
use Rattle.chain_search.proofs.Frontiers.{keeps_more}

-- what holds after so many edges of a row
pub record Offering (old mid : List (Option Step)) (before during : List Open) (row : List Edge) (cost len i start steps : ℕ) : Type 0 where
  pub relaxed : Relaxes old mid (take i row) cost len
  pub queued : AreQueued old mid before during
  pub counted : steps ≡ start + i

-- an edge whose offer was no better
pub offering_kept : (old mid : List (Option Step)) (before during : List Open) (row : List Edge) (cost len i start steps later : ℕ) (d : Edge) → i < length row
    → Offering old mid before during row cost len i start steps → HasAtMost (step_at mid (get_or row i d).source) (step_by (get_or row i d) cost len) → later ≡ steps + 1
    → Offering old mid before during row cost len (i + 1) start later
offering_kept old mid before during row cost len i start steps later d lt o has n = record {
  relaxed = kept_more old mid row cost len i d lt o.relaxed has;
  queued = o.queued;
  counted = omega (arith, n, o.counted);
}

no_greater_same : (b c : Step) → b ≡ c → NoGreater b c
no_greater_same b c e = subst (NoGreater b) e (record { no_dearer = omega arith; no_longer = λ _. omega arith; no_later = λ _ _. omega arith })

-- an edge whose offer was taken
pub offering_taken : (old mid : List (Option Step)) (before during after : List Open) (row : List Edge) (cost len i start steps later : ℕ) (d : Edge) (b : Step) → i < length row → (get_or row i d).source < length old
    → Offering old mid before during row cost len i start steps → b ≡ step_by (get_or row i d) cost len → ((s : Step) → step_at mid (get_or row i d).source ≡ Some s → NoGreater b s) → later ≡ steps + 1
    → Contains after (entry (get_or row i d).source b) → ((k : Open) → Contains during k → Contains after k)
    → Offering old (set mid (get_or row i d).source (Some b)) before after row cost len (i + 1) start later
offering_taken old mid before during after row cost len i start steps later d b lt fit o is best n here all = record {
  relaxed = relax_more old mid row cost len i d b lt fit o.relaxed (no_greater_same b (step_by (get_or row i d) cost len) is) best (inr is);
  queued = keeps_more old mid before during after (get_or row i d).source b (omega (arith, fit, o.relaxed.same)) o.queued here all;
  counted = omega (arith, n, o.counted);
}
