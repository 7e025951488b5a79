-- How a session stands for its stream as pieces come.
use Rattle.std.proofs.Common.{◌≡◌, ◌≢◌, ℕ, ◌+◌, List, [], ◌∷◌, ◌++◌, length, take, drop, Bool, true, false, refl, ap, sym, ◌∙◌, subst, arith, append_assoc, length-append}
use Rattle.std.proofs.lemmas.List.{take-append-drop, length-take-le, drop-append-le, drop-drop}
use Rattle.code_pairs.specs.Tables.{Tables}
use Rattle.step_unicode.specs.declared.set.State.{State}
use Rattle.unit_relations.specs.Calls.{Outcome, Ends}
use Rattle.unit_relations.specs.Laws.{GoesOn, StaysIllegal, HasOneMeaning}
use Rattle.unit_relations.specs.Meaning.{Means, behind}
use Rattle.unit_relations.specs.declared.states.States.{States}
use Rattle.unit_relations.specs.declared.verdict.Verdict.{Verdict}
use Rattle.unit_relations.specs.declared.verdict.Verdict.TheVariants.{Done, Full, Incomplete, Illegal}
use Rattle.chain_steps.specs.declared.recipe.Recipe.{Recipe}
use Rattle.chain_steps.specs.Machine.{Machine}
use Rattle.chain_steps.specs.Sets.{AreWellFormed}
use Rattle.chain_steps.specs.Chains.{chain, initial}
use Rattle.step_buffers.specs.Held.{Held}
use Rattle.step_buffers.specs.Stands.{StandsFor, TellTheSame, verdict_from, outcome_of, stops}
use Rattle.step_buffers.specs.Steps.{IsTaken}
use Rattle.step_buffers.specs.declared.parts.Parts.{Parts}
use Rattle.step_buffers.specs.declared.through.Reached.{Reached}
use Rattle.step_buffers.proofs.Bridge.{means_of}
use Rattle.step_buffers.proofs.Verdicts.{stops_illegal, going_legal}

illegal_from : (stopped : Bool) (tail : List ℕ) → stopped ≡ true → verdict_from stopped tail ≡ Illegal
illegal_from true tail e = refl
illegal_from false tail e = cc

never_both : (b : Bool) → b ≡ true → b ≡ false → ⊥
never_both true e f = cc
never_both false e f = cc

-- a session that has stopped stands for its stream however that goes on
pub stands_stopped : ((us : Tables) (R : Recipe) → StaysIllegal (chain us R)) → (ts : Tables) (m : Machine) (h : Held) (x y : List ℕ) →
    h.stopped ≡ true → StandsFor ts m h x → StandsFor ts m h (x ++ y)
stands_stopped stays ts m h x y stop stands = record {
  means = stays ts m.recipe initial x y (outcome_of m h) (illegal_from h.stopped h.tail stop) stands.means;
  tail = λ go. absurd (never_both h.stopped stop go);
  taken = λ go. absurd (never_both h.stopped stop go);
  stopped = λ e. ((stands.stopped e).0, (let few = (stands.stopped e).1 in omega (arith, length-append x y)));
}

-- the meaning of what comes behind what was carried is the meaning of both
goes_on : ((us : Tables) (R : Recipe) → GoesOn (chain us R)) → (ts : Tables) (R : Recipe) (from : States State) (x y : List ℕ) (o p : Outcome State) →
    Means (chain ts R) from x o → Means (chain ts R) o.states (drop o.consumed x ++ y) p → Means (chain ts R) from (x ++ y) (behind o.consumed o.written p)
goes_on on ts R from x y o p first rest =
    let front : List ℕ = take o.consumed x in
    let long : length front ≡ o.consumed = length-take-le o.consumed x first.within in
    let whole : front ++ (drop o.consumed x ++ y) ≡ x ++ y = sym (append_assoc front (drop o.consumed x) y) ∙ ap (λ z. z ++ y) (take-append-drop o.consumed x) in
    subst (λ n. Means (chain ts R) from (x ++ y) (behind n o.written p)) long
    (subst (λ z. Means (chain ts R) from z (behind (length front) o.written p)) whole
    (on ts R from o.states front (drop o.consumed x ++ y) o.written p first.carried rest))

-- what is kept tells the verdict
kept_verdict : (ts : Tables) (R : Recipe) (s : State) (rest tail : List ℕ) (v : Verdict) → Ends (chain ts R) s rest v → (v ≢ Illegal → tail ≡ rest) →
    verdict_from (stops v) tail ≡ v
kept_verdict ts R s rest tail Illegal end keeps = refl
kept_verdict ts R s rest tail Full end keeps = absurd end
kept_verdict ts R s rest tail Done end keeps =
    let none : tail ≡ [] = keeps (λ e. cc) ∙ end in rw none refl
kept_verdict ts R s rest [] Incomplete end keeps =
    let none : [] ≡ rest = keeps (λ e. cc) in absurd (end.0 (sym none))
kept_verdict ts R s rest (b ∷ tail) Incomplete end keeps = refl

-- a session that takes a piece in stands for its stream with the piece appended
pub stands_fed : ((us : Tables) (R : Recipe) → GoesOn (chain us R)) → (ts : Tables) (m n : Machine) (p q : Parts) (offset taken : ℕ) (stopped : Bool) (x y : List ℕ) (r : Reached) →
    stopped ≡ false → StandsFor ts m (record { output = p.output.items; tail = p.tail.items; offset = offset; taken = taken; stopped = stopped }) x →
    IsTaken ts m n p q y r →
    StandsFor ts n (record { output = q.output.items; tail = q.tail.items; offset = offset + r.consumed; taken = taken + length y; stopped = stops r.verdict }) (x ++ y)
stands_fed on ts m n p q offset taken stopped x y r going stands piece =
    let h : Held = record { output = p.output.items; tail = p.tail.items; offset = offset; taken = taken; stopped = stopped } in
    let all = piece.converted in
    let left : p.tail.items ≡ drop offset x = stands.tail going in
    let rest : Means (chain ts m.recipe) m.states (drop offset x ++ y) (record { states = n.states; consumed = r.consumed; written = all.written.bytes; verdict = r.verdict }) =
    subst (λ z. Means (chain ts m.recipe) m.states (z ++ y) (record { states = n.states; consumed = r.consumed; written = all.written.bytes; verdict = r.verdict })) left
    (means_of ts m n (p.tail.items ++ y) p.output q.output r all) in
    let whole : Means (chain ts m.recipe) initial (x ++ y) (record { states = n.states; consumed = offset + r.consumed; written = p.output.items ++ all.written.bytes; verdict = r.verdict }) =
    goes_on on ts m.recipe initial x y (outcome_of m h) _ stands.means rest in
    let verdict : verdict_from (stops r.verdict) q.tail.items ≡ r.verdict = kept_verdict ts m.recipe n.states.reading (drop r.consumed (p.tail.items ++ y)) q.tail.items r.verdict all.ends piece.rest in
    let count : taken ≡ length x = stands.taken going in
    record {
      means = subst (λ (R : Recipe). Means (chain ts R) initial (x ++ y) (record { states = n.states; consumed = offset + r.consumed; written = q.output.items; verdict = verdict_from (stops r.verdict) q.tail.items })) (sym all.written.recipe)
          (subst (λ z. Means (chain ts m.recipe) initial (x ++ y) (record { states = n.states; consumed = offset + r.consumed; written = z; verdict = verdict_from (stops r.verdict) q.tail.items })) (sym all.written.output)
          (subst (λ v. Means (chain ts m.recipe) initial (x ++ y) (record { states = n.states; consumed = offset + r.consumed; written = p.output.items ++ all.written.bytes; verdict = v })) (sym verdict) whole));
      tail = λ go. piece.rest (going_legal r.verdict go) ∙ ap (λ z. drop r.consumed (z ++ y)) left
          ∙ ap (λ z. drop r.consumed z) (sym (drop-append-le offset x y stands.means.within)) ∙ drop-drop r.consumed offset (x ++ y);
      taken = λ go. ap (λ k. k + length y) count ∙ sym (length-append x y);
      stopped = λ stop. (piece.stopped (stops_illegal r.verdict stop), omega (arith, length-append x y));
    }

-- two sessions that stand for one stream tell the same
pub tell_the_same : ((us : Tables) (R : Recipe) → AreWellFormed us → HasOneMeaning (chain us R)) → (ts : Tables) (m n : Machine) (h k : Held) (x : List ℕ) →
    AreWellFormed ts → n.recipe ≡ m.recipe → StandsFor ts m h x → StandsFor ts n k x → TellTheSame m n h k
tell_the_same one ts m n h k x well same first second =
    one ts m.recipe well initial x (outcome_of m h) (outcome_of n k) first.means
    (subst (λ (R : Recipe). Means (chain ts R) initial x (outcome_of n k)) same second.means)
