-- A whole input through a small scratch, one call after another.
use Rattle.std.proofs.Common.{◌≡◌, ◌≢◌, ℕ, ◌+◌, ◌-◌, ◌*◌, ◌<◌, ◌≤◌, List, [], ◌++◌, length, take, drop, Vec, vec_len, vec_capacity, refl, ap, sym, ◌∙◌, subst, arith, append_assoc, length-append, length-drop}
use Rattle.std.specs.declared.alloc.Global.{Global}
use Rattle.std.proofs.lemmas.List.{append-nil, drop-drop, length-take-le}
use Rattle.std.proofs.Math.Seq.{take-add}
use Rattle.code_pairs.specs.Tables.{Tables}
use Rattle.step_unicode.specs.declared.set.State.{State}
use Rattle.unit_relations.specs.Units.{IsPartial}
use Rattle.unit_relations.specs.Calls.{Carried, LacksRoom, Stops, Ends}
use Rattle.unit_relations.specs.Conversions.{Conversion}
use Rattle.unit_relations.specs.declared.states.States.{States}
use Rattle.unit_relations.specs.declared.verdict.Verdict.{Verdict}
use Rattle.unit_relations.specs.declared.verdict.Verdict.TheVariants.{Done, Full, Incomplete, Illegal}
use Rattle.chain_steps.specs.declared.recipe.Recipe.{Recipe}
use Rattle.chain_steps.specs.declared.recipe.Set.{Set}
use Rattle.chain_steps.specs.declared.recipe.Progress.{Progress}
use Rattle.chain_steps.specs.Machine.{Machine}
use Rattle.chain_steps.specs.Sets.{IsUnitOf, AreWellFormed}
use Rattle.chain_steps.specs.Chains.{chain}
use Rattle.chain_steps.specs.Runs.{IsCall}
use Rattle.step_buffers.specs.Steps.{HasWritten, IsConverted}
use Rattle.step_buffers.specs.declared.through.Reached.{Reached}

-- one run behind another is a run
abbrev pub RunsJoin : Type 0
RunsJoin = (ts : Tables) (R : Recipe) (from mid to : States State) (x y w v : List ℕ) →
    Carried (chain ts R) from x w mid → Carried (chain ts R) mid y v to → Carried (chain ts R) from (x ++ y) (w ++ v) to

-- a run writes at most eight bytes for each byte
abbrev pub RunsAreShort : Type 0
RunsAreShort = (ts : Tables) (R : Recipe) (from to : States State) (x w : List ℕ) → AreWellFormed ts →
    Carried (chain ts R) from x w to → length w ≤ 8 * length x

-- eight bytes of room are enough for a unit
abbrev pub UnitsFit : Type 0
UnitsFit = (ts : Tables) (R : Recipe) (at : States State) (room : ℕ) (rest : List ℕ) → AreWellFormed ts →
    LacksRoom (chain ts R) at room rest → room < 8

-- a proper prefix of a unit has at most seven bytes
abbrev pub CutsAreShort : Type 0
CutsAreShort = (ts : Tables) (set : Set) (s : State) (x : List ℕ) → AreWellFormed ts →
    IsPartial (IsUnitOf ts set) s x → length x ≤ 7

-- what a call made has at most eight bytes for each that it read
pub call_little : RunsAreShort → (ts : Tables) → AreWellFormed ts → (m n : Machine) (x old new : List ℕ) (p : Progress) →
    IsCall ts m n x old new p → length (take p.produced new) ≤ 8 * p.consumed
call_little short ts well m n x old new p call =
    let few : length (take p.produced new) ≤ 8 * length (take p.consumed x) = short ts m.recipe _ _ _ _ well call.converts.carried in
    let long : length (take p.consumed x) ≡ p.consumed = length-take-le p.consumed x call.converts.within in
    omega arith

-- a call with eight bytes of room that is full has moved on
pub full_moves : RunsAreShort → UnitsFit → (ts : Tables) → AreWellFormed ts → (m n : Machine) (x old new : List ℕ) (p : Progress) →
    8 ≤ length old → IsCall ts m n x old new p → p.verdict ≡ Full → 0 < p.consumed
full_moves short fit ts well m n x old new p much call full =
    let few : length (take p.produced new) ≤ 8 * p.consumed = call_little short ts well m n x old new p call in
    let stop : Stops (chain ts m.recipe) n.states (length old - length (take p.produced new)) (drop p.consumed x) Full =
    subst (λ v. Stops (chain ts m.recipe) n.states (length old - length (take p.produced new)) (drop p.consumed x) v) full call.converts.stop in
    let lacks : length old - length (take p.produced new) < 8 = fit ts m.recipe _ _ _ well stop in
    omega arith

stop_ends : (K : Conversion State) (s : States State) (room : ℕ) (rest : List ℕ) (v : Verdict) → v ≢ Full → Stops K s room rest v → Ends K s.reading rest v
stop_ends K s room rest Done not stop = stop
stop_ends K s room rest Full not stop = absurd (not refl)
stop_ends K s room rest Incomplete not stop = stop
stop_ends K s room rest Illegal not stop = stop

-- a call that isn't full goes no further whatever the room
pub call_ends : (ts : Tables) (m n : Machine) (x old new : List ℕ) (p : Progress) → IsCall ts m n x old new p → p.verdict ≢ Full →
    Ends (chain ts m.recipe) n.states.reading (drop p.consumed x) p.verdict
call_ends ts m n x old new p call not = stop_ends (chain ts m.recipe) n.states _ _ p.verdict not call.converts.stop

-- what a call made, put behind an output
pub call_written : RunsAreShort → (ts : Tables) → AreWellFormed ts → (m n : Machine) (x old new : List ℕ) (p : Progress) (before after : Vec ℕ Global) →
    IsCall ts m n x old new p → after.items ≡ before.items ++ take p.produced new →
    vec_len after ≡ vec_len before + length (take p.produced new) → vec_capacity before ≤ vec_capacity after →
    HasWritten ts m n (take p.consumed x) before after
call_written short ts well m n x old new p before after call items len capacity = record {
  bytes = take p.produced new;
  output = items;
  recipe = call.recipe;
  carried = call.converts.carried;
  little =
      let few : length (take p.produced new) ≤ 8 * length (take p.consumed x) = short ts m.recipe _ _ _ _ well call.converts.carried in
      omega arith;
  capacity = capacity;
}

-- nothing was written of no bytes
pub written_none : ((ts : Tables) (R : Recipe) (at : States State) → Carried (chain ts R) at [] [] at) → (ts : Tables) (m : Machine) (out : Vec ℕ Global) →
    HasWritten ts m m [] out out
written_none none ts m out = record {
  bytes = [];
  output = sym (append-nil out.items);
  recipe = refl;
  carried = none ts m.recipe m.states;
  little = omega arith;
  capacity = omega arith;
}

-- the same over tables that are the same
pub written_over : (us ts : Tables) (m n : Machine) (x : List ℕ) (old new : Vec ℕ Global) → us ≡ ts → HasWritten us m n x old new → HasWritten ts m n x old new
written_over us ts m n x old new same written = subst (λ (vs : Tables). HasWritten vs m n x old new) same written

-- what was written of two parts of a stream was written of both
pub written_on : RunsJoin → (ts : Tables) (m n q : Machine) (x y : List ℕ) (a b c : Vec ℕ Global) →
    HasWritten ts m n x a b → HasWritten ts n q y b c → HasWritten ts m q (x ++ y) a c
written_on join ts m n q x y a b c first second = record {
  bytes = first.bytes ++ second.bytes;
  output = second.output ∙ ap (λ z. z ++ second.bytes) first.output ∙ append_assoc a.items first.bytes second.bytes;
  recipe = second.recipe ∙ first.recipe;
  carried = join ts m.recipe m.states n.states q.states x y first.bytes second.bytes first.carried
      (subst (λ (R : Recipe). Carried (chain ts R) n.states y second.bytes q.states) first.recipe second.carried);
  little = let f = first.little in let s = second.little in omega (arith, length-append x y);
  capacity = let f = first.capacity in let s = second.capacity in omega arith;
}

-- what was written up to a place, and what comes behind it
pub written_from : RunsJoin → (ts : Tables) (m n q : Machine) (x : List ℕ) (at k : ℕ) (a b c : Vec ℕ Global) →
    HasWritten ts m n (take at x) a b → HasWritten ts n q (take k (drop at x)) b c → HasWritten ts m q (take (at + k) x) a c
written_from join ts m n q x at k a b c first second =
    subst (λ z. HasWritten ts m q z a c) (sym (take-add at k x)) (written_on join ts m n q (take at x) (take k (drop at x)) a b c first second)

-- what was converted behind a place is converted of the whole
pub converted_from : RunsJoin → (ts : Tables) (m n q : Machine) (x : List ℕ) (at : ℕ) (a b c : Vec ℕ Global) (r : Reached) → at ≤ length x →
    HasWritten ts m n (take at x) a b → IsConverted ts n q (drop at x) b c r →
    IsConverted ts m q x a c (record { consumed = at + r.consumed; verdict = r.verdict })
converted_from join ts m n q x at a b c r place first rest = record {
  within = let w = rest.within in omega (arith, length-drop at x);
  written = written_from join ts m n q x at r.consumed a b c first rest.written;
  ends = subst (λ z. Ends (chain ts m.recipe) q.states.reading z r.verdict) (drop-drop r.consumed at x)
      (subst (λ (R : Recipe). Ends (chain ts R) q.states.reading (drop r.consumed (drop at x)) r.verdict) first.recipe rest.ends);
}

rest_short : CutsAreShort → (ts : Tables) → AreWellFormed ts → (R : Recipe) (s : State) (rest : List ℕ) (v : Verdict) → v ≢ Illegal → Ends (chain ts R) s rest v → length rest ≤ 7
rest_short cut ts well R s rest Done not end = rw end (omega arith)
rest_short cut ts well R s rest Full not end = absurd end
rest_short cut ts well R s rest Incomplete not end = cut ts R.reader s rest well end.1
rest_short cut ts well R s rest Illegal not end = absurd (not refl)

-- what is left over, where it isn't illegal, is short
pub left_short : CutsAreShort → (ts : Tables) → AreWellFormed ts → (m n : Machine) (x : List ℕ) (old new : Vec ℕ Global) (r : Reached) →
    IsConverted ts m n x old new r → r.verdict ≢ Illegal → length x ≤ r.consumed + 7
left_short cut ts well m n x old new r all legal =
    let rest : length (drop r.consumed x) ≤ 7 = rest_short cut ts well m.recipe n.states.reading (drop r.consumed x) r.verdict legal all.ends in
    omega (arith, length-drop r.consumed x)

-- a call that isn't full, over what is left of an input, converted all of that that can be
pub left_converted : (us ts : Tables) (n q : Machine) (x y : List ℕ) (b c : Vec ℕ Global) (k : ℕ) (v : Verdict) → us ≡ ts → y ≡ x →
    k ≤ length y → HasWritten us n q (take k y) b c → Ends (chain us n.recipe) q.states.reading (drop k y) v →
    IsConverted ts n q x b c (record { consumed = k; verdict = v })
left_converted us ts n q x y b c k v same left within written ends =
    subst (λ z. IsConverted ts n q z b c (record { consumed = k; verdict = v })) left
    (subst (λ (vs : Tables). IsConverted vs n q y b c (record { consumed = k; verdict = v })) same
    (record { within = within; written = written; ends = ends }))

-- the same of a call of which only what it wrote is known
pub left_written : (us ts : Tables) (n q : Machine) (x y : List ℕ) (b c : Vec ℕ Global) (k : ℕ) → us ≡ ts → y ≡ x →
    HasWritten us n q (take k y) b c → HasWritten ts n q (take k x) b c
left_written us ts n q x y b c k same left written =
    subst (λ z. HasWritten ts n q (take k z) b c) left (subst (λ (vs : Tables). HasWritten vs n q (take k y) b c) same written)
