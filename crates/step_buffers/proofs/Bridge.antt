-- What waits and a piece, of which some bytes are joined to what waits and the rest is converted behind.
use Rattle.std.proofs.Common.{◌≡◌, ℕ, ◌+◌, ◌≤◌, List, [], ◌++◌, length, take, drop, Vec, vec_len, vec_capacity, ap, sym, ◌∙◌, subst, arith, append_assoc, length-append}
use Rattle.std.specs.declared.alloc.Global.{Global}
use Rattle.std.proofs.lemmas.List.{take-append-drop, take-append-le, drop-drop, take-take}
use Rattle.std.proofs.Math.Seq.{take-append-add, drop-append-add}
use Rattle.code_pairs.specs.Tables.{Tables}
use Rattle.unit_relations.specs.Laws.{StaysIllegal}
use Rattle.unit_relations.specs.Meaning.{Means}
use Rattle.unit_relations.specs.declared.verdict.Verdict.TheVariants.{Illegal}
use Rattle.chain_steps.specs.declared.recipe.Recipe.{Recipe}
use Rattle.chain_steps.specs.Machine.{Machine}
use Rattle.chain_steps.specs.Chains.{chain}
use Rattle.step_buffers.specs.Steps.{HasWritten, IsConverted, IsTaken}
use Rattle.step_buffers.specs.declared.parts.Parts.{Parts}
use Rattle.step_buffers.specs.declared.through.Reached.{Reached}
use Rattle.step_buffers.proofs.Scratch.{RunsJoin, converted_from}

-- what was converted tells the meaning
pub means_of : (ts : Tables) (m n : Machine) (x : List ℕ) (old new : Vec ℕ Global) (r : Reached) → (all : IsConverted ts m n x old new r) →
    Means (chain ts m.recipe) m.states x (record { states = n.states; consumed = r.consumed; written = all.written.bytes; verdict = r.verdict })
means_of ts m n x old new r all = record { within = all.within; carried = all.written.carried; ends = all.ends }

-- what is illegal stays so whatever follows
pub stopped_on : ((us : Tables) (R : Recipe) → StaysIllegal (chain us R)) → (ts : Tables) (m n : Machine) (x y z : List ℕ) (old new : Vec ℕ Global) (r : Reached) →
    r.verdict ≡ Illegal → x ++ y ≡ z → IsConverted ts m n x old new r → IsConverted ts m n z old new r
stopped_on stays ts m n x y z old new r stop whole all =
    let on = stays ts m.recipe m.states x y _ stop (means_of ts m n x old new r all) in
    subst (λ l. IsConverted ts m n l old new r) whole (record {
      within = on.within;
      written = subst (λ l. HasWritten ts m n l old new) (sym (take-append-le r.consumed x y all.within)) all.written;
      ends = on.ends;
    })

-- the bytes up to a unit's end among those that are joined are the first of all
joined_front : (waits piece : List ℕ) (n k at : ℕ) → at ≡ length waits + k → k ≤ n → take at (waits ++ take n piece) ≡ take at (waits ++ piece)
joined_front waits piece n k at place within =
    ap (λ j. take j (waits ++ take n piece)) place
    ∙ take-append-add waits (take n piece) k
    ∙ ap (λ z. waits ++ z) (take-take k n piece within)
    ∙ sym (take-append-add waits piece k)
    ∙ ap (λ j. take j (waits ++ piece)) (sym place)

-- what is left of all is what is left of the piece
joined_rest : (waits piece : List ℕ) (k at : ℕ) → at ≡ length waits + k → drop at (waits ++ piece) ≡ drop k piece
joined_rest waits piece k at place = ap (λ j. drop j (waits ++ piece)) place ∙ drop-append-add waits piece k

-- the joined bytes were converted up to a unit's end, and the rest of the piece was taken in behind it:
-- so both were taken in
pub bridged : RunsJoin → (us ts : Tables) (m n q : Machine) (p e f : Parts) (piece rest : List ℕ) (j k : ℕ) (r s : Reached) → us ≡ ts →
    e.tail.items ++ rest ≡ drop k piece → r.consumed ≡ length p.tail.items + k → k ≤ j → k ≤ length piece →
    vec_len e.tail + length rest + k ≤ length piece → vec_len p.tail ≡ length p.tail.items → vec_len e.scratch ≡ vec_len p.scratch →
    IsConverted ts m n (p.tail.items ++ take j piece) p.output e.output r → IsTaken us n q e f rest s →
    IsTaken ts m q p f piece (record { consumed = r.consumed + s.consumed; verdict = s.verdict })
bridged join us ts m n q p e f piece rest j k r s same is place near within few len scratch first taken =
    let left : drop r.consumed (p.tail.items ++ piece) ≡ e.tail.items ++ rest = joined_rest p.tail.items piece k r.consumed place ∙ sym is in
    record {
      converted = converted_from join ts m n q (p.tail.items ++ piece) r.consumed p.output e.output f.output s
          (omega (arith, length-append p.tail.items piece))
          (subst (λ z. HasWritten ts m n z p.output e.output) (joined_front p.tail.items piece j k r.consumed place near) first.written)
          (subst (λ z. IsConverted ts n q z e.output f.output s) (sym left)
          (subst (λ (vs : Tables). IsConverted vs n q (e.tail.items ++ rest) e.output f.output s) same taken.converted));
      rest = λ legal. taken.rest legal ∙ ap (λ z. drop s.consumed z) (sym left) ∙ drop-drop s.consumed r.consumed (p.tail.items ++ piece);
      stopped = taken.stopped;
      waits = taken.waits;
      within = let w = taken.within in omega arith;
      tail = taken.tail;
      scratch = taken.scratch ∙ scratch;
    }

-- the joined bytes can't go on, and neither can all
pub bridge_stops : ((us : Tables) (R : Recipe) → StaysIllegal (chain us R)) → (ts : Tables) (m n : Machine) (p e : Parts) (piece : List ℕ) (j : ℕ) (r : Reached) →
    r.verdict ≡ Illegal → e.tail.items ≡ [] → vec_len e.tail ≡ 0 → 16 ≤ vec_capacity e.tail → vec_len e.scratch ≡ vec_len p.scratch →
    r.consumed ≤ vec_len p.tail + length piece →
    IsConverted ts m n (p.tail.items ++ take j piece) p.output e.output r → IsTaken ts m n p e piece r
bridge_stops stays ts m n p e piece j r stop empty none room scratch within all = record {
  converted = stopped_on stays ts m n (p.tail.items ++ take j piece) (drop j piece) (p.tail.items ++ piece) p.output e.output r stop
      (append_assoc p.tail.items (take j piece) (drop j piece) ∙ ap (λ z. p.tail.items ++ z) (take-append-drop j piece)) all;
  rest = λ legal. absurd (legal stop);
  stopped = λ _. empty;
  waits = omega arith;
  within = omega arith;
  tail = room;
  scratch = scratch;
}
