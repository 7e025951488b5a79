-- What taking in a piece makes of the parts of a session.
use Rattle.std.specs.Prelude.{◌≡◌, ◌≢◌, ℕ, ◌+◌, ◌*◌, ◌≤◌, List, [], ◌++◌, length, take, drop, Vec, vec_len, vec_capacity}
use Rattle.std.specs.declared.alloc.Global.{Global}
use Rattle.code_pairs.specs.Tables.{Tables}
use Rattle.unit_relations.specs.declared.verdict.Verdict.TheVariants.{Illegal}
use Rattle.unit_relations.specs.Calls.{Carried, Ends}
use Rattle.chain_steps.specs.Machine.{Machine}
use Rattle.chain_steps.specs.Chains.{chain}
use Rattle.step_buffers.specs.Limits.{longest_tail, most_each, tail_room}
use Rattle.step_buffers.specs.declared.parts.Parts.{Parts}
use Rattle.step_buffers.specs.declared.through.Reached.{Reached}

-- a chain went from m to n over all of x, and put its spelling behind an output
pub record HasWritten (ts : Tables) (m n : Machine) (x : List ℕ) (old new : Vec ℕ Global)
    : Type 0 where
  pub bytes : List ℕ
  pub output : new.items ≡ old.items ++ bytes
  pub recipe : n.recipe ≡ m.recipe
  pub carried : Carried (chain ts m.recipe) m.states x bytes n.states
  pub little : vec_len new ≤ vec_len old + most_each * length x
  pub capacity : vec_capacity old ≤ vec_capacity new

-- a chain went from m to n, came so far in x, and can go no further
pub record IsConverted (ts : Tables) (m n : Machine) (x : List ℕ) (old new : Vec ℕ Global)
    (r : Reached) : Type 0 where
  pub within : r.consumed ≤ length x
  pub written : HasWritten ts m n (take r.consumed x) old new
  pub ends : Ends (chain ts m.recipe) n.states.reading (drop r.consumed x) r.verdict

-- the parts have room for n bytes more: a scratch, an output for these and what waits, and a tail
pub record HasRoom (p : Parts) (n : ℕ) : Type 0 where
  pub scratch : most_each ≤ vec_len p.scratch
  pub output : vec_len p.output + most_each * (vec_len p.tail + n) ≤ vec_capacity p.output
  pub tail : tail_room ≤ vec_capacity p.tail
  pub waits : vec_len p.tail ≤ longest_tail

-- what waited and a piece were converted, and what of both isn't converted waits, unless they stop
pub record IsTaken (ts : Tables) (m n : Machine) (p q : Parts) (piece : List ℕ) (r : Reached)
    : Type 0 where
  pub converted : IsConverted ts m n (p.tail.items ++ piece) p.output q.output r
  pub rest : r.verdict ≢ Illegal → q.tail.items ≡ drop r.consumed (p.tail.items ++ piece)
  pub stopped : r.verdict ≡ Illegal → q.tail.items ≡ []
  pub waits : vec_len q.tail ≤ longest_tail
  pub within : r.consumed + vec_len q.tail ≤ vec_len p.tail + length piece
  pub tail : tail_room ≤ vec_capacity q.tail
  pub scratch : vec_len q.scratch ≡ vec_len p.scratch
