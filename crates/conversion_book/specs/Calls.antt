-- What the other calls do to a runtime.
use Rattle.std.specs.Prelude.{◌≡◌, ℕ, ◌*◌, ◌+◌, ◌≤◌, List, [], ◌∷◌, ◌++◌, length, IsSomeAnd}
use Rattle.code_pairs.specs.Tables.{Tables}
use Rattle.unit_relations.specs.Meaning.{MeansWhole}
use Rattle.chain_steps.specs.Machine.{Machine}
use Rattle.chain_steps.specs.Chains.{chain, initial}
use Rattle.chain_steps.specs.Sets.{return_of}
use Rattle.step_buffers.specs.Ends.{ending}
use Rattle.step_buffers.specs.Limits.{most_each}
use Rattle.step_buffers.specs.declared.answers.Finish.{Finish}
use Rattle.runtime_histories.specs.declared.entries.Event.TheVariants.{Closing}
use Rattle.conversion_book.specs.Runtime.{Held, Runtime, held_at, moved, without}

-- The descriptor of a number came from its machine to another by its tables, and all other descriptors stay.
pub record Moves (old new : List Held) (number : ℕ) (does : Tables → Machine → Machine → Type 0) : Type 0 where
  pub machine : Machine
  pub does_so : IsSomeAnd (held_at number old) (λ h. does h.tables h.machine machine)
  pub new_is : new ≡ moved number machine old

-- A call of the descriptor of a number: nothing else in the runtime changes.
pub record Calls (a b : Runtime) (number : ℕ) (does : Tables → Machine → Machine → Type 0) : Type 0 where
  pub moves : Moves a.held b.held number does
  pub same : b ≡ record a { held = b.held }

-- A descriptor was closed. The journal has the closing's entry, and the other descriptors stay.
pub record Closes (a b : Runtime) (caller number : ℕ) : Type 0 where
  pub journal : b.books.journal ≡ a.books.journal ++ record { caller = caller; event = Closing number } ∷ []
  pub books : (b.books.graph ≡ a.books.graph) × (b.books.pages ≡ a.books.pages) × (b.books.limit ≡ a.books.limit)
  pub held : b.held ≡ without number a.held
  pub same : (b.aliases ≡ a.aliases) × (b.directory ≡ a.directory) × (b.library ≡ a.library)

-- A machine converted a whole input and came to another: the bytes are what its chain over the tables makes of the
-- input, with the return sequence where all of it was converted.
pub record ConvertsWhole (x bytes : List ℕ) (finish : Finish) (ts : Tables) (m n : Machine) : Type 0 where
  pub means : MeansWhole (chain ts m.recipe) (return_of m.recipe.writer) initial x (ending bytes finish (length x))
  pub little : length bytes ≤ most_each * length x + most_each
  pub recipe : n.recipe ≡ m.recipe
