-- A whole input that was converted.
use Rattle.std.proofs.Common.{◌≡◌, ℕ, List, Option, Some, refl, ap, subst, Result, Ok, Err, IfOk}
use Rattle.std.specs.Prelude.{IsSomeAnd}
use Rattle.chain_steps.specs.declared.recipe.Reset.{Reset}
use Rattle.chain_steps.specs.declared.recipe.Reset.TheVariants.{Closed, Full}
use Rattle.chain_steps.specs.Resets.{IsReset}
use Rattle.conversion_book.specs.Runtime.{Held}
use Rattle.chain_steps.specs.Machine.{Machine}
use Rattle.step_buffers.specs.Ends.{left_by}
use Rattle.step_buffers.specs.declared.answers.Finish.{Finish}
use Rattle.step_buffers.specs.declared.answers.Finish.TheVariants.{Done, Illegal, Incomplete}

-- The end of a stream leaves the recipe.
pub left_recipe : (f : Finish) (m : Machine) → (left_by f m).recipe ≡ m.recipe
left_recipe Done m = refl
left_recipe (Illegal offset) m = refl
left_recipe (Incomplete offset) m = refl

-- What follows from what is said of a success.
pub ok_so : {T E : Type 0} (r : Result T E) (P Q : T → Type 0) → ((x : T) → P x → Q x) → IfOk r P → IfOk r Q
ok_so (Ok x) P Q f h = f x h
ok_so (Err e) P Q f h = h

-- A return to the initial states leaves the recipe.
pub reset_recipe : (m n : Machine) (old new : List ℕ) (r : Reset) → IsReset m n old new r → n.recipe ≡ m.recipe
reset_recipe m n old new (Closed produced) h = ap (λ (z : Machine). z.recipe) h.1
reset_recipe m n old new Full h = ap (λ (z : Machine). z.recipe) h.1

-- What is said of a descriptor that is known.
pub known_so : (o : Option Held) (h : Held) (P : Held → Type 0) → o ≡ Some h → IsSomeAnd o P → P h
known_so o h P e p = subst (λ (z : Option Held). IsSomeAnd z P) e p
