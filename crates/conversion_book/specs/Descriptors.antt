-- Live descriptors as they are kept. No public clause cites it.
use Rattle.std.specs.Prelude.{List}
use Rattle.std.specs.List.{AllByRecursion}
use Rattle.code_table.specs.WellFormed.{AreWellFormed}
use Rattle.chain_steps.specs.Chains.{CanRun}
use Rattle.runtime_histories.specs.Deeds.{Loaded}
use Rattle.conversion_book.specs.declared.descriptor.Descriptor.{Descriptor}
use Rattle.conversion_book.specs.declared.kept.Kept.{Kept}
use Rattle.conversion_book.specs.Runtime.{Held}

-- A descriptor as callers see it.
abbrev pub held_as : Descriptor → Held
held_as d = record { number = d.number; tables = d.tables; machine = d.runner }

-- A kept module as histories see it.
abbrev pub kept_as : Kept → Loaded
kept_as k = record { «module» = k.«module»; tables = k.tables }

-- The tables of the descriptor's recipe are there, and they are well formed.
pub record IsRunnable (h : Held) : Type 0 where
  pub can_run : CanRun h.tables h.machine.recipe
  pub well_formed : AreWellFormed h.tables

-- So are those of all descriptors.
abbrev pub AllRun : List Held → Type 0
AllRun hs = AllByRecursion IsRunnable hs
