-- Why a text gives no table.
use Rattle.std.specs.Prelude.{ℕ, List}
use Rattle.charmap_library.specs.declared.texts.BuildFault.{BuildFault}
use Rattle.charmap_library.specs.declared.texts.BuildFault.TheVariants.{Text, Memory}
use Rattle.runtime_histories.specs.Charmaps.{HasFault}

-- The text has the fault; memory may always be wanting.
abbrev pub IsBuildFault : List ℕ → BuildFault → Type 0
IsBuildFault text (Text fault) = HasFault text fault
IsBuildFault text Memory = Unit {0}
