-- What callers' texts ask for.
use Rattle.std.specs.Prelude.{ℕ, List, Result, Ok, Err}
use Rattle.names_alias.specs.Aliases.{AliasTable, caller_name_of}
use Rattle.names_alias.specs.declared.fault.NameFault.{NameFault}
use Rattle.runtime_histories.specs.declared.refusals.Asked.{Asked}
use Rattle.runtime_histories.specs.declared.refusals.Asked.TheVariants.{Good, Bad}

-- A name is good, or there is a reason that there is none.
abbrev pub asked_by : Result (List ℕ) NameFault → Asked
asked_by (Ok name) = Good name
asked_by (Err fault) = Bad fault

-- A caller's text asks for the name that it stands for.
abbrev pub asked_of : AliasTable → List ℕ → Asked
asked_of aliases text = asked_by (caller_name_of aliases text)
