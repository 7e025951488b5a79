-- Callers' names are good.
use Rattle.std.proofs.Common.{◌≡◌, ℕ, ◌+◌, ◌<◌, Bool, true, false, nat_lt, if◌then◌else◌, List, [], ◌∷◌, length, Result, Ok, Err, IfOk, IfErr, refl, sym, ap, ◌∙◌, subst}
use Rattle.std.proofs.lemmas.Bool.{false≢true, ltb-true}
use Rattle.std.proofs.lemmas.Slice.Eq.{bytes_eq-Decides}
use Rattle.std.specs.Str.{bytes_eq}
use Rattle.names_alias.specs.Aliases.{AliasTable, caller_name_of, resolved, resolved_result, unless_reserved}
use Rattle.names_alias.specs.Builtin.{internal_name}
use Rattle.names_alias.specs.NameForm.{normal_of, part, bytes_of, checked_name, without_suffix, name_of}
use Rattle.names_alias.specs.CallerNames.{IsGood, IsFault}
use Rattle.names_alias.specs.declared.fault.NameFault.{NameFault}
use Rattle.names_alias.specs.declared.fault.NameFault.TheVariants.{LongName}

abbrev AreGood : Result (List ℕ) NameFault → Type 0
AreGood r = IfOk r IsGood × IfErr r IsFault

unless_good : (name : List ℕ) → AreGood (unless_reserved name)
unless_good name = go (bytes_eq name internal_name) refl
  where
    go : (b : Bool) → bytes_eq name internal_name ≡ b → AreGood (if b then unless_reserved internal_name else Ok name)
    go true e = (tt, tt)
    go false e = ((λ is. false≢true (sym e ∙ (bytes_eq-Decides name internal_name).1 is)), tt)

checked_fault : (first second : List ℕ) → IfErr (checked_name first second) IsFault
checked_fault [] second = tt
checked_fault (b ∷ bs) second = go (nat_lt 64 (length (name_of (b ∷ bs) second))) refl
  where
    go : (t : Bool) → nat_lt 64 (length (name_of (b ∷ bs) second)) ≡ t
        → IfErr (if t then Err (LongName (length (name_of (b ∷ bs) second))) else Ok (name_of (b ∷ bs) second)) IsFault
    go true e = ltb-true 64 (length (name_of (b ∷ bs) second)) e
    go false e = tt

suffix_fault : (rest : List (ℕ × ℕ)) (first second : List ℕ) → IfErr (without_suffix rest first second) IsFault
suffix_fault [] first second = checked_fault first second
suffix_fault (p ∷ ps) first second = tt

result_good : (table : AliasTable) (r : Result (List ℕ) NameFault) → IfErr r IsFault → AreGood (resolved_result table r)
result_good table (Ok name) h = unless_good (resolved table name)
result_good table (Err fault) h = (tt, h)

pub all_good : (table : AliasTable) (text : List ℕ) → AreGood (caller_name_of table text)
all_good table text = result_good table (normal_of text) (suffix_fault (part text 2) (bytes_of (part text 0)) (bytes_of (part text 1)))
