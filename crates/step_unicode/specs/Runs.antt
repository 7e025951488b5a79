-- How far a text is plain in a set.
use Rattle.std.specs.Prelude.{◌≡◌, ℕ, List, Option, IsSome, true, false}
use Rattle.std.specs.List.{AllByRecursion}
use Rattle.ascii_lanes.specs.Runs.{ascii_run, plain_units}
use Rattle.unit_relations.specs.Units.{Piece, AreUnits, bytes_of}
use Rattle.step_unicode.specs.declared.set.Uni.{Uni}
use Rattle.step_unicode.specs.declared.set.Uni.TheVariants.{Ascii, Utf8, Utf16, Utf16Le, Utf16Be}
use Rattle.step_unicode.specs.declared.set.State.{State}
use Rattle.step_unicode.specs.declared.set.State.TheVariants.{Little, Big}

-- how many bytes the plain units at the front have; none where the set has none, or its order isn't known
abbrev pub plain_run : Uni → State → List ℕ → ℕ
plain_run Ascii s x = ascii_run x
plain_run Utf8 s x = ascii_run x
plain_run Utf16 Little x = plain_units false x
plain_run Utf16 Big x = plain_units true x
plain_run Utf16Le s x = plain_units false x
plain_run Utf16Be s x = plain_units true x
plain_run _ s x = 0

-- x is a concatenation of units that give one point each and leave the state
pub record IsPointRun (U : State → List ℕ → Option ℕ → State → Type 0) (s : State) (x : List ℕ) : Type 0 where
  pub cut : List (Piece State)
  pub units : AreUnits U s cut s
  pub bytes : x ≡ bytes_of cut
  pub points : AllByRecursion (λ p. IsSome p.point) cut
