-- The sets that need no table: their units, what they can spell, and how.
use Rattle.std.specs.Prelude.{◌≡◌, ℕ, ◌≤◌, Bool, true, false, IsTrue, List, [], ◌∷◌, Option}
use Rattle.std.specs.List.{flat_map}
use Rattle.step_unicode.specs.declared.set.Uni.{Uni}
use Rattle.step_unicode.specs.declared.set.Uni.TheVariants.{Ascii, Utf8, Utf16, Utf16Le, Utf16Be, Ucs4}
use Rattle.step_unicode.specs.declared.set.State.{State}
use Rattle.step_unicode.specs.declared.set.State.TheVariants.{Plain, Little, Big}
use Rattle.step_unicode.specs.Points.{IsPoint}
pub use Rattle.step_unicode.specs.Points.{IsStatelessUnit}
use Rattle.step_unicode.specs.Utf8.{IsUtf8Unit, utf8}
use Rattle.step_unicode.specs.Utf16.{little, big, little_bytes, big_bytes, IsUtf16Unit, utf16, IsUtf16SetUnit, marked, after_marked}
use Rattle.step_unicode.specs.Ucs4.{IsUcs4Unit, ucs4}
use Rattle.unit_relations.specs.Spellings.{Spelling}

-- whether a state is the initial one
abbrev pub is_plain : State → Bool
is_plain Plain = true
is_plain _ = false

-- whether a state is one of UTF-16: no order yet, or one of the two
abbrev pub is_order : State → Bool
is_order Plain = true
is_order Little = true
is_order Big = true
is_order _ = false

-- whether a set can be in a state
abbrev pub is_state_of : Uni → State → Bool
is_state_of Utf16 s = is_order s
is_state_of _ s = is_plain s

-- the states in which a set can be
abbrev pub IsStateOf : Uni → State → Type 0
IsStateOf set s = IsTrue (is_state_of set s)

-- the byte of a point below 80
abbrev pub IsAsciiUnit : List ℕ → ℕ → Type 0
IsAsciiUnit u p = (p ≤ 0x7F) × (u ≡ p ∷ [])

-- in the state s the bytes u are a unit of the set, give q, and lead to t
abbrev pub IsUnit : Uni → State → List ℕ → Option ℕ → State → Type 0
IsUnit Ascii s u q t = IsStatelessUnit IsAsciiUnit s u q t
IsUnit Utf8 s u q t = IsStatelessUnit IsUtf8Unit s u q t
IsUnit Utf16 s u q t = IsUtf16SetUnit s u q t
IsUnit Utf16Le s u q t = IsStatelessUnit (IsUtf16Unit little) s u q t
IsUnit Utf16Be s u q t = IsStatelessUnit (IsUtf16Unit big) s u q t
IsUnit Ucs4 s u q t = IsStatelessUnit IsUcs4Unit s u q t

-- the points that a set can spell
abbrev pub IsSpellable : Uni → ℕ → Type 0
IsSpellable Ascii p = p ≤ 0x7F
IsSpellable _ p = IsPoint p

-- how a set spells a list of points from a state
abbrev pub spelled : Uni → State → List ℕ → List ℕ
spelled Ascii s q = q
spelled Utf8 s q = flat_map utf8 q
spelled Utf16 s q = marked s q
spelled Utf16Le s q = flat_map (utf16 little_bytes) q
spelled Utf16Be s q = flat_map (utf16 big_bytes) q
spelled Ucs4 s q = flat_map ucs4 q

-- the state that this leaves
abbrev pub after : Uni → State → List ℕ → State
after Utf16 s q = after_marked s q
after _ s q = s

-- the spelling of a set
abbrev pub spelling : Uni → Spelling State
spelling set = record { bytes = spelled set; after = after set }
