-- The form of a name.
use Rattle.std.specs.Prelude.{ℕ, ◌-◌, Bool, ◌&&◌, ◌||◌, if◌then◌else◌, ◌==◌, nat_le, nat_lt, List, [], ◌∷◌, ◌++◌, map, filter, length, Result, Ok, Err, slice_index_or}
use Rattle.std.specs.List.{enumerate_from, slice_split}
use Rattle.names_alias.specs.declared.fault.NameFault.{NameFault}
use Rattle.names_alias.specs.declared.fault.NameFault.TheVariants.{Suffix, Empty, LongName}

-- A small letter becomes a capital one, and any other byte stays.
abbrev pub to_upper : ℕ → ℕ
to_upper b = if nat_le 97 b && nat_le b 122 then b - 32 else b

-- A name keeps A to Z, 0 to 9, and the signs _ - . , : and /.
abbrev pub is_kept : ℕ → Bool
is_kept b =
    (nat_le 65 b && nat_le b 90) || (nat_le 48 b && nat_le b 57)
    || b == 95 || b == 45 || b == 46 || b == 44 || b == 58 || b == 47

-- The kept bytes of a text in upper case, each behind its place in the text.
abbrev pub kept_bytes : List ℕ → List (ℕ × ℕ)
kept_bytes text = filter (λ p. is_kept p.1) (enumerate_from 0 (map to_upper text))

-- What stands between two slashes, by number: 0 for the kept bytes before the first slash.
abbrev pub part : List ℕ → ℕ → List (ℕ × ℕ)
part text i = slice_index_or (slice_split (λ p. p.1 == 47) (kept_bytes text)) i []

-- The bytes without their places.
abbrev pub bytes_of : List (ℕ × ℕ) → List ℕ
bytes_of ps = map (λ p. p.1) ps

-- The name that two parts make: each is ended by a slash.
abbrev pub name_of : List ℕ → List ℕ → List ℕ
name_of first second = first ++ 47 ∷ second ++ 47 ∷ []

-- Two parts are a name, unless the first is empty or the name has more than 64 bytes.
abbrev pub checked_name : List ℕ → List ℕ → Result (List ℕ) NameFault
checked_name [] second = Err Empty
checked_name (b ∷ bs) second =
    if nat_lt 64 (length (name_of (b ∷ bs) second))
    then Err (LongName (length (name_of (b ∷ bs) second)))
    else Ok (name_of (b ∷ bs) second)

-- The same, where nothing stands behind the second slash.
abbrev pub without_suffix : List (ℕ × ℕ) → List ℕ → List ℕ → Result (List ℕ) NameFault
without_suffix [] first second = checked_name first second
without_suffix (p ∷ _) first second = Err (Suffix p.0)

-- The normal form of a text is its first two parts, or the first cause that it has none.
abbrev pub normal_of : List ℕ → Result (List ℕ) NameFault
normal_of text = without_suffix (part text 2) (bytes_of (part text 0)) (bytes_of (part text 1))
