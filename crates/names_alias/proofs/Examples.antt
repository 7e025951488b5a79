-- Worked examples.
use Rattle.std.specs.Prelude.{◌≡◌, refl, codes, Ok, Err, replicate, ◌++◌, [], ◌∷◌}
use Rattle.names_alias.specs.NameForm.{normal_of}
use Rattle.names_alias.specs.Aliases.{caller_name_of, resolved, with_fixed, with_pair}
use Rattle.names_alias.specs.declared.fault.NameFault.TheVariants.{Suffix, Empty, LongName, Reserved}

pub suffix_row : normal_of (codes "UTF-8//TRANSLIT") ≡ Err (Suffix 7)
suffix_row = refl

pub blank_row : normal_of (codes " utf 8") ≡ Ok (codes "UTF8//")
blank_row = refl

pub second_row : normal_of (codes "iso-10646/ucs4/") ≡ Ok (codes "ISO-10646/UCS4/")
second_row = refl

pub empty_row : normal_of (codes "") ≡ Err Empty
empty_row = refl

pub slashes_row : normal_of (codes "//") ≡ Err Empty
slashes_row = refl

pub fits_row : normal_of (replicate 62 97) ≡ Ok (replicate 62 65 ++ codes "//")
fits_row = refl

pub long_row : normal_of (replicate 63 97) ≡ Err (LongName 65)
long_row = refl

pub reserved_row : caller_name_of (record { fixed = []; pairs = [] }) (codes "internal") ≡ Err Reserved
reserved_row = refl

pub once_row : resolved (record { fixed = []; pairs = (codes "X//", codes "Y//") ∷ (codes "Y//", codes "UTF-8//") ∷ [] }) (codes "X//") ≡ codes "Y//"
once_row = refl

pub first_row : resolved (with_pair (with_pair (record { fixed = []; pairs = [] }) (codes "X//") (codes "Y//")) (codes "X//") (codes "Z//")) (codes "X//") ≡ codes "Y//"
first_row = refl

pub fixed_row : resolved (with_fixed (record { fixed = []; pairs = (codes "X//", codes "Y//") ∷ [] }) (codes "X//")) (codes "X//") ≡ codes "X//"
fixed_row = refl

pub builtin_row : caller_name_of (record { fixed = []; pairs = [] }) (codes "utf8") ≡ Ok (codes "UTF-8//")
builtin_row = refl

pub own_before_builtin_row : caller_name_of (record { fixed = []; pairs = (codes "UTF8//", codes "Y//") ∷ [] }) (codes "utf8") ≡ Ok (codes "Y//")
own_before_builtin_row = refl
