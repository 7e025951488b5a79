-- The words that name charmaps.
use Rattle.std.specs.Prelude.{ℕ, Bool, ◌&&◌, ◌||◌, not, ◌==◌, nat_le, List, length, codes, slice_index}
use Rattle.std.specs.List.{list_all, list_any}
use Rattle.modules_conf.specs.declared.kind.Kind.{Kind}
use Rattle.modules_conf.specs.declared.kind.Kind.TheVariants.{Table, Iso2022Jp, Recode}

-- The letters, the digits and eight signs.
abbrev pub is_charmap_byte : ℕ → Bool
is_charmap_byte b =
    (nat_le 65 b && nat_le b 90) || (nat_le 97 b && nat_le b 122) || (nat_le 48 b && nat_le b 57)
    || list_any (λ sign. b == sign) (codes "_-.,:+()")

-- A charmap word has 1 to 64 of these bytes, and doesn't begin with a dot.
abbrev pub is_charmap_word : List ℕ → Bool
is_charmap_word w =
    nat_le 1 (length w) && nat_le (length w) 64 && list_all is_charmap_byte w
    && not (slice_index w 0 == 46)

-- The words of a kind name charmaps.
abbrev pub names_charmaps : Kind → Bool
names_charmaps (Table map) = is_charmap_word map
names_charmaps (Iso2022Jp roman kanji) = is_charmap_word roman && is_charmap_word kanji
names_charmaps (Recode first second) = is_charmap_word first && is_charmap_word second
