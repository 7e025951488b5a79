-- Symbols and spelled bytes as they are read, place by place. No public clause cites it: `proofs/` shows
-- that each is what the definitions beside this file say.
use Rattle.std.specs.Prelude.{ℕ, ◌+◌, ◌*◌, ◌&&◌, ◌==◌, if◌then◌else◌, nat_le, nat_lt, List, length, Option, Some, None, slice_index}
use Rattle.code_pairs.specs.Tables.{is_point}
use Rattle.charmap_words.specs.Digits.{is_decimal, is_octal, is_hex, digit}

-- The number of four hexadecimal digits from a place on.
unfoldable pub four : List ℕ → ℕ → Option ℕ
four text k =
    if is_hex (slice_index text k) && is_hex (slice_index text (k + 1))
    && is_hex (slice_index text (k + 2)) && is_hex (slice_index text (k + 3))
    then Some (4096 * digit (slice_index text k) + 256 * digit (slice_index text (k + 1))
    + 16 * digit (slice_index text (k + 2)) + digit (slice_index text (k + 3)))
    else None

-- The number of eight digits, by its high four and its low four.
abbrev pub eight : Option ℕ → Option ℕ → Option ℕ
eight None low = None
eight (Some high) None = None
eight (Some high) (Some low) = Some (65536 * high + low)

-- The number that a symbol of 7 or 11 bytes spells.
unfoldable pub number_in : List ℕ → Option ℕ
number_in text =
    if length text == 7 && slice_index text 0 == 60 && slice_index text 1 == 85
    && slice_index text 6 == 62 then four text 2
    else (if length text == 11 && slice_index text 0 == 60 && slice_index text 1 == 85
    && slice_index text 10 == 62 then eight (four text 2) (four text 6) else None)

-- A number that is a point.
abbrev pub as_point : Option ℕ → Option ℕ
as_point None = None
as_point (Some n) = if is_point n then Some n else None

-- A byte of that value, spelled by so many.
abbrev pub small : ℕ → ℕ → Option (ℕ × ℕ)
small value taken = if nat_lt value 256 then Some (value, taken) else None

-- The number of two digits from a place on, and of three.
abbrev pub two_at : ℕ → List ℕ → ℕ → ℕ
two_at base text k = base * digit (slice_index text k) + digit (slice_index text (k + 1))

abbrev pub three_at : ℕ → List ℕ → ℕ → ℕ
three_at base text k = base * two_at base text k + digit (slice_index text (k + 2))

-- A byte of two hexadecimal digits behind two bytes.
unfoldable pub hex_byte : List ℕ → Option (ℕ × ℕ)
hex_byte text =
    if nat_le 4 (length text) && is_hex (slice_index text 2) && is_hex (slice_index text 3)
    then Some (two_at 16 text 2, 4) else None

-- A byte of three or two decimal digits behind two bytes.
unfoldable pub decimal_byte : List ℕ → Option (ℕ × ℕ)
decimal_byte text =
    if nat_le 5 (length text) && is_decimal (slice_index text 2)
    && is_decimal (slice_index text 3) && is_decimal (slice_index text 4)
    then small (three_at 10 text 2) 5
    else (if nat_le 4 (length text) && is_decimal (slice_index text 2)
    && is_decimal (slice_index text 3) then Some (two_at 10 text 2, 4) else None)

-- A byte of three or two octal digits behind one byte.
unfoldable pub octal_byte : List ℕ → Option (ℕ × ℕ)
octal_byte text =
    if nat_le 4 (length text) && is_octal (slice_index text 1)
    && is_octal (slice_index text 2) && is_octal (slice_index text 3)
    then small (three_at 8 text 1) 4
    else (if nat_le 3 (length text) && is_octal (slice_index text 1)
    && is_octal (slice_index text 2) then Some (two_at 8 text 1, 3) else None)

-- The byte that is spelled at the front.
unfoldable pub byte_in : ℕ → List ℕ → Option (ℕ × ℕ)
byte_in escape text =
    if nat_le 2 (length text) && slice_index text 0 == escape
    then (if slice_index text 1 == 120 then hex_byte text
    else (if slice_index text 1 == 100 then decimal_byte text else octal_byte text))
    else None
