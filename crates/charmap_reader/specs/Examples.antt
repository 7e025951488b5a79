-- Small charmap texts, by computation.
use Rattle.std.specs.Prelude.{◌≡◌, ℕ, List, refl, codes, [], ◌∷◌, ◌++◌, Ok, Err, length, Result}
use Rattle.code_pairs.specs.declared.Pair.{Pair}
use Rattle.charmap_words.specs.Digits.{digit}
use Rattle.charmap_reader.specs.Charmap.{charmap_of}
use Rattle.charmap_reader.specs.declared.fault.MapKind.{MapKind}
use Rattle.charmap_reader.specs.declared.fault.MapKind.TheVariants.{NoStart, NoEnd, BadLine, Symbol, BadCode, CodeLength, BadRange, Compressed}
use Rattle.charmap_reader.specs.declared.fault.MapFault.{MapFault}

-- A text with these mapping lines, of which the first is line 4.
abbrev pub charmap : List ℕ → List ℕ
charmap text =
    codes "<escape_char> /" ++ 10 ∷ codes "<comment_char> %" ++ 10 ∷ codes "CHARMAP" ++ 10 ∷ text
    ++ 10 ∷ codes "END CHARMAP" ++ 10 ∷ []

abbrev pub a_pair : ℕ → List ℕ → Pair
a_pair point code = record { point = point; code = code }

abbrev pub bad : MapKind → ℕ → Result (List Pair) MapFault
bad kind line = Err (record { kind = kind; line = line })

pub a_range : charmap_of (charmap (codes "<U0041>..<U0044> /x81/xfe"))
    ≡ Ok (a_pair 0x41 (0x81 ∷ 0xFE ∷ []) ∷ a_pair 0x42 (0x81 ∷ 0xFF ∷ [])
    ∷ a_pair 0x43 (0x82 ∷ 0x00 ∷ []) ∷ a_pair 0x44 (0x82 ∷ 0x01 ∷ []) ∷ [])
unfolding digit
a_range = refl

pub no_symbol : charmap_of (charmap (codes "A /x41")) ≡ bad Symbol 4
unfolding digit
no_symbol = refl

pub no_code : charmap_of (charmap (codes "<U0041>")) ≡ bad BadLine 4
unfolding digit
no_code = refl

pub half_a_byte : charmap_of (charmap (codes "<U0041> /x4")) ≡ bad BadCode 4
unfolding digit
half_a_byte = refl

pub five_bytes : charmap_of (charmap (codes "<U0041> /x01/x02/x03/x04/x05")) ≡ bad CodeLength 4
unfolding digit
five_bytes = refl

pub a_backward_range : charmap_of (charmap (codes "<U0044>..<U0041> /x41")) ≡ bad BadRange 4
unfolding digit
a_backward_range = refl

pub a_longer_code : charmap_of (charmap (codes "<U0041>..<U0043> /xfe")) ≡ bad BadRange 4
unfolding digit
a_longer_code = refl

pub twice : charmap_of (charmap (codes "<U0041> /x41" ++ 10 ∷ codes "<U0041> /x42"))
    ≡ Ok (a_pair 0x41 (0x41 ∷ []) ∷ a_pair 0x41 (0x42 ∷ []) ∷ [])
unfolding digit
twice = refl

pub no_text : charmap_of [] ≡ bad NoStart 0
no_text = refl

pub only_a_start : charmap_of (codes "CHARMAP") ≡ bad NoEnd 1
only_a_start = refl

pub a_header_alone :
    charmap_of (codes "<code_set_name> X" ++ 10 ∷ codes "# CHARMAP" ++ 10 ∷ 10 ∷ []) ≡ bad NoStart 3
a_header_alone = refl

pub compressed : charmap_of (0x1F ∷ 0x8B ∷ []) ≡ bad Compressed 0
compressed = refl

pub all_spellings :
    charmap_of (charmap (codes "<U00000041>...<U0041> /d65/101 x" ++ 10 ∷ codes "  % <U0041> /x41"
    ++ 10 ∷ codes " %IRREVERSIBLE%<U0041> /x41"))
    ≡ Ok (a_pair 0x41 (65 ∷ 65 ∷ []) ∷ [])
unfolding digit
all_spellings = refl

-- The usual characters, a line that ends with CR LF, equal ends, and lines behind the end.
pub usual_characters :
    charmap_of (codes "CHARMAP" ++ 13 ∷ 10 ∷ codes "# comment"
    ++ 10 ∷ codes "<U0041>..<U0041> \\x41" ++ 13 ∷ 10 ∷ codes "END CHARMAP x" ++ 10 ∷ codes "WIDTH")
    ≡ Ok (a_pair 0x41 (0x41 ∷ []) ∷ [])
unfolding digit
usual_characters = refl

pub another_end : charmap_of (charmap (codes "END WIDTH")) ≡ bad Symbol 4
unfolding digit
another_end = refl

pub an_include : charmap_of (codes "<include> X") ≡ bad BadLine 1
an_include = refl

pub a_missing_sign :
    charmap_of (codes "<mb_cur_max> 1" ++ 10 ∷ codes "<escape_char>") ≡ bad BadLine 2
a_missing_sign = refl

pub a_refused_sign : charmap_of (codes "<comment_char> <") ≡ bad BadLine 1
a_refused_sign = refl

-- A comment character that begins the line that would end the header hides it.
pub a_hidden_start : charmap_of (codes "<comment_char> C" ++ 10 ∷ codes "CHARMAP") ≡ bad NoStart 2
a_hidden_start = refl

-- A comment character that begins the line that would end the mapping lines hides it.
pub a_hidden_end :
    charmap_of (codes "<comment_char> E" ++ 10 ∷ codes "CHARMAP" ++ 10 ∷ codes "END CHARMAP")
    ≡ bad NoEnd 3
a_hidden_end = refl

-- A change holds from the next line on, and the last one counts.
pub a_last_sign :
    charmap_of (codes "<escape_char> x" ++ 10 ∷ codes "<escape_char> 1" ++ 10 ∷ codes "CHARMAP"
    ++ 10 ∷ codes "<U0041> 1101" ++ 10 ∷ codes "END CHARMAP")
    ≡ Ok (a_pair 0x41 (65 ∷ []) ∷ [])
unfolding digit
a_last_sign = refl

-- The first of two faults counts.
pub the_first_fault :
    charmap_of (charmap (codes "<U0041> /x4" ++ 10 ∷ codes "A /x41")) ≡ bad BadCode 4
unfolding digit
the_first_fault = refl

-- A range over the surrogates.
pub surrogates : charmap_of (charmap (codes "<UD7FE>..<UE001> /x40/x00")) ≡ bad BadRange 4
unfolding digit
surrogates = refl

abbrev pub count_of : Result (List Pair) MapFault → ℕ
count_of (Ok pairs) = length pairs
count_of (Err fault) = 0

-- A whole set of one byte.
pub a_whole_set : count_of (charmap_of (charmap (codes "<U0000>..<U00FF> /x00"))) ≡ 256
unfolding digit
a_whole_set = refl
