-- Words of mapping lines, by computation.
use Rattle.std.specs.Prelude.{◌≡◌, ℕ, [], ◌∷◌, codes, Option, Some, None, Ok, Err, refl}
use Rattle.charmap_words.specs.Digits.{digit}
use Rattle.charmap_words.specs.Symbols.{Span, span_of}
use Rattle.charmap_words.specs.Spelling.{code_spelled}
use Rattle.charmap_words.specs.declared.codes.CodeFault.TheVariants.{BadCode, CodeLength}

abbrev pub from_to : ℕ → ℕ → Option Span
from_to first last = Some (record { first = first; last = last })

pub one_point : span_of (codes "<U0041>") ≡ from_to 0x41 0x41
unfolding digit
one_point = refl

pub eight_digits : span_of (codes "<U0010fFfF>") ≡ from_to 0x10FFFF 0x10FFFF
unfolding digit
eight_digits = refl

pub two_dots : span_of (codes "<U0041>..<U00000044>") ≡ from_to 0x41 0x44
unfolding digit
two_dots = refl

pub three_dots : span_of (codes "<U00000041>...<U0040>") ≡ from_to 0x41 0x40
unfolding digit
three_dots = refl

pub four_dots : span_of (codes "<U0041>....<U0044>") ≡ None
unfolding digit
four_dots = refl

pub one_dot : span_of (codes "<U0041>.<U0044>") ≡ None
unfolding digit
one_dot = refl

pub a_surrogate : span_of (codes "<UD800>") ≡ None
unfolding digit
a_surrogate = refl

pub past_the_last : span_of (codes "<U00110000>") ≡ None
unfolding digit
past_the_last = refl

pub six_digits : span_of (codes "<U000041>") ≡ None
unfolding digit
six_digits = refl

pub no_digit : span_of (codes "<U004G>") ≡ None
unfolding digit
no_digit = refl

pub a_name : span_of (codes "A") ≡ None
unfolding digit
a_name = refl

pub something_behind : span_of (codes "<U0041>..<U0044>x") ≡ None
unfolding digit
something_behind = refl

pub all_spellings : code_spelled 47 (codes "/xfE/d09/d254/07/377") ≡ Err CodeLength
unfolding digit
all_spellings = refl

pub four_spellings : code_spelled 47 (codes "/xfE/d09/d254/377") ≡ Ok (254 ∷ 9 ∷ 254 ∷ 255 ∷ [])
unfolding digit
four_spellings = refl

pub two_octal : code_spelled 47 (codes "/07/10") ≡ Ok (7 ∷ 8 ∷ [])
unfolding digit
two_octal = refl

pub cut_digits : code_spelled 47 (codes "/x4") ≡ Err BadCode
unfolding digit
cut_digits = refl

pub above_decimal : code_spelled 47 (codes "/d256") ≡ Err BadCode
unfolding digit
above_decimal = refl

pub above_octal : code_spelled 47 (codes "/400") ≡ Err BadCode
unfolding digit
above_octal = refl

pub no_octal : code_spelled 47 (codes "/018") ≡ Err BadCode
unfolding digit
no_octal = refl

pub one_octal : code_spelled 47 (codes "/7") ≡ Err BadCode
unfolding digit
one_octal = refl

pub digit_escape : code_spelled 49 (codes "1101") ≡ Ok (65 ∷ [])
unfolding digit
digit_escape = refl

pub x_escape : code_spelled 120 (codes "xx41x101") ≡ Ok (65 ∷ 65 ∷ [])
unfolding digit
x_escape = refl

pub another_escape : code_spelled 92 (codes "/x41") ≡ Err BadCode
unfolding digit
another_escape = refl

pub a_fault_behind : code_spelled 47 (codes "/x01/x02/x03/x04/x05/") ≡ Err BadCode
unfolding digit
a_fault_behind = refl

pub no_word : code_spelled 47 [] ≡ Err BadCode
unfolding digit
no_word = refl
