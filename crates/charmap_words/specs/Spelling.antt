-- The second word of a mapping line: a code, its bytes spelled by an escape character and digits.
use Rattle.std.specs.Prelude.{ℕ, zero, suc, ◌+◌, Bool, ◌&&◌, ◌==◌, if◌then◌else◌, nat_lt, List, [], ◌∷◌, length, drop, Option, Some, None, Result, Ok, Err}
use Rattle.charmap_words.specs.Digits.{is_octal, is_decimal, is_hex, number}
use Rattle.charmap_words.specs.declared.codes.CodeFault.{CodeFault}
use Rattle.charmap_words.specs.declared.codes.CodeFault.TheVariants.{BadCode, CodeLength}

-- Two bytes, where both are digits.
abbrev pub two_digits : (ℕ → Bool) → ℕ → ℕ → List ℕ
two_digits p a b = if p a && p b then a ∷ b ∷ [] else []

-- The digits at the front, where two stand there.
abbrev pub two_taken : (ℕ → Bool) → List ℕ → List ℕ
two_taken p [] = []
two_taken p (a ∷ []) = []
two_taken p (a ∷ b ∷ more) = two_digits p a b

-- The digits at the front: three where three stand there, else two where two do.
abbrev pub three_taken : (ℕ → Bool) → List ℕ → List ℕ
three_taken p [] = []
three_taken p (a ∷ []) = []
three_taken p (a ∷ b ∷ []) = two_digits p a b
three_taken p (a ∷ b ∷ c ∷ more) = if p a && p b && p c then a ∷ b ∷ c ∷ [] else two_digits p a b

-- The byte of these digits in a base, and how many bytes spell it with those that stand before.
abbrev pub byte_of : ℕ → ℕ → List ℕ → Option (ℕ × ℕ)
byte_of base before [] = None
byte_of base before (d ∷ ds) =
    if nat_lt (number base (d ∷ ds)) 256
    then Some (number base (d ∷ ds), before + length (d ∷ ds)) else None

-- The byte that is spelled behind the escape character: x and two hexadecimal digits, d and two or
-- three decimal ones, or two or three octal ones.
abbrev pub byte_behind : List ℕ → Option (ℕ × ℕ)
byte_behind [] = None
byte_behind (f ∷ fs) =
    if f == 120 then byte_of 16 2 (two_taken is_hex fs)
    else (if f == 100 then byte_of 10 2 (three_taken is_decimal fs)
    else byte_of 8 1 (three_taken is_octal (f ∷ fs)))

-- The byte that is spelled at the front, and how many bytes of the word spell it.
abbrev pub byte_at : ℕ → List ℕ → Option (ℕ × ℕ)
byte_at escape [] = None
byte_at escape (e ∷ es) = if e == escape then byte_behind es else None

-- A byte before others, where there are any.
abbrev pub with_byte : ℕ → Option (List ℕ) → Option (List ℕ)
with_byte b None = None
with_byte b (Some bs) = Some (b ∷ bs)

-- The byte at the front of a word, where one is spelled there, and behind it what the rest spells.
abbrev pub byte_and_rest : Option (ℕ × ℕ) → List ℕ → (List ℕ → Option (List ℕ)) → Option (List ℕ)
byte_and_rest None word rest = None
byte_and_rest (Some p) word rest = with_byte p.0 (rest (drop p.1 word))

-- The bytes that a word spells, one after another, of which there are at most n.
abbrev pub bytes_within : ℕ → ℕ → List ℕ → Option (List ℕ)
bytes_within n escape [] = Some []
bytes_within zero escape (c ∷ cs) = None
bytes_within (suc n) escape (c ∷ cs) =
    byte_and_rest (byte_at escape (c ∷ cs)) (c ∷ cs) (bytes_within n escape)

-- The bytes that a word spells: each takes some bytes of it.
abbrev pub spelled : ℕ → List ℕ → Option (List ℕ)
spelled escape word = bytes_within (length word) escape word

-- The code of these bytes: one at least, and four at most.
abbrev pub code_of_bytes : Option (List ℕ) → Result (List ℕ) CodeFault
code_of_bytes None = Err BadCode
code_of_bytes (Some []) = Err BadCode
code_of_bytes (Some (b ∷ bs)) = if nat_lt 4 (length (b ∷ bs)) then Err CodeLength else Ok (b ∷ bs)

-- The code that a word spells.
abbrev pub code_spelled : ℕ → List ℕ → Result (List ℕ) CodeFault
code_spelled escape word = code_of_bytes (spelled escape word)
