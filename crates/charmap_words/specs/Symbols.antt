-- The first word of a mapping line: a symbol, or two with dots between them.
use Rattle.std.specs.Prelude.{ℕ, ◌-◌, Bool, ◌&&◌, ◌||◌, ◌==◌, if◌then◌else◌, nat_eq, List, [], length, take, drop, codes, Option, Some, None, slice_index}
use Rattle.std.specs.List.{list_all, starts_with}
use Rattle.std.specs.Option.{option_or}
use Rattle.code_pairs.specs.Tables.{is_point}
use Rattle.charmap_words.specs.Digits.{is_hex, number}
pub use Rattle.charmap_words.specs.declared.symbols.Span.{Span}

-- What stands between the first two bytes of a word and its last.
abbrev pub inner : List ℕ → List ℕ
inner w = take (length w - 3) (drop 2 w)

-- The word has the form of a symbol: <U, then 4 or 8 hexadecimal digits, then >.
abbrev pub is_symbol : List ℕ → Bool
is_symbol w =
    (length w == 7 || length w == 11) && starts_with nat_eq w (codes "<U")
    && list_all is_hex (inner w) && slice_index w (length w - 1) == 62

-- The point that a symbol stands for.
abbrev pub symbol : List ℕ → Option ℕ
symbol w =
    if is_symbol w && is_point (number 16 (inner w)) then Some (number 16 (inner w)) else None

-- What stands behind two or three dots; no bytes where there are none.
abbrev pub behind_dots : List ℕ → List ℕ
behind_dots w =
    if starts_with nat_eq w (codes "...") then drop 3 w
    else (if starts_with nat_eq w (codes "..") then drop 2 w else [])

-- A span from a first point to a last one, where both are there.
abbrev pub span : Option ℕ → Option ℕ → Option Span
span None last = None
span (Some first) None = None
span (Some first) (Some last) = Some (record { first = first; last = last })

-- The span of a word whose first n bytes are a symbol, and which has another behind dots.
abbrev pub dotted : ℕ → List ℕ → Option Span
dotted n w = span (symbol (take n w)) (symbol (behind_dots (drop n w)))

-- The span of a word: a symbol's own point, or those of two symbols, the first of 7 or of 11 bytes.
abbrev pub span_of : List ℕ → Option Span
span_of w = option_or (span (symbol w) (symbol w)) (option_or (dotted 7 w) (dotted 11 w))
