-- The lines before the mapping lines.
use Rattle.std.specs.Prelude.{ℕ, Bool, ◌&&◌, ◌||◌, not, ◌==◌, if◌then◌else◌, nat_le, List, length, fold, codes, Option, Some, None, slice_index}
use Rattle.std.specs.Str.{bytes_eq}
use Rattle.charmap_reader.specs.Rows.{Row, is_skipped}
use Rattle.charmap_reader.specs.declared.fault.MapKind.{MapKind}
use Rattle.charmap_reader.specs.declared.fault.MapKind.TheVariants.{BadLine}
pub use Rattle.charmap_reader.specs.declared.signs.Signs.{Signs}

-- The characters that hold until a header line changes them: \ and #.
abbrev pub usual_signs : Signs
usual_signs = record { escape = 92; comment = 35 }

-- The line names the escape character.
abbrev pub is_escape_line : Row → Bool
is_escape_line row = bytes_eq row.first (codes "<escape_char>")

-- The line names the comment character.
abbrev pub is_comment_line : Row → Bool
is_comment_line row = bytes_eq row.first (codes "<comment_char>")

-- The line asks for another text.
abbrev pub is_refused_line : Row → Bool
is_refused_line row =
    bytes_eq row.first (codes "<include>") || bytes_eq row.first (codes "<addset>")

-- The word is one printed character other than <.
abbrev pub is_sign : List ℕ → Bool
is_sign w =
    length w == 1 && nat_le 0x21 (slice_index w 0) && nat_le (slice_index w 0) 0x7E
    && not (slice_index w 0 == 60)

-- The characters in force behind a header line, from those before it.
abbrev pub signs_after : Signs → Row → Signs
signs_after signs row =
    if is_skipped signs.comment row.first then signs
    else (if is_escape_line row
    then record { escape = slice_index row.second 0; comment = signs.comment }
    else (if is_comment_line row
    then record { escape = signs.escape; comment = slice_index row.second 0 } else signs))

-- The characters in force behind some header lines.
abbrev pub signs_behind : List Row → Signs
signs_behind before = fold signs_after usual_signs before

-- The fault of a header line.
abbrev pub header_fault : Signs → Row → Option MapKind
header_fault signs row =
    if is_skipped signs.comment row.first then None
    else (if is_refused_line row then Some BadLine
    else (if (is_escape_line row || is_comment_line row) && not (is_sign row.second)
    then Some BadLine else None))

-- The line ends the header.
abbrev pub is_start : Signs → Row → Bool
is_start signs row =
    not (is_skipped signs.comment row.first) && bytes_eq row.first (codes "CHARMAP")
