-- The large input that the program makes itself, for a number.
use Rattle.std.specs.Prelude.{ℕ, ◌+◌, ◌-◌, ◌*◌, ◌/◌, ◌%◌, ◌==◌, List, [], ◌∷◌, ◌++◌, map, codes, nat_lt, if◌then◌else◌, zero, suc}
use Rattle.std.specs.List.{concat, range_with_len, position_or_len}
use Rattle.std.specs.Fmt.{decimal}
use Rattle.outside.specs.Shelves.{File, Shelf}
use Rattle.outside.specs.Stored.{shelf_of}
use Rattle.batch_jobs.specs.Limits.{made_charmaps, made_lines, made_jobs, made_points}
use Rattle.batch_jobs.specs.declared.generated.Generated.{Generated}
use Rattle.batch_jobs.specs.Jobs.{Text}
use Rattle.batch_jobs.specs.Refusals.{hex_text}

-- The texts of a run, the charmaps of its library and the files of its jobs.
pub record Input : Type 0 where
  pub modules : Text
  pub bindings : Text
  pub charmaps : Shelf
  pub jobs : Text
  pub files : Shelf

-- What contracts see of an input that was made.
abbrev pub input_of : Generated → Input
input_of g = record {
  modules = g.modules.items;
  bindings = g.bindings.items;
  charmaps = shelf_of g.charmaps.items;
  jobs = g.jobs.items;
  files = shelf_of g.files.items;
}

-- The module lines of a set: its charmap reads and writes it.
abbrev pub module_lines : ℕ → Text
module_lines set = codes "module GEN-" ++ (decimal set ++ (codes "// INTERNAL GEN" ++ (decimal set
    ++ (codes " 1\nmodule INTERNAL GEN-" ++ (decimal set ++ (codes "// GEN" ++ (decimal set ++ codes " 1\n")))))))

-- The module lines of all sets.
unfoldable pub all_modules : Text
all_modules = concat (map module_lines (range_with_len 0 made_charmaps))

-- The modules: those of each set, and a recoding from the first to the second.
abbrev pub modules_text : Text
modules_text = all_modules ++ codes "module GEN-0// GEN-1// GENR 1\n"

-- The binding of a set: the table of its charmap.
abbrev pub binding_line : ℕ → Text
binding_line set = codes "GEN" ++ (decimal set ++ (codes " table G" ++ (decimal set ++ codes "\n")))

-- The bindings of all sets.
unfoldable pub all_bindings : Text
all_bindings = concat (map binding_line (range_with_len 0 made_charmaps))

-- The bindings: those of each set, and the recoding.
abbrev pub bindings_text : Text
bindings_text = all_bindings ++ codes "GENR recode G0 G1\n"

-- A job of this number, between two sets that differ.
abbrev pub job_line : ℕ → Text
job_line job = codes "GEN-" ++ (decimal (job % made_charmaps)
    ++ (codes " GEN-" ++ (decimal ((3 * job + 1) % made_charmaps)
    ++ (codes " in-" ++ (decimal job ++ (codes " out-" ++ (decimal job ++ codes "\n")))))))

-- The jobs, from 1.
unfoldable pub jobs_text : Text
jobs_text = concat (map job_line (range_with_len 1 made_jobs))

-- How far above 4E00 hex the point of a line of a charmap is.
abbrev pub above_at : ℕ → ℕ → ℕ → ℕ
above_at number charmap line = (line * (2 * charmap + 1) + number) % made_lines

-- The code of a line.
abbrev pub code_at : ℕ → Text
code_at line = (0x81 + line / 64) ∷ (0x40 + line % 64) ∷ []

-- A hexadecimal digit in lower case.
abbrev pub low_digit : ℕ → ℕ
low_digit d = if nat_lt d 10 then 48 + d else 87 + d

-- A byte of a code: an escape, and two hexadecimal digits in lower case.
abbrev pub spelled_byte : ℕ → Text
spelled_byte b = codes "/x" ++ (low_digit (b / 16) ∷ low_digit (b % 16) ∷ [])

-- A line that maps a point to two bytes. The point has four hexadecimal digits in upper case.
abbrev pub mapping_text : ℕ → ℕ → ℕ → Text
mapping_text point first second = codes "<U" ++ (hex_text (point / 256 ∷ point % 256 ∷ [])
    ++ (codes "> " ++ (spelled_byte first ++ (spelled_byte second ++ codes "\n"))))

-- A mapping line of a charmap.
abbrev pub mapping_line : ℕ → ℕ → ℕ → Text
mapping_line number charmap line =
    mapping_text (0x4E00 + above_at number charmap line) (0x81 + line / 64) (0x40 + line % 64)

-- The mapping lines of a charmap.
unfoldable pub all_mappings : ℕ → ℕ → Text
all_mappings number charmap = concat (map (mapping_line number charmap) (range_with_len 0 made_lines))

-- The text of a charmap: ASCII in one byte, and then the points of its lines in two bytes.
abbrev pub charmap_text : ℕ → ℕ → Text
charmap_text number charmap =
    codes "<escape_char> /\n<comment_char> %\nCHARMAP\n<U0000>..<U007F> /x00\n"
    ++ (all_mappings number charmap ++ codes "END CHARMAP\n")

-- The file of a charmap.
abbrev pub charmap_file : ℕ → ℕ → File
charmap_file number charmap =
    record { name = codes "gen/G" ++ decimal charmap; bytes = charmap_text number charmap }

-- The line of a charmap with the point that is so far above 4E00 hex: the first.
unfoldable pub line_with : ℕ → ℕ → ℕ → ℕ
line_with number charmap above =
    position_or_len (λ line. above_at number charmap line == above) (range_with_len 0 made_lines)

-- A point as a charmap spells it: in one byte, or by the code of its line.
abbrev pub spelled : ℕ → ℕ → ℕ → Text
spelled number charmap point =
    if nat_lt point 128 then point ∷ [] else code_at (line_with number charmap (point - 0x4E00))

-- The number that follows a number: a linear congruence modulo 2^31.
abbrev pub next_seed : ℕ → ℕ
next_seed seed = (1103515245 * seed + 12345) % 2147483648

-- The point of a number: a printing ASCII character, or one of 1,024 points from 4E00 hex on.
abbrev pub point_at : ℕ → ℕ
point_at seed =
    if (seed / 65536) % 4 == 0 then 32 + (seed / 262144) % 95 else 0x4E00 + (seed / 262144) % 1024

-- The points of so many numbers, each of which follows the one before.
unfoldable pub points : ℕ → ℕ → List ℕ
points seed zero = []
points seed (suc more) = point_at (next_seed seed) ∷ points (next_seed seed) more

-- Points as a charmap spells them.
abbrev pub spelled_all : ℕ → ℕ → List ℕ → Text
spelled_all number charmap ps = concat (map (spelled number charmap) ps)

-- The bytes of a job's input.
abbrev pub spelled_points : ℕ → ℕ → Text
spelled_points number job =
    spelled_all number (job % made_charmaps) (points (64 * number + job) made_points)

-- The file of a job's input.
abbrev pub input_file : ℕ → ℕ → File
input_file number job =
    record { name = codes "in-" ++ decimal job; bytes = spelled_points number job }

-- The input of a number.
abbrev pub generated : ℕ → Input
generated number = record {
  modules = modules_text;
  bindings = bindings_text;
  charmaps = map (charmap_file number) (range_with_len 0 made_charmaps);
  jobs = jobs_text;
  files = map (input_file number) (range_with_len 1 made_jobs);
}
