-- How long pieces and streams may be, and how much is kept of them.
use Rattle.std.specs.Prelude.{ℕ, ◌^◌}

-- the most bytes that a piece may have
abbrev pub longest_piece : ℕ
longest_piece = 65536

-- the most bytes that all pieces of a stream together may have
abbrev pub longest_stream : ℕ
longest_stream = 2 ^ 48

-- the most bytes of a stream that wait for its next piece: a unit of any set has at most one more
abbrev pub longest_tail : ℕ
longest_tail = 7

-- the most bytes of output that a byte of input comes to; a return sequence has no more either
abbrev pub most_each : ℕ
most_each = 8

-- how many bytes can wait beside those that are joined to them
abbrev pub tail_room : ℕ
tail_room = 16
