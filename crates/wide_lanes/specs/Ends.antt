-- Units of UTF-8 told by where they end: each byte is taken with the two before it.
use Rattle.std.specs.Prelude.{◌≡◌, ℕ, ◌+◌, ◌*◌, ◌-◌, ◌/◌, ◌%◌, Bool, true, false, ◌&&◌, ◌||◌, List, [], ◌∷◌, ◌++◌, nat_le, nat_lt, nat_eq, if◌then◌else◌, map}

-- a byte, the one before it, and the one before that
pub record Window : Type 0 where
  pub two : ℕ
  pub one : ℕ
  pub here : ℕ

-- each byte of a text, where a and b stand before it
abbrev pub windows : ℕ → ℕ → List ℕ → List Window
windows a b [] = []
windows a b (c ∷ bytes) = record { two = a; one = b; here = c } ∷ windows b c bytes

-- these three vectors are the three bytes of each window
pub record AreBytes (ws : List Window) (twos ones heres : List ℕ) : Type 0 where
  pub two : twos ≡ map (λ (w : Window). w.two) ws
  pub one : ones ≡ map (λ (w : Window). w.one) ws
  pub here : heres ≡ map (λ (w : Window). w.here) ws

-- whether a byte is one of `count` from `from` on
abbrev pub is_in : ℕ → ℕ → ℕ → Bool
is_in from count b = nat_le from b && nat_lt b (from + count)

-- FF hex for a test that holds, and 0 for one that doesn't
abbrev pub flag : Bool → ℕ
flag t = if t then 255 else 0

-- whether the bytes before it ask for a later byte of a unit: the first byte of two or three, or, two before, of three
abbrev pub goes_on : Window → Bool
goes_on w = is_in 0xC2 0x2E w.one || is_in 0xE0 0x10 w.two

-- whether one of two tests holds, and not both
abbrev pub either : Bool → Bool → Bool
either s t = if s then (if t then false else true) else t

-- whether the byte can't stand there in units of one to three bytes
abbrev pub is_wrong : Window → Bool
is_wrong w =
    either (is_in 0x80 0x40 w.here) (goes_on w) || (is_in 0xC0 2 w.here || (is_in 0xF0 0x10 w.here
    || ((is_in 0xE0 1 w.one && is_in 0 0xA0 w.here) || (is_in 0xED 1 w.one && is_in 0xA0 0x60 w.here))))

-- whether a unit ends there
abbrev pub ends : Window → Bool
ends w = is_in 0 0x80 w.here || (is_in 0xC2 0x1E w.one || is_in 0xE0 0x10 w.two)

-- what the unit that ends there gives, in three parts: six bits of the byte, or seven, six of the one before,
-- and four of the one before that
abbrev pub low_part : Window → ℕ
low_part w = (w.here + (256 - (if is_in 0x80 0x40 w.here then 0x80 else 0))) % 256

abbrev pub middle_part : Window → ℕ
middle_part w = if is_in 0x80 0x40 w.here then w.one % 64 else 0

abbrev pub high_part : Window → ℕ
high_part w = if is_in 0xE0 0x10 w.two then w.two % 16 else 0

abbrev pub point_at : Window → ℕ
point_at w = ((low_part w + middle_part w * 64 % 65536) % 65536 + high_part w * 4096 % 65536) % 65536

-- the numbers at the bits that are set, lowest ones first
abbrev pub picked : ℕ → List ℕ → List ℕ
picked mask [] = []
picked mask (p ∷ q) = if nat_eq (mask % 2) 1 then p ∷ picked (mask / 2) q else picked (mask / 2) q

-- what pairs of bytes become, each by its bit, lowest ones first
abbrev pub by_bits : (Bool → ℕ → ℕ → List ℕ) → ℕ → List ℕ → List ℕ
by_bits becomes mask (a ∷ b ∷ bytes) = becomes (nat_eq (mask % 2) 1) a b ++ by_bits becomes (mask / 2) bytes
by_bits becomes mask _ = []

-- both bytes where the bit is set, else none
abbrev pub both_or_none : Bool → ℕ → ℕ → List ℕ
both_or_none t a b = if t then a ∷ b ∷ [] else []

-- both bytes where the bit is set, else the first
abbrev pub both_or_first : Bool → ℕ → ℕ → List ℕ
both_or_first t a b = if t then a ∷ b ∷ [] else a ∷ []

-- the pair the other way round and two 0 before it where the bit is set, else none
abbrev pub four_or_none : Bool → ℕ → ℕ → List ℕ
four_or_none t a b = if t then 0 ∷ 0 ∷ b ∷ a ∷ [] else []

-- the pairs of bytes at the bits that are set
abbrev pub picked_pairs : ℕ → List ℕ → List ℕ
picked_pairs mask bytes = by_bits both_or_none mask bytes

-- how many of sixteen bytes are whole units, by the last two of them
abbrev pub whole_of : ℕ → ℕ → ℕ
whole_of a b = if nat_le 0xC2 b then 15 else if nat_le 0xE0 a then 14 else 16
