-- Points below 80 hex in the sets that read and write them at once.
use Rattle.std.proofs.Common.{◌≡◌, ℕ, ◌<◌, ◌≤◌, ◌/◌, ◌%◌, List, [], ◌∷◌, ◌++◌, length, take, Option, Some, refl, ap, sym, ◌∙◌, subst, arith}
use Rattle.std.proofs.lemmas.Bool.Decides.{nat_tests}
use Rattle.std.specs.List.{AllByRecursion, flat_map}
use Rattle.ascii_lanes.specs.Plain.{ArePlain}
use Rattle.unit_relations.specs.Units.{Piece, Reads}
use Rattle.step_unicode.specs.declared.set.State.{State}
use Rattle.step_unicode.specs.declared.set.Uni.TheVariants.{Ascii, Utf8, Utf16, Utf16Le, Utf16Be, Ucs4}
use Rattle.step_unicode.specs.declared.set.State.TheVariants.{Little, Big}
use Rattle.step_unicode.specs.Points.{IsPoint}
use Rattle.step_unicode.specs.Utf8.{utf8}
use Rattle.step_unicode.specs.Utf16.{utf16, little_bytes, big_bytes}
use Rattle.step_unicode.specs.Ucs4.{ucs4}
use Rattle.step_unicode.specs.Sets.{IsUnit, IsSpellable, spelling}
use Rattle.chain_steps.specs.Appended.{IsAppended}
use Rattle.chain_steps.specs.Blocks.{IsBlock, IsBlockPut}

-- the units of points of a form, one after another
all_reads : (P : ℕ → Type 0) (U : State → List ℕ → Option ℕ → State → Type 0) (s : State) (unit : ℕ → List ℕ) → ((p : ℕ) → P p → U s (unit p) (Some p) s) →
    (q : List ℕ) → AllByRecursion P q → Reads U s (flat_map unit q) q s
all_reads P U s unit is [] all = record { cut = []; units = refl; bytes = refl; points = refl }
all_reads P U s unit is (p ∷ q) all =
    let rest : Reads U s (flat_map unit q) q s = all_reads P U s unit is q all.1 in
    let piece : Piece State = record { bytes = unit p; point = Some p; state = s } in
    record {
      cut = piece ∷ rest.cut;
      units = (is p all.0, rest.units);
      bytes = ap (λ z. unit p ++ z) rest.bytes;
      points = ap (λ z. p ∷ z) rest.points;
    }

-- a block of such units
pub block_of : (P : ℕ → Type 0) (U : State → List ℕ → Option ℕ → State → Type 0) (s : State) (unit : ℕ → List ℕ) → ((p : ℕ) → P p → U s (unit p) (Some p) s) →
    (x q : List ℕ) (n : ℕ) → 0 < n → n ≤ length x → take n x ≡ flat_map unit q → AllByRecursion P q → IsBlock (AllByRecursion P) U s x q n
block_of P U s unit is x q n some within same all = record {
  some = some;
  within = within;
  form = all;
  reads = subst (λ z. Reads U s z q s) (sym same) (all_reads P U s unit is q all);
}

-- lists that are spelled point by point, where each point is spelled the same
pub spelled_same : (P : ℕ → Type 0) (f g : ℕ → List ℕ) → ((p : ℕ) → P p → f p ≡ g p) → (q : List ℕ) → AllByRecursion P q → flat_map f q ≡ flat_map g q
spelled_same P f g same [] all = refl
spelled_same P f g same (p ∷ q) all = ap (λ z. z ++ flat_map f q) (same p all.0) ∙ ap (λ z. g p ++ z) (spelled_same P f g same q all.1)

-- a byte for each point
pub bytes_alone : (q : List ℕ) → flat_map (λ p. p ∷ []) q ≡ q
bytes_alone [] = refl
bytes_alone (p ∷ q) = ap (λ z. p ∷ z) (bytes_alone q)

-- what one point of a form has, all have
pub all_have : (P Has : ℕ → Type 0) → ((p : ℕ) → P p → Has p) → (q : List ℕ) → AllByRecursion P q → AllByRecursion Has q
all_have P Has has [] all = tt
all_have P Has has (p ∷ q) all = (has p all.0, all_have P Has has q all.1)

-- a point below 80 hex
abbrev pub Low : ℕ → Type 0
Low p = p < 128

pub plain_point : (p : ℕ) → p < 128 → IsPoint p
plain_point p h = (omega arith, λ k. omega arith)

utf8_plain : (p : ℕ) → p < 128 → utf8 p ≡ p ∷ []
utf8_plain p h = grind (arith, nat_tests)

little_plain : (p : ℕ) → p < 128 → utf16 little_bytes p ≡ p ∷ 0 ∷ []
little_plain p h = grind (arith, nat_tests)

big_plain : (p : ℕ) → p < 128 → utf16 big_bytes p ≡ 0 ∷ p ∷ []
big_plain p h = grind (arith, nat_tests)

-- sixteen bytes in ASCII
pub ascii_block : (s : State) (x q : List ℕ) → 16 ≤ length x → take 16 x ≡ q → ArePlain q → IsBlock ArePlain (IsUnit Ascii) s x q 16
ascii_block s x q within same plain =
    block_of Low (IsUnit Ascii) s (λ p. p ∷ []) (λ p h. (p, (omega arith, refl), refl, refl)) x q 16 (omega arith) within (same ∙ sym (bytes_alone q)) plain

pub utf8_block : (s : State) (x q : List ℕ) → 16 ≤ length x → take 16 x ≡ q → ArePlain q → IsBlock ArePlain (IsUnit Utf8) s x q 16
utf8_block s x q within same plain =
    block_of Low (IsUnit Utf8) s (λ p. p ∷ []) (λ p h. (p, (omega arith, refl), refl, refl)) x q 16 (omega arith) within (same ∙ sym (bytes_alone q)) plain

pub little_block : (s : State) (x q : List ℕ) → 32 ≤ length x → take 32 x ≡ flat_map (λ p. p ∷ 0 ∷ []) q → ArePlain q → IsBlock ArePlain (IsUnit Utf16Le) s x q 32
little_block s x q within same plain =
    block_of Low (IsUnit Utf16Le) s (λ p. p ∷ 0 ∷ []) (λ p h. (p, (omega arith, omega arith, plain_point p h, omega arith), refl, refl)) x q 32 (omega arith) within same plain

-- the same in UTF-16 with a mark, once an order is known
pub marked_little_block : (x q : List ℕ) → 32 ≤ length x → take 32 x ≡ flat_map (λ p. p ∷ 0 ∷ []) q → ArePlain q → IsBlock ArePlain (IsUnit Utf16) Little x q 32
marked_little_block x q within same plain =
    block_of Low (IsUnit Utf16) Little (λ p. p ∷ 0 ∷ []) (λ p h. (p, (omega arith, omega arith, plain_point p h, omega arith), refl, refl)) x q 32 (omega arith) within same plain

pub marked_big_block : (x q : List ℕ) → 32 ≤ length x → take 32 x ≡ flat_map (λ p. 0 ∷ p ∷ []) q → ArePlain q → IsBlock ArePlain (IsUnit Utf16) Big x q 32
marked_big_block x q within same plain =
    block_of Low (IsUnit Utf16) Big (λ p. 0 ∷ p ∷ []) (λ p h. (p, (omega arith, omega arith, plain_point p h, omega arith), refl, refl)) x q 32 (omega arith) within same plain

-- sixteen units of UCS-4
pub four_block : (s : State) (x q : List ℕ) → 64 ≤ length x → take 64 x ≡ flat_map (λ p. 0 ∷ 0 ∷ 0 ∷ p ∷ []) q → ArePlain q → IsBlock ArePlain (IsUnit Ucs4) s x q 64
four_block s x q within same plain =
    block_of Low (IsUnit Ucs4) s (λ p. 0 ∷ 0 ∷ 0 ∷ p ∷ []) (λ p h. (p, (omega arith, omega arith, omega arith, omega arith, plain_point p h, omega arith), refl, refl)) x q 64 (omega arith) within same plain

pub big_block : (s : State) (x q : List ℕ) → 32 ≤ length x → take 32 x ≡ flat_map (λ p. 0 ∷ p ∷ []) q → ArePlain q → IsBlock ArePlain (IsUnit Utf16Be) s x q 32
big_block s x q within same plain =
    block_of Low (IsUnit Utf16Be) s (λ p. 0 ∷ p ∷ []) (λ p h. (p, (omega arith, omega arith, plain_point p h, omega arith), refl, refl)) x q 32 (omega arith) within same plain

-- sixteen points written in each of these sets
pub ascii_put : (t : State) (q : List ℕ) (at n : ℕ) (old new : List ℕ) → ArePlain q → IsAppended old new at n q → IsBlockPut (IsSpellable Ascii) (spelling Ascii) t q at old new n
ascii_put t q at n old new plain put = record { has = all_have Low (IsSpellable Ascii) (λ p h. omega arith) q plain; put = put; stays = refl }

pub utf8_put : (t : State) (q : List ℕ) (at n : ℕ) (old new : List ℕ) → ArePlain q → IsAppended old new at n q → IsBlockPut (IsSpellable Utf8) (spelling Utf8) t q at old new n
utf8_put t q at n old new plain put = record {
  has = all_have Low IsPoint plain_point q plain;
  put = subst (λ w. IsAppended old new at n w) (sym (spelled_same Low utf8 (λ p. p ∷ []) utf8_plain q plain ∙ bytes_alone q)) put;
  stays = refl;
}

pub little_put : (t : State) (q : List ℕ) (at n : ℕ) (old new : List ℕ) → ArePlain q → IsAppended old new at n (flat_map (λ p. p ∷ 0 ∷ []) q) →
    IsBlockPut (IsSpellable Utf16Le) (spelling Utf16Le) t q at old new n
little_put t q at n old new plain put = record {
  has = all_have Low IsPoint plain_point q plain;
  put = subst (λ w. IsAppended old new at n w) (sym (spelled_same Low (utf16 little_bytes) (λ p. p ∷ 0 ∷ []) little_plain q plain)) put;
  stays = refl;
}

pub big_put : (t : State) (q : List ℕ) (at n : ℕ) (old new : List ℕ) → ArePlain q → IsAppended old new at n (flat_map (λ p. 0 ∷ p ∷ []) q) →
    IsBlockPut (IsSpellable Utf16Be) (spelling Utf16Be) t q at old new n
big_put t q at n old new plain put = record {
  has = all_have Low IsPoint plain_point q plain;
  put = subst (λ w. IsAppended old new at n w) (sym (spelled_same Low (utf16 big_bytes) (λ p. 0 ∷ p ∷ []) big_plain q plain)) put;
  stays = refl;
}

-- the same in UTF-16 with a mark, once an order is known
pub marked_little_put : (q : List ℕ) (at n : ℕ) (old new : List ℕ) → ArePlain q → IsAppended old new at n (flat_map (λ p. p ∷ 0 ∷ []) q) →
    IsBlockPut (IsSpellable Utf16) (spelling Utf16) Little q at old new n
marked_little_put q at n old new plain put = record {
  has = all_have Low IsPoint plain_point q plain;
  put = subst (λ w. IsAppended old new at n w) (sym (spelled_same Low (utf16 little_bytes) (λ p. p ∷ 0 ∷ []) little_plain q plain)) put;
  stays = refl;
}

pub marked_big_put : (q : List ℕ) (at n : ℕ) (old new : List ℕ) → ArePlain q → IsAppended old new at n (flat_map (λ p. 0 ∷ p ∷ []) q) →
    IsBlockPut (IsSpellable Utf16) (spelling Utf16) Big q at old new n
marked_big_put q at n old new plain put = record {
  has = all_have Low IsPoint plain_point q plain;
  put = subst (λ w. IsAppended old new at n w) (sym (spelled_same Low (utf16 big_bytes) (λ p. 0 ∷ p ∷ []) big_plain q plain)) put;
  stays = refl;
}

four_plain : (p : ℕ) → p < 128 → ucs4 p ≡ 0 ∷ 0 ∷ 0 ∷ p ∷ []
four_plain p h =
    let a : p / 16777216 ≡ 0 = omega (arith, h) in
    let b : p / 65536 % 256 ≡ 0 = omega (arith, h) in
    let d : p / 256 % 256 ≡ 0 = omega (arith, h) in
    let e : p % 256 ≡ p = omega (arith, h) in
    λ i. a i ∷ b i ∷ d i ∷ e i ∷ []

-- sixteen points in UCS-4
pub four_put : (t : State) (q : List ℕ) (at n : ℕ) (old new : List ℕ) → ArePlain q → IsAppended old new at n (flat_map (λ p. 0 ∷ 0 ∷ 0 ∷ p ∷ []) q) →
    IsBlockPut (IsSpellable Ucs4) (spelling Ucs4) t q at old new n
four_put t q at n old new plain put = record {
  has = all_have Low IsPoint plain_point q plain;
  put = subst (λ w. IsAppended old new at n w) (sym (spelled_same Low ucs4 (λ p. 0 ∷ 0 ∷ 0 ∷ p ∷ []) four_plain q plain)) put;
  stays = refl;
}
