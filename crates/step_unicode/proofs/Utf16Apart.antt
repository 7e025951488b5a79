-- The units of UTF-16 in one order are apart.
use Rattle.std.proofs.Common.{◌≡◌, ℕ, List, [], ◌∷◌, ◌++◌, arith}
use Rattle.step_unicode.specs.Utf16.{IsUtf16Unit}

-- no unit begins another, and a unit has one point
pub apart : (number : ℕ → ℕ → ℕ) (u v x y : List ℕ) (p r : ℕ) → IsUtf16Unit number u p → IsUtf16Unit number v r → u ++ x ≡ v ++ y → (u ≡ v) × (p ≡ r)
apart number (a ∷ b ∷ []) (e ∷ f ∷ []) x y p r m n h =
    let i : a ≡ e = cc in
    let j : b ≡ f = cc in
    let k : number a b ≡ number e f = cc in
    (cc, omega arith)
apart number (a ∷ b ∷ []) (e ∷ f ∷ g ∷ k ∷ []) x y p r m n h =
    let i : a ≡ e = cc in
    let j : b ≡ f = cc in
    let l : number a b ≡ number e f = cc in
    absurd (omega arith)
apart number (a ∷ b ∷ c ∷ d ∷ []) (e ∷ f ∷ []) x y p r m n h =
    let i : a ≡ e = cc in
    let j : b ≡ f = cc in
    let l : number a b ≡ number e f = cc in
    absurd (omega arith)
apart number (a ∷ b ∷ c ∷ d ∷ []) (e ∷ f ∷ g ∷ k ∷ []) x y p r m n h =
    let i : a ≡ e = cc in
    let j : b ≡ f = cc in
    let i2 : c ≡ g = cc in
    let j2 : d ≡ k = cc in
    let l : number a b ≡ number e f = cc in
    let l2 : number c d ≡ number g k = cc in
    (cc, omega arith)
apart number [] v x y p r m n h = absurd m
apart number (a ∷ []) v x y p r m n h = absurd m
apart number (a ∷ b ∷ c ∷ []) v x y p r m n h = absurd m
apart number (a ∷ b ∷ c ∷ d ∷ z ∷ u) v x y p r m n h = absurd m
apart number (a ∷ b ∷ []) [] x y p r m n h = absurd n
apart number (a ∷ b ∷ []) (e ∷ []) x y p r m n h = absurd n
apart number (a ∷ b ∷ []) (e ∷ f ∷ g ∷ []) x y p r m n h = absurd n
apart number (a ∷ b ∷ []) (e ∷ f ∷ g ∷ k ∷ z ∷ v) x y p r m n h = absurd n
apart number (a ∷ b ∷ c ∷ d ∷ []) [] x y p r m n h = absurd n
apart number (a ∷ b ∷ c ∷ d ∷ []) (e ∷ []) x y p r m n h = absurd n
apart number (a ∷ b ∷ c ∷ d ∷ []) (e ∷ f ∷ g ∷ []) x y p r m n h = absurd n
apart number (a ∷ b ∷ c ∷ d ∷ []) (e ∷ f ∷ g ∷ k ∷ z ∷ v) x y p r m n h = absurd n
