-- The units of UTF-8 are apart.
use Rattle.std.proofs.Common.{◌≡◌, ℕ, List, [], ◌∷◌, ◌++◌, ap, arith}
use Rattle.step_unicode.specs.Utf8.{IsUtf8Unit}

-- no unit begins another, and a unit has one point
pub apart : (u v x y : List ℕ) (p r : ℕ) → IsUtf8Unit u p → IsUtf8Unit v r → u ++ x ≡ v ++ y → (u ≡ v) × (p ≡ r)
apart (a ∷ []) (e ∷ []) x y p r m n h = let i : a ≡ e = cc in (ap (λ z. z ∷ []) i, omega arith)
apart (a ∷ []) (e ∷ f ∷ []) x y p r m n h = let i : a ≡ e = cc in absurd (omega arith)
apart (a ∷ []) (e ∷ f ∷ g ∷ []) x y p r m n h = let i : a ≡ e = cc in absurd (omega arith)
apart (a ∷ []) (e ∷ f ∷ g ∷ k ∷ []) x y p r m n h = let i : a ≡ e = cc in absurd (omega arith)
apart (a ∷ b ∷ []) (e ∷ []) x y p r m n h = let i : a ≡ e = cc in absurd (omega arith)
apart (a ∷ b ∷ []) (e ∷ f ∷ []) x y p r m n h = let i : a ≡ e = cc in let j : b ≡ f = cc in (cc, omega arith)
apart (a ∷ b ∷ []) (e ∷ f ∷ g ∷ []) x y p r m n h = let i : a ≡ e = cc in absurd (omega arith)
apart (a ∷ b ∷ []) (e ∷ f ∷ g ∷ k ∷ []) x y p r m n h = let i : a ≡ e = cc in absurd (omega arith)
apart (a ∷ b ∷ c ∷ []) (e ∷ []) x y p r m n h = let i : a ≡ e = cc in absurd (omega arith)
apart (a ∷ b ∷ c ∷ []) (e ∷ f ∷ []) x y p r m n h = let i : a ≡ e = cc in absurd (omega arith)
apart (a ∷ b ∷ c ∷ []) (e ∷ f ∷ g ∷ []) x y p r m n h = let i : a ≡ e = cc in let j : b ≡ f = cc in let l : c ≡ g = cc in (cc, omega arith)
apart (a ∷ b ∷ c ∷ []) (e ∷ f ∷ g ∷ k ∷ []) x y p r m n h = let i : a ≡ e = cc in absurd (omega arith)
apart (a ∷ b ∷ c ∷ d ∷ []) (e ∷ []) x y p r m n h = let i : a ≡ e = cc in absurd (omega arith)
apart (a ∷ b ∷ c ∷ d ∷ []) (e ∷ f ∷ []) x y p r m n h = let i : a ≡ e = cc in absurd (omega arith)
apart (a ∷ b ∷ c ∷ d ∷ []) (e ∷ f ∷ g ∷ []) x y p r m n h = let i : a ≡ e = cc in absurd (omega arith)
apart (a ∷ b ∷ c ∷ d ∷ []) (e ∷ f ∷ g ∷ k ∷ []) x y p r m n h =
    let i : a ≡ e = cc in let j : b ≡ f = cc in let l : c ≡ g = cc in let o : d ≡ k = cc in (cc, omega arith)
apart [] v x y p r m n h = absurd m
apart (a ∷ b ∷ c ∷ d ∷ z ∷ u) v x y p r m n h = absurd m
apart (a ∷ []) [] x y p r m n h = absurd n
apart (a ∷ []) (e ∷ f ∷ g ∷ k ∷ z ∷ v) x y p r m n h = absurd n
apart (a ∷ b ∷ []) [] x y p r m n h = absurd n
apart (a ∷ b ∷ []) (e ∷ f ∷ g ∷ k ∷ z ∷ v) x y p r m n h = absurd n
apart (a ∷ b ∷ c ∷ []) [] x y p r m n h = absurd n
apart (a ∷ b ∷ c ∷ []) (e ∷ f ∷ g ∷ k ∷ z ∷ v) x y p r m n h = absurd n
apart (a ∷ b ∷ c ∷ d ∷ []) [] x y p r m n h = absurd n
apart (a ∷ b ∷ c ∷ d ∷ []) (e ∷ f ∷ g ∷ k ∷ z ∷ v) x y p r m n h = absurd n
