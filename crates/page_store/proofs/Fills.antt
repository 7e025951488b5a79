-- Fill lists.
use Rattle.std.proofs.Common.{◌≡◌, ◌≢◌, ◌+◌, ◌*◌, ◌<◌, ℕ, cond, Bool, List, ◌∷◌, length, Some}
use Rattle.std.proofs.Common.{eq-eqb, ne_eqb, sym, subst, refl, ap, ◌∙◌, arith}
use Rattle.std.specs.Prelude.{slice_index}
use mathlib.Core.Logic.{dite}
use native.Mathlib.Decide.{ℕ_discrete}
use Rattle.code_pairs.specs.Tables.{Table}
use Rattle.code_table.specs.Images.{image_word}
use Rattle.history_core.specs.Rule.{last_fill}
use Rattle.page_store.specs.Holdings.{AreApart, AreFilled, side}

-- the word that was written last
pub fill_here : (p q x : ℕ) (ws : List (ℕ × ℕ)) → p ≡ q → last_fill p ((q, x) ∷ ws) ≡ Some x
fill_here p q x ws e =
    let P : Bool → Type 0 = λ b. cond b (Some x) (last_fill p ws) ≡ Some x in
    subst P (sym (eq-eqb q p (sym e))) refl

-- a word elsewhere leaves it
pub fill_else : (p q x : ℕ) (ws : List (ℕ × ℕ)) → p ≢ q → last_fill p ((q, x) ∷ ws) ≡ last_fill p ws
fill_else p q x ws ne =
    let P : Bool → Type 0 = λ b. cond b (Some x) (last_fill p ws) ≡ last_fill p ws in
    subst P (sym (ne_eqb q p (λ z. ne (sym z)))) refl

-- one place more of a page holds its word
pub next_fill : (into n x : ℕ) (f : ℕ → ℕ) (ws : List (ℕ × ℕ)) → x ≡ f n
    → ((place : ℕ) → place < n → last_fill (256 * into + place) ws ≡ Some (f place))
    → (place : ℕ) → place < n + 1 → last_fill (256 * into + place) ((256 * into + n, x) ∷ ws)
    ≡ Some (f place)
next_fill into n x f ws is so_far place lt = dite (ℕ_discrete place n)
    (λ (e : place ≡ n). fill_here (256 * into + place) (256 * into + n) x ws
    (ap (λ (k : ℕ). 256 * into + k) e) ∙ ap Some (is ∙ ap f (sym e)))
    (λ (ne : place ≢ n). fill_else (256 * into + place) (256 * into + n) x ws
    (λ z. ne (omega arith)) ∙ so_far place (below place n lt ne))
  where
    below : (p m : ℕ) → p < m + 1 → p ≢ m → p < m
    below p m lt ne = omega arith

same_page : (a b i k : ℕ) → i < 256 → k < 256 → 256 * a + i ≡ 256 * b + k → a ≡ b
same_page a b i k h l e = omega arith

below_next : (p n : ℕ) → p < n + 1 → p ≢ n → p < n
below_next p n lt ne = omega arith

less : (p n m : ℕ) → p < n → n < m → p < m
less p n m h k = omega arith

-- one page more holds its words
pub next_page : (table : Table) (pages : List ℕ) (n : ℕ) (ws vs : List (ℕ × ℕ)) → AreApart pages
    → n < length pages → AreFilled table pages n ws
    → ((place : ℕ) → place < 256 → last_fill (side pages n place) vs
    ≡ Some (image_word table n place))
    → ((place : ℕ) → ((k : ℕ) → k < 256 → place ≢ side pages n k)
    → last_fill place vs ≡ last_fill place ws)
    → AreFilled table pages (n + 1) vs
next_page table pages n ws vs apart within so_far here others p place lt small =
    dite (ℕ_discrete p n)
    (λ (e : p ≡ n). subst (λ (k : ℕ). last_fill (side pages k place) vs
    ≡ Some (image_word table k place)) (sym e) (here place small))
    (λ (ne : p ≢ n). let before = below_next p n lt ne in
    others (side pages p place)
    (λ k few z. ne (apart p n (less p n (length pages) before within) within
    (same_page (slice_index pages p) (slice_index pages n) place k small few z)))
    ∙ so_far p place before small)
