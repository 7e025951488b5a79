-- The words of modules can stand in a path.
use Rattle.std.proofs.Common.{◌≡◌, ◌⊎◌, ℕ, ◌<◌, eqb, Bool, true, false, ◌&&◌, ◌||◌, not, List, [], ◌∷◌, length, sym, refl, subst, arith, inl, inr, ⊎_elim, true≢false, eqb-true, zero, suc}
use Rattle.std.specs.Prelude.{codes, nat_le, slice_index}
use Rattle.std.specs.List.{list_any, list_all, All, AllByRecursion}
use Rattle.std.specs.Str.{IsUtf8, IsAscii}
use Rattle.std.proofs.lemmas.Str.{IsUtf8-from_ascii}
use Rattle.std.proofs.lemmas.Bool.{leb-true}
use Rattle.std.proofs.lemmas.Option.{get_or_from_slice_get, slice_get_within}
use Rattle.modules_conf.specs.Charmaps.{is_charmap_byte, is_charmap_word, names_charmaps}
use Rattle.modules_conf.specs.declared.kind.Kind.{Kind}
use Rattle.modules_conf.specs.declared.kind.Kind.TheVariants as kinds
use Rattle.module_graph.specs.Graph.{Shape}
use Rattle.runtime_histories.specs.Charmaps.{AreText, HasText}

or_true : (a b : Bool) → (a || b) ≡ true → (a ≡ true) ⊎ (b ≡ true)
or_true true b e = inl refl
or_true false b e = inr e

and_true : (a b : Bool) → (a && b) ≡ true → (a ≡ true) × (b ≡ true)
and_true true b e = (refl, e)
and_true false b e = absurd (true≢false (sym e))

any_low : (b : ℕ) (xs : List ℕ) → AllByRecursion (λ x. x < 128) xs → list_any (λ x. eqb b x) xs ≡ true → b < 128
any_low b [] all e = absurd (true≢false (sym e))
any_low b (x ∷ xs) all e = ⊎_elim (λ z. let h = eqb-true b x z in let lt = all.0 in omega (arith, h, lt)) (λ z. any_low b xs all.1 z) (or_true (eqb b x) (list_any (λ y. eqb b y) xs) e)

between_low : (low high b : ℕ) → high < 128 → (nat_le low b && nat_le b high) ≡ true → b < 128
between_low low high b lt e = let p = and_true (nat_le low b) (nat_le b high) e in let q = leb-true b high p.1 in omega (arith, q, lt)

byte_low : (b : ℕ) → is_charmap_byte b ≡ true → b < 128
byte_low b e = ⊎_elim
    (λ z. ⊎_elim
    (λ y. ⊎_elim (λ x. between_low 65 90 b (omega arith) x) (λ x. between_low 97 122 b (omega arith) x)
    (or_true (nat_le 65 b && nat_le b 90) (nat_le 97 b && nat_le b 122) y))
    (λ y. between_low 48 57 b (omega arith) y)
    (or_true ((nat_le 65 b && nat_le b 90) || (nat_le 97 b && nat_le b 122)) (nat_le 48 b && nat_le b 57) z))
    (λ z. any_low b (codes "_-.,:+()") (omega arith, (omega arith, (omega arith, (omega arith, (omega arith, (omega arith, (omega arith, (omega arith, tt)))))))) z)
    (or_true ((nat_le 65 b && nat_le b 90) || (nat_le 97 b && nat_le b 122) || (nat_le 48 b && nat_le b 57)) (list_any (λ sign. eqb b sign) (codes "_-.,:+()")) e)

all_low : (xs : List ℕ) → list_all is_charmap_byte xs ≡ true → IsAscii xs
all_low [] e i = omega arith
all_low (x ∷ xs) e zero = byte_low x (and_true (is_charmap_byte x) (list_all is_charmap_byte xs) e).0
all_low (x ∷ xs) e (suc i) = all_low xs (and_true (is_charmap_byte x) (list_all is_charmap_byte xs) e).1 i

word_text : (w : List ℕ) → is_charmap_word w ≡ true → IsUtf8 w
word_text w e =
    let a = and_true (nat_le 1 (length w) && nat_le (length w) 64 && list_all is_charmap_byte w) (not (eqb (slice_index w 0) 46)) e in
    let b = and_true (nat_le 1 (length w) && nat_le (length w) 64) (list_all is_charmap_byte w) a.0 in
    IsUtf8-from_ascii w (all_low w b.1)

kind_text : (kind : Kind) → names_charmaps kind ≡ true → AreText kind
kind_text (kinds.Table map) e = (word_text map e, tt)
kind_text (kinds.Iso2022Jp roman kanji) e = let p = and_true (is_charmap_word roman) (is_charmap_word kanji) e in (word_text roman p.0, (word_text kanji p.1, tt))
kind_text (kinds.Recode first second) e = let p = and_true (is_charmap_word first) (is_charmap_word second) e in (word_text first p.0, (word_text second p.1, tt))

-- Where the words of all modules name charmaps, they are text.
pub graph_text : (g : Shape) → All (λ kind. names_charmaps kind ≡ true) g.kinds → HasText g
graph_text g all m kind e = kind_text kind (subst (λ (k : Kind). names_charmaps k ≡ true) (get_or_from_slice_get g.kinds m kind kind e) (all m kind (slice_get_within g.kinds m kind e)))
