-- What a seat has in its slot after the steps.
use Rattle.std.proofs.Common.{◌≡◌, ℕ, List, [], ◌∷◌, sym, ap, ◌∙◌, subst, true, Option, Some}
use Rattle.atomic_table.specs.Table.{Me, rest}
use Rattle.atomic_table.specs.Seated.{TableId}
use Rattle.history_core.specs.History.{History, Grows}
use Rattle.history_core.specs.declared.rule.Held.{Held}
use Rattle.history_core.specs.declared.rule.Held.TheVariants.{Home, Committing, Out}
use Rattle.history_core.specs.declared.rule.View.{View}
use Rattle.history_core.specs.Rule.{Takes}
use Rattle.history_core.specs.Seats.{SeatOf, Seized}

module _ {V E : Type 0} where
  abbrev pub home_of : V → Held V E → V
  home_of d (Home v) = v
  home_of d _ = d

  abbrev pub first_or : Held V E → List (ℕ × Held V E) → Held V E
  first_or d [] = d
  first_or d (x ∷ xs) = x.1

  -- the slot's value is the one that was found
  pub found_is : (held : List (ℕ × Held V E)) (x y : Held V E) → held ≡ (0, x) ∷ []
      → held ≡ (0, y) ∷ rest held → x ≡ y
  found_is held x y e f = ap (first_or x) (sym e ∙ f)

  pub has_head : (held : List (ℕ × Held V E)) (x : Held V E) → held ≡ (0, x) ∷ []
      → held ≡ (0, x) ∷ rest held
  has_head held x e = e ∙ ap (λ (r : List (ℕ × Held V E)). (0, x) ∷ rest r) (sym e)

  abbrev is_home : Held V E → Type 0
  is_home (Home v) = Unit {0}
  is_home (Committing e) = ⊥
  is_home Out = ⊥

  pub Home-Committing : (x : V) (e : E) → ◌≡◌ {A = Held V E} (Home x) (Committing e) → ⊥
  Home-Committing x e q = subst is_home q tt

  pub Home-Out : (x : V) → ◌≡◌ {A = Held V E} (Home x) Out → ⊥
  Home-Out x q = subst is_home q tt

  pub Home-injective : (x y : V) → ◌≡◌ {A = Held V E} (Home x) (Home y) → x ≡ y
  Home-injective x y e = ap (home_of x) e

module _ {V E T : Type 0} (setting : V → T) (Legal : T → History E → Type 0)
    (Stands : V → History E → Type 0) (pinned : T → History E → ℕ → ℕ → Option ℕ) where
  abbrev M : Type 0
  M = Me (Held V E) (View E T)

  -- after the take, the exchange and the look
  pub took_of : (z : TableId) (t : T) (s s₁ s₂ s₃ : SeatOf V E T) (held : Held V E) (v : V)
      → (d : Takes setting Legal Stands pinned t s.me.0 s₁.me)
      → s.me.0.setting ≡ Some t → s₃.table_id ≡ z → s₁.me.1 ≡ (0, held) ∷ rest s₁.me.1
      → s₂.me ≡ (s₁.me.0, (0, Out) ∷ rest s₁.me.1) → s₃.me ≡ s₂.me → held ≡ Home v
      → Seized setting Legal Stands z t s s₃ v
  took_of z t s s₁ s₂ s₃ held v d told at found put same is =
      let m₁ : s₁.me.1 ≡ (0, Home d.value) ∷ [] = ap (λ (m : M). m.1) d.now in
      let e : d.value ≡ v = Home-injective d.value v
      (found_is s₁.me.1 (Home d.value) held m₁ found ∙ is) in
      let now : s₃.me ≡ (
        record s.me.0 { served = true; front = d.log; filled = [] },
        (0, Out) ∷ [],
      ) = same
      ∙ (put ∙ (λ i. ((ap (λ (m : M). m.0) d.now) i, (0, Out) ∷ rest (m₁ i)))) in
      record {
        served = record {
          table = at;
          told = ap (λ (m : M). m.0.setting) now ∙ told;
          serves = ap (λ (m : M). m.0.served) now;
          holds = ap (λ (m : M). m.1) now;
        };
        number = ap (λ (m : M). m.0.number) now;
        grows = subst (Grows s.me.0.number s.me.0.front) (sym (ap (λ (m : M). m.0.front) now))
            d.grows;
        fresh = ap (λ (m : M). m.0.filled) now;
        stands = subst (Stands v) (sym (ap (λ (m : M). m.0.front) now))
            (subst (λ (x : V). Stands x d.log) e d.stands);
        told = ap setting (sym e) ∙ d.told;
        legal = subst (Legal t) (sym (ap (λ (m : M). m.0.front) now)) d.legal;
      }

-- after an exchange
pub put_in : {V E T : Type 0} (s s' : SeatOf V E T) (x y : Held V E) → s.me.1 ≡ (0, x) ∷ []
    → s'.me ≡ (s.me.0, (0, y) ∷ rest s.me.1) → s'.me ≡ (s.me.0, (0, y) ∷ [])
put_in s s' x y was now = now ∙ (λ i. (s.me.0, (0, y) ∷ rest (was i)))
