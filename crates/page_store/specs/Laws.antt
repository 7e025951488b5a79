-- The tables that pins stand for are well formed.
use Rattle.std.specs.Prelude.{◌≡◌, ℕ, Bool, true, false, ◌||◌, cond, List, [], ◌∷◌}
use Rattle.std.proofs.Common.{inl, inr, refl, sym, subst, true≢false}
use Rattle.std.specs.Str.{bytes_eq}
use Rattle.code_pairs.specs.Tables.{table_at, IsWellFormed}
use Rattle.code_table.specs.WellFormed.{AreWellFormed, well_formed_at}
use Rattle.page_store.specs.Holdings.{Holding, Among, IsHolding, is_held, table_in}
use Rattle.page_store.specs.Pins.{tables_of, ArePins}
use Rattle.page_store.specs.declared.pin.Pin.{Pin}

-- The holding of the list that has these pages.
pub record HeldIn (hs : List Holding) (pages : List ℕ) : Type 0 where
  pub holding : Holding
  pub among : Among hs holding
  pub table : holding.table ≡ table_in hs pages
  pub same : bytes_eq holding.pages pages ≡ true

-- A table that lies in some pages is one of those that are held.
pub held_is : (hs : List Holding) (pages : List ℕ) → is_held hs pages ≡ true → HeldIn hs pages
held_is [] pages e = absurd (true≢false (sym e))
held_is (h ∷ hs) pages e = by (bytes_eq h.pages pages) refl e (held_is hs pages)
  where
    by : (b : Bool) → bytes_eq h.pages pages ≡ b → (b || is_held hs pages) ≡ true
        → (is_held hs pages ≡ true → HeldIn hs pages) → HeldIn (h ∷ hs) pages
    by true is e later = record {
      holding = h;
      among = inl refl;
      table = subst (λ (b : Bool). h.table ≡ cond b h.table (table_in hs pages)) (sym is) refl;
      same = is;
    }
    by false is e later =
        let k = later e in
        record {
          holding = k.holding;
          among = inr k.among;
          table = subst (λ (b : Bool). k.holding.table ≡ cond b h.table (table_in hs pages))
              (sym is) k.table;
          same = k.same;
        }

pins_all : (hs : List Holding) (words : ℕ) → ((h : Holding) → Among hs h → IsHolding h)
    → (pins : List Pin) → ArePins hs words pins → AreWellFormed (tables_of hs pins)
pins_all hs words are [] all = tt
pins_all hs words are (p ∷ ps) all =
    let h = held_is hs p.pages.items all.0.held in
    (subst IsWellFormed h.table (are h.holding h.among).well_formed, pins_all hs words are ps all.1)

pub pins_well_formed : (hs : List Holding) (words : ℕ) → ((h : Holding) → Among hs h → IsHolding h)
    → (pins : List Pin) (k : ℕ) → ArePins hs words pins
    → IsWellFormed (table_at (tables_of hs pins) k)
pins_well_formed hs words are pins k all =
    well_formed_at (tables_of hs pins) k (pins_all hs words are pins all)
