-- The parts of images that are kept.
use Rattle.std.proofs.Common.{◌≡◌, ◌≢◌, ℕ, suc, zero, ◌+◌, ◌<◌, ◌≤◌, eqb, eq-eqb, ne_eqb, Bool, true, false, ◌||◌, List, [], ◌∷◌, ◌++◌, length, map, take, get_or, set, sym, refl, ap, ◌∙◌, subst, true≢false, arith}
use Rattle.std.specs.declared.vec.Vec.{Vec}
use Rattle.std.specs.declared.alloc.Global.{Global}
use Rattle.std.proofs.lemmas.List.{map-append, take_more}
use Rattle.code_table.specs.declared.layout.Layout.{Layout}
use Rattle.module_counts.specs.Stocks.{Once}
use Rattle.code_pairs.specs.Tables.{Tables}
use Rattle.runtime_histories.specs.declared.loads.Load.{Load}
use Rattle.runtime_histories.specs.Deeds.{Loaded}
use Rattle.runtime_histories.specs.Entries.{loaded_of}
use Rattle.runtime_histories.specs.Legal.{loaded_modules}
use Rattle.runtime_histories.specs.Places.{among}
use Rattle.runtime_histories.proofs.Basics.{any-append}
use Rattle.runtime_room.specs.Apart.{all_join}
use Rattle.code_table.specs.Layouts.{layout_of}
use Rattle.runtime_room.specs.Desks.{layouts_at}
use Rattle.desk_openings.specs.Layouts.{KeepsLayouts, AreKept}
use Rattle.desk_openings.proofs.Lists.{or_false, or_left, or_right}

nothing_at : (v : Vec Layout Global) (m : ℕ) → v.items ≡ [] → layouts_at (v ∷ []) m ≡ []
nothing_at v zero e = e
nothing_at v (suc m) e = refl

-- A module of which nothing is kept changes nothing.
pub lengthened : (ls : List (Vec Layout Global)) (v : Vec Layout Global) (m : ℕ) → v.items ≡ [] → layouts_at (ls ++ v ∷ []) m ≡ layouts_at ls m
lengthened [] v m e = nothing_at v m e
lengthened (l ∷ ls) v zero e = refl
lengthened (l ∷ ls) v (suc m) e = lengthened ls v m e

pub put_here : (ls : List (Vec Layout Global)) (k : ℕ) (v : Vec Layout Global) → k < length ls → layouts_at (set ls k v) k ≡ v.items
put_here [] k v lt = absurd (omega arith)
put_here (l ∷ ls) zero v lt = refl
put_here (l ∷ ls) (suc k) v lt = put_here ls k v (omega arith)

pub put_elsewhere : (ls : List (Vec Layout Global)) (k m : ℕ) (v : Vec Layout Global) → k ≢ m → layouts_at (set ls k v) m ≡ layouts_at ls m
put_elsewhere [] k m v ne = refl
put_elsewhere (l ∷ ls) zero zero v ne = absurd (ne refl)
put_elsewhere (l ∷ ls) zero (suc m) v ne = refl
put_elsewhere (l ∷ ls) (suc k) zero v ne = refl
put_elsewhere (l ∷ ls) (suc k) (suc m) v ne = put_elsewhere ls k m v (λ e. ne (ap suc e))

-- The parts of the images of what was loaded so far are kept.
pub record IsKeeping (old now : List (Vec Layout Global)) (done : List Loaded) : Type 0 where
  pub kept : AreKept now done
  pub others : KeepsLayouts old now (loaded_modules done)

pub keeping_none : (old : List (Vec Layout Global)) → IsKeeping old old []
keeping_none old = record { kept = tt; others = λ m e. refl }

kept_more : (now new : List (Vec Layout Global)) (k : ℕ) (ls : List Loaded) → among k (loaded_modules ls) ≡ false → ((m : ℕ) → k ≢ m → layouts_at new m ≡ layouts_at now m) → AreKept now ls → AreKept new ls
kept_more now new k [] e h kept = tt
kept_more now new k (l ∷ ls) e h kept = let f = or_false (eqb l.«module» k) (among k (loaded_modules ls)) e in
    (h l.«module» (λ z. true≢false (sym (eq-eqb l.«module» k (sym z)) ∙ f.0)) ∙ kept.0, kept_more now new k ls f.1 h kept.1)

modules-append : (xs ys : List Loaded) → loaded_modules (xs ++ ys) ≡ loaded_modules xs ++ loaded_modules ys
modules-append xs ys = map-append (λ (l : Loaded). l.«module») xs ys

others_more : (old now new : List (Vec Layout Global)) (done : List Loaded) (l : Loaded) → IsKeeping old now done → ((m : ℕ) → l.«module» ≢ m → layouts_at new m ≡ layouts_at now m)
    → KeepsLayouts old new (loaded_modules (done ++ l ∷ []))
others_more old now new done l k h m e =
    let f = or_false (among m (loaded_modules done)) (among m (l.«module» ∷ [])) (sym (any-append (λ y. eqb y m) (loaded_modules done) (l.«module» ∷ [])) ∙ (ap (among m) (sym (modules-append done (l ∷ []))) ∙ e)) in
    let g = or_false (eqb l.«module» m) false f.1 in
    h m (λ z. true≢false (sym (eq-eqb l.«module» m z) ∙ g.0)) ∙ k.others m f.0

keep_more : (old now new : List (Vec Layout Global)) (done : List Loaded) (l : Loaded) → IsKeeping old now done → among l.«module» (loaded_modules done) ≡ false
    → layouts_at new l.«module» ≡ map layout_of l.tables → ((m : ℕ) → l.«module» ≢ m → layouts_at new m ≡ layouts_at now m) → IsKeeping old new (done ++ l ∷ [])
keep_more old now new done l k out own h = record {
  kept = all_join (λ (x : Loaded). layouts_at new x.«module» ≡ map layout_of x.tables) done (l ∷ []) (kept_more now new l.«module» done out h k.kept) (own, tt);
  others = others_more old now new done l k h;
}

-- The module of a load stands in none before it.
once_at : (ls : List Loaded) (k : ℕ) (d : Loaded) → k < length ls → Once (loaded_modules ls) → among (get_or ls k d).«module» (loaded_modules (take k ls)) ≡ false
once_at [] k d lt once = absurd (omega arith)
once_at (l ∷ ls) zero d lt once = refl
once_at (l ∷ ls) (suc k) d lt once = ap (λ (b : Bool). b || among (get_or ls k d).«module» (loaded_modules (take k ls)))
    (ne_eqb l.«module» (get_or ls k d).«module» (λ z. true≢false (sym (there ls k (omega arith)) ∙ (ap (λ (n : ℕ). among n (loaded_modules ls)) (sym z) ∙ once.0))))
    ∙ once_at ls k d (omega arith) once.1
  where
    there : (ls : List Loaded) (k : ℕ) → k < length ls → among (get_or ls k d).«module» (loaded_modules ls) ≡ true
    there [] k lt = absurd (omega arith)
    there (l ∷ ls) zero lt = or_left (eqb l.«module» l.«module») (among l.«module» (loaded_modules ls)) (eq-eqb l.«module» l.«module» refl)
    there (l ∷ ls) (suc k) lt = or_right (eqb l.«module» (get_or ls k d).«module») (among (get_or ls k d).«module» (loaded_modules ls)) (there ls k (omega arith))

module _ (old now new : List (Vec Layout Global)) (ls : List Loaded) (k : ℕ) (l : Loaded) (lt : k < length ls) (is : get_or ls k l ≡ l) (done : IsKeeping old now (take k ls))
    (others : (m : ℕ) → l.«module» ≢ m → layouts_at new m ≡ layouts_at now m) where
  front : take (k + 1) ls ≡ take k ls ++ l ∷ []
  front = take_more ls k l lt ∙ ap (λ (z : Loaded). take k ls ++ z ∷ []) is

  pub keeping_next : Once (loaded_modules ls) → layouts_at new l.«module» ≡ map layout_of l.tables → IsKeeping old new (take (k + 1) ls)
  keeping_next once own = subst (IsKeeping old new) (sym front)
      (keep_more old now new (take k ls) l done (ap (λ (z : Loaded). among z.«module» (loaded_modules (take k ls))) (sym is) ∙ once_at ls k l lt once) own others)

  pub keeping_others : KeepsLayouts old new (loaded_modules (take (k + 1) ls))
  keeping_others = subst (λ (z : List Loaded). KeepsLayouts old new (loaded_modules z)) (sym front) (others_more old now new (take k ls) l done others)

-- What stays of all but some stays of all but more.
pub keeps_all : (old new : List (Vec Layout Global)) (ls : List Loaded) (k : ℕ) → KeepsLayouts old new (loaded_modules (take k ls)) → KeepsLayouts old new (loaded_modules ls)
keeps_all old new ls k h m e = h m (fewer ls k e)
  where
    fewer : (ls : List Loaded) (k : ℕ) → among m (loaded_modules ls) ≡ false → among m (loaded_modules (take k ls)) ≡ false
    fewer [] zero e = refl
    fewer [] (suc k) e = refl
    fewer (l ∷ ls) zero e = refl
    fewer (l ∷ ls) (suc k) e = let f = or_false (eqb l.«module» m) (among m (loaded_modules ls)) e in ap (λ (b : Bool). b || among m (loaded_modules (take k ls))) f.0 ∙ fewer ls k f.1

pub layouts_here : (ls : List (Vec Layout Global)) (k : ℕ) (v : Vec Layout Global) → k < length ls → v ≡ get_or ls k v → v.items ≡ layouts_at ls k
layouts_here [] k v lt e = absurd (omega arith)
layouts_here (l ∷ ls) zero v lt e = ap (λ (z : Vec Layout Global). z.items) e
layouts_here (l ∷ ls) (suc k) v lt e = layouts_here ls k v (omega arith) e

pub layouts_beyond : (ls : List (Vec Layout Global)) (k : ℕ) → length ls ≤ k → [] ≡ layouts_at ls k
layouts_beyond [] k le = refl
layouts_beyond (l ∷ ls) zero le = absurd (omega arith)
layouts_beyond (l ∷ ls) (suc k) le = layouts_beyond ls k (omega arith)

pub length-loaded : (loads : List Load) → length (map loaded_of loads) ≡ length loads
length-loaded [] = refl
length-loaded (l ∷ ls) = ap suc (length-loaded ls)

pub loaded_at : (loads : List Load) (k : ℕ) (x : Load) → x ≡ get_or loads k x → get_or (map loaded_of loads) k (loaded_of x) ≡ loaded_of x
loaded_at loads k x e = at loads k ∙ ap loaded_of (sym e)
  where
    at : (loads : List Load) (k : ℕ) → get_or (map loaded_of loads) k (loaded_of x) ≡ loaded_of (get_or loads k x)
    at [] k = refl
    at (l ∷ ls) zero = refl
    at (l ∷ ls) (suc k) = at ls k

tables_in : (ls : List Loaded) (k : ℕ) (l : Loaded) (t : Tables) → k < length ls → get_or ls k l ≡ l → t ≡ get_or (map (λ (l : Loaded). l.tables) ls) k t → t ≡ l.tables
tables_in [] k l t lt is e = absurd (omega arith)
tables_in (x ∷ xs) zero l t lt is e = e ∙ ap (λ (z : Loaded). z.tables) is
tables_in (x ∷ xs) (suc k) l t lt is e = tables_in xs k l t (omega arith) is e

-- The tables at a place are those of the load at this place.
pub tables_at : (ls : List Loaded) (all : List Tables) (k : ℕ) (l : Loaded) (t : Tables) → map (λ (l : Loaded). l.tables) ls ≡ all → k < length ls → get_or ls k l ≡ l → t ≡ get_or all k t → t ≡ l.tables
tables_at ls all k l t same lt is e = tables_in ls k l t lt is (e ∙ ap (λ (z : List Tables). get_or z k t) (sym same))
