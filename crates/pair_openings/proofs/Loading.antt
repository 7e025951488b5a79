-- Modules that are loaded, one after another.
use Rattle.std.proofs.Common.{◌≡◌, ℕ, zero, suc, ◌+◌, ◌<◌, ◌≤◌, List, [], ◌∷◌, ◌++◌, length, map, take, drop, get_or, refl, sym, ap, ◌∙◌, arith}
use Rattle.std.proofs.lemmas.List.{take_more, drop_more, map-append, length-take-le}
use Rattle.code_pairs.specs.Tables.{Table, Tables}
use Rattle.code_table.specs.Images.{page_count}
use Rattle.runtime_histories.specs.declared.loads.Load.{Load}
use Rattle.runtime_histories.specs.Deeds.{Loaded}
use Rattle.runtime_histories.specs.Places.{pages_for}
use Rattle.runtime_histories.specs.Entries.{loaded_of}
use Rattle.runtime_histories.specs.Legal.{AreCounted}
use Rattle.pair_openings.specs.Cuts.{needs, total}
use Rattle.pair_openings.specs.Loading.{loaded_all}

-- The pages of one table more.
pub pages_more : (ts : List Table) (i n : ℕ) (t : Table) → i < length ts → t ≡ get_or ts i t → n + pages_for (drop i ts) ≡ pages_for ts → (n + page_count t) + pages_for (drop (i + 1) ts) ≡ pages_for ts
pages_more ts i n t lt is e =
    let rest : pages_for (drop i ts) ≡ page_count t + pages_for (drop (i + 1) ts) = ap pages_for (drop_more ts i t lt) ∙ ap (λ (z : Table). page_count z + pages_for (drop (i + 1) ts)) (sym is) in
    omega (arith, rest, e)

-- No module needs more than all.
pub need_within : (all : List Tables) (i : ℕ) (d : Tables) → i < length all → pages_for (get_or all i d) ≤ total (needs all)
need_within [] i d lt = absurd (omega (arith, lt))
need_within (t ∷ ts) zero d lt = omega arith
need_within (t ∷ ts) (suc i) d lt = let ih = need_within ts i d (omega (arith, lt)) in omega (arith, ih)

loaded-append : (ms ns : List ℕ) (ts us : List Tables) → length ms ≡ length ts → loaded_all (ms ++ ns) (ts ++ us) ≡ loaded_all ms ts ++ loaded_all ns us
loaded-append [] ns [] us e = refl
loaded-append [] ns (t ∷ ts) us e = absurd (omega (arith, e))
loaded-append (m ∷ ms) ns [] us e = absurd (omega (arith, e))
loaded-append (m ∷ ms) ns (t ∷ ts) us e = ap (λ (z : List Loaded). record { «module» = m; tables = t } ∷ z) (loaded-append ms ns ts us (omega (arith, e)))

counted-append : (ls : List Load) (l : Load) → AreCounted ls → l.pages ≡ pages_for l.tables.value → AreCounted (ls ++ l ∷ [])
counted-append [] l h e = (e, tt)
counted-append (x ∷ ls) l h e = (h.0, counted-append ls l h.1 e)

module _ (ms : List ℕ) (ts : List Tables) (i m : ℕ) (t : Tables) (below : i < length ms) (same : length ms ≡ length ts) (m_is : m ≡ get_or ms i m) (t_is : t ≡ get_or ts i t)
    (ls : List Load) (l : Load) (is : loaded_of l ≡ record { «module» = m; tables = t }) where
  pub loads_more : map loaded_of ls ≡ loaded_all (take i ms) (take i ts) → map loaded_of (ls ++ l ∷ []) ≡ loaded_all (take (i + 1) ms) (take (i + 1) ts)
  loads_more e =
      let long : length (take i ms) ≡ length (take i ts) = length-take-le i ms (omega (arith, below)) ∙ sym (length-take-le i ts (omega (arith, below, same))) in
      let front : take (i + 1) ms ≡ take i ms ++ m ∷ [] = take_more ms i m below ∙ ap (λ (z : ℕ). take i ms ++ z ∷ []) (sym m_is) in
      let back : take (i + 1) ts ≡ take i ts ++ t ∷ [] = take_more ts i t (omega (arith, below, same)) ∙ ap (λ (z : Tables). take i ts ++ z ∷ []) (sym t_is) in
      map-append loaded_of ls (l ∷ [])
      ∙ ((λ j. e j ++ is j ∷ [])
      ∙ (sym (loaded-append (take i ms) (m ∷ []) (take i ts) (t ∷ []) long)
      ∙ (λ j. loaded_all (sym front j) (sym back j))))

  pub counted_more : AreCounted ls → l.pages ≡ pages_for t → AreCounted (ls ++ l ∷ [])
  counted_more h e = counted-append ls l h (e ∙ ap (λ (x : Loaded). pages_for x.tables) (sym is))
