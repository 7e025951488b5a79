-- What numbers hold is good, and stands in its pages.
use Rattle.std.proofs.Common.{◌≡◌, ◌≢◌, ℕ, ◌^◌, ◌<◌, ◌≤◌, List, [], ◌∷◌, ◌++◌, length, take, drop, sym, ap, ◌∙◌, subst, arith, ⊎_elim, length-drop}
use Rattle.std.proofs.lemmas.List.{length-take-le}
use Rattle.std.specs.List.{AllByRecursion}
use Rattle.std.proofs.lemmas.List.{map-append}
use Rattle.code_pairs.specs.Tables.{Table}
use Rattle.code_table.specs.Images.{page_count}
use Rattle.history_core.specs.History.{History, EachNumber}
use Rattle.page_store.specs.Holdings.{Holding, Among, IsHolding, IsPinnedIn, side}
use Rattle.runtime_histories.specs.declared.entries.Entry.{Entry}
use Rattle.runtime_histories.specs.Deeds.{IsIn}
use Rattle.runtime_histories.specs.Entries as entries
use Rattle.runtime_histories.specs.Legal.{Legal}
use Rattle.runtime_histories.specs.PinLaw.{NoneOf}
use Rattle.runtime_histories.specs.Pins as pins
use Rattle.runtime_histories.specs.Places.{Placed, pages_for, all_needs, places}
use Rattle.runtime_histories.proofs.Pinning.{pinned-stays}
use Rattle.runtime_room.specs.Grounds.{Ground}
use Rattle.runtime_room.specs.Rooms.{IsHistory, IsOwn, entries_of, deeds_of, parts, holdings, pinned}
use Rattle.runtime_room.specs.declared.desk.Noted.{Noted}
use Rattle.runtime_room.specs.Apart.{IsGood, IsOrdered, ordered_legal, ordered_filter, all_split}
use Rattle.runtime_room.specs.Words.{part_of, part_word, word_found, all_in, once_in}

-- The places after a legal history are ordered.
pub ordered : (g : Ground) (log : History Noted) → IsHistory g log → IsOrdered g.setting.pages (places g.setting.pages (deeds_of log))
ordered g log k = ordered_legal g.setting (entries_of log) k.legal k.points

-- So are those that a number holds.
pub ordered_held : (g : Ground) (log : History Noted) (n : ℕ) → IsHistory g log → IsOrdered g.setting.pages (pins.held_by g.setting.pages n (deeds_of log))
ordered_held g log n k = ordered_filter g.setting.pages (λ (x : Placed). pins.holds n (deeds_of log) x.«module») (places g.setting.pages (deeds_of log)) (ordered g log k)

-- a part is a table with its pages
parts_hold : (ts : List Table) (pages : List ℕ) (h : Holding) → length pages ≡ pages_for ts → length pages < 2 ^ 32 → AllByRecursion IsGood ts → Among (parts ts pages) h → IsHolding h
parts_hold [] pages h fits few good there = absurd there
parts_hold (t ∷ ts) pages h fits few good there =
    let d = length-drop (page_count t) pages in
    ⊎_elim (λ (e : record { table = t; pages = take (page_count t) pages } ≡ h). subst IsHolding e (record {
      count = length-take-le (page_count t) pages (omega arith);
      well_formed = good.0.0;
      numbers = good.0.1;
      few = omega arith;
    })) (λ z. parts_hold ts (drop (page_count t) pages) h (omega arith) (omega arith) good.1 z) there

needs_in : (xs : List Placed) (x : Placed) → IsIn x xs → pages_for x.tables ≤ all_needs xs
needs_in [] x there = absurd there
needs_in (y ∷ ys) x there = ⊎_elim (λ (e : y ≡ x). let z : pages_for y.tables ≡ pages_for x.tables = ap (λ (v : Placed). pages_for v.tables) e in omega arith)
    (λ z. let r = needs_in ys x z in omega arith) there

pub held-is : (g : Ground) (log : History Noted) (n : ℕ) (h : Holding) → IsHistory g log → Among (holdings g log n) h → IsHolding h
held-is g log n h k there =
    let xs : List Placed = pins.held_by g.setting.pages n (deeds_of log) in
    let o = ordered_held g log n k in
    let p = part_of xs h there in
    let x : Placed = p.place in
    let fits = all_in (λ (v : Placed). length v.pages ≡ pages_for v.tables) xs x o.fits p.there in
    parts_hold x.tables x.pages h fits
    (let a = needs_in xs x p.there in let b = o.within in let c = k.ground.pages in omega arith)
    (all_in (λ (v : Placed). AllByRecursion IsGood v.tables) xs x o.good p.there) p.part

pub held-pinned : (g : Ground) (log : History Noted) (n : ℕ) (h : Holding) → IsHistory g log → Among (holdings g log n) h → IsPinnedIn (pinned g log n) h
held-pinned g log n h k there page place lt small =
    let xs : List Placed = pins.held_by g.setting.pages n (deeds_of log) in
    let o = ordered_held g log n k in
    let p = part_of xs h there in
    word_found xs p.place (side h.pages page place) _ o.once p.there
    (part_word p.place h page place (all_in (λ (v : Placed). length v.pages ≡ pages_for v.tables) xs p.place o.fits p.there) (once_in xs p.place o.once p.there) p.part lt small)

none_of : (n : ℕ) (rest : History Noted) → AllByRecursion IsOwn rest → EachNumber (λ m. m ≢ n) rest → NoneOf n (entries_of rest)
none_of n [] own others = tt
none_of n (e ∷ es) own others = ((λ z. others.0 (sym own.0 ∙ z)), none_of n es own.1 others.1)

pub entries-append : (a b : History Noted) → entries_of (a ++ b) ≡ entries_of a ++ entries_of b
entries-append a b = map-append (λ (e : ℕ × Noted). e.1.entry.value) a b

pub pinned-kept : (g : Ground) (front rest : History Noted) (n place : ℕ) → 0 < n
    → IsHistory g (front ++ rest) → EachNumber (λ m. m ≢ n) rest
    → pinned g (front ++ rest) n place ≡ pinned g front n place
pinned-kept g front rest n place some h others =
    ap (λ (z : List Entry). pins.pinned g.setting.pages (entries.deeds z) n place) (entries-append front rest)
    ∙ pinned-stays g.setting (entries_of front) (entries_of rest) n place some
    (subst (Legal g.setting) (entries-append front rest) h.legal) (none_of n rest (all_split IsOwn front rest h.own).1 others)
