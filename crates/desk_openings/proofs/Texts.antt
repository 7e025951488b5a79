-- After a legal history the tables of each resident module are those of its charmaps.
use Rattle.std.proofs.Common.{◌≡◌, ℕ, eqb, eqb-true, Bool, true, false, cond, List, [], ◌∷◌, ◌++◌, map, Some, sym, refl, ap, subst, append-nil, append_assoc}
use Rattle.std.specs.List.{flat_map, AllByRecursion}
use Rattle.std.proofs.lemmas.List.{map-append}
use Rattle.code_pairs.specs.Tables.{Table, Tables}
use Rattle.code_table.specs.Images.{page_count}
use Rattle.std.specs.Prelude.{drop}
use Rattle.module_graph.specs.Graph.{Shape}
use Rattle.page_store.specs.Holdings.{Holding}
use Rattle.runtime_histories.specs.declared.entries.Entry.{Entry}
use Rattle.runtime_histories.specs.declared.entries.Event.{Event}
use Rattle.runtime_histories.specs.declared.entries.Event.TheVariants.{Opening, Closing}
use Rattle.runtime_histories.specs.declared.entries.Reply.TheVariants.{Opened, Refused}
use Rattle.runtime_histories.specs.declared.refusals.Asked.TheVariants.{Good, Bad}
use Rattle.runtime_histories.specs.Charmaps.{AreTablesOf}
use Rattle.runtime_histories.specs.Deeds.{Deeds, Act, act, Loaded, marks}
use Rattle.runtime_histories.specs.Entries.{deeds, deed_of, loaded_of}
use Rattle.runtime_histories.specs.Legal.{IsNext, Legal, LegalFrom, AreRead}
use Rattle.runtime_histories.specs.Places.{Placed, placed_at, place_loads, place_deed, places}
use Rattle.runtime_histories.specs.Residence.{resident}
use Rattle.runtime_histories.specs.Settings.{Setting, Source, charmaps_at}
use Rattle.runtime_histories.proofs.Legality.{deeds-snoc}
use Rattle.runtime_histories.proofs.Pinning.{places-snoc}
use Rattle.runtime_room.specs.Apart.{all_join, all_filter}
use Rattle.runtime_room.specs.Rooms.{parts}
use Rattle.desk_openings.specs.Parts.{place_of, parts_at, parts_for, tables_for, IsThere, AreThere}

-- The tables of a module that has a place are those of its charmaps.
abbrev pub IsReadAt : Source → Shape → Placed → Type 0
IsReadAt s g x = AreTablesOf s (charmaps_at g x.«module») x.tables

pub read_loads : (s : Source) (g : Shape) (pages : ℕ) (ls : List Loaded) (held : List Placed) → AreRead s g ls → AllByRecursion (IsReadAt s g) held → AllByRecursion (IsReadAt s g) (place_loads pages ls held)
read_loads s g pages [] held read all = all
read_loads s g pages (l ∷ ls) held read all = read_loads s g pages ls (held ++ placed_at pages held l ∷ []) read.1 (all_join (IsReadAt s g) held (placed_at pages held l ∷ []) all (read.0, tt))

read_deed : (s : Setting) (b : List Entry) (c : ℕ) (v : Event) → IsNext s b c v → AllByRecursion (IsReadAt s.source s.first.graph) (places s.pages (deeds b))
    → AllByRecursion (IsReadAt s.source s.first.graph) (place_deed s.pages (deed_of v) (places s.pages (deeds b)))
read_deed s b c (Opening (Bad f) (Bad g) reply) k all = all
read_deed s b c (Opening (Bad f) (Good to) reply) k all = all
read_deed s b c (Opening (Good from) (Bad f) reply) k all = all
read_deed s b c (Opening (Good from) (Good to) (Refused why)) k all = all
read_deed s b c (Opening (Good from) (Good to) (Opened chain cost loads modules)) k all = read_loads s.source s.first.graph s.pages (map loaded_of loads) (places s.pages (deeds b)) k.2.read all
read_deed s b c (Closing n) k all = all

from : (s : Setting) (b es : List Entry) → LegalFrom s b es → AllByRecursion (IsReadAt s.source s.first.graph) (places s.pages (deeds b))
    → AllByRecursion (IsReadAt s.source s.first.graph) (places s.pages (deeds (b ++ es)))
from s b [] k all = subst (λ (z : List Entry). AllByRecursion (IsReadAt s.source s.first.graph) (places s.pages (deeds z))) (sym (append-nil b)) all
from s b (e ∷ es) k all =
    let a : Act = act e.caller (deed_of e.event) in
    subst (λ (z : List Entry). AllByRecursion (IsReadAt s.source s.first.graph) (places s.pages (deeds z))) (append_assoc b (e ∷ []) es)
    (from s (b ++ e ∷ []) es k.1 (subst (λ (z : Deeds). AllByRecursion (IsReadAt s.source s.first.graph) (places s.pages z)) (sym (deeds-snoc b e))
    (subst (AllByRecursion (IsReadAt s.source s.first.graph)) (sym (places-snoc s.pages (deeds b) a))
    (all_filter (IsReadAt s.source s.first.graph) (λ (x : Placed). resident (marks (deeds b ++ a ∷ [])) x.«module») (place_deed s.pages (deed_of e.event) (places s.pages (deeds b)))
    (read_deed s b e.caller e.event k.0 all)))))

pub legal_read : (s : Setting) (es : List Entry) → Legal s es → AllByRecursion (IsReadAt s.source s.first.graph) (places s.pages (deeds es))
legal_read s es k = from s [] es k tt

-- The parts of tables are of these tables.
pub parts_tables : (ts : List Table) (pages : List ℕ) → map (λ (h : Holding). h.table) (parts ts pages) ≡ ts
parts_tables [] pages = refl
parts_tables (t ∷ ts) pages = ap (λ (z : List Table). t ∷ z) (parts_tables ts (drop (page_count t) pages))

tables-append : (s : Source) (ws vs : List (List ℕ)) (ts us : Tables) → AreTablesOf s ws ts → AreTablesOf s vs us → AreTablesOf s (ws ++ vs) (ts ++ us)
tables-append s [] vs [] us a b = b
tables-append s [] vs (t ∷ ts) us a b = absurd a
tables-append s (w ∷ ws) vs [] us a b = absurd a
tables-append s (w ∷ ws) vs (t ∷ ts) us a b = (a.0, tables-append s ws vs ts us a.1 b)

read_at : (s : Source) (g : Shape) (m : ℕ) (held : List Placed) → AllByRecursion (IsReadAt s g) held → IsThere (place_of held m) → AreTablesOf s (charmaps_at g m) (map (λ (h : Holding). h.table) (parts_at (place_of held m)))
read_at s g m [] all there = absurd there
read_at s g m (x ∷ xs) all there = go (eqb x.«module» m) refl there (λ z. read_at s g m xs all.1 z)
  where
    go : (b : Bool) → eqb x.«module» m ≡ b → IsThere (cond b (Some x) (place_of xs m)) → (IsThere (place_of xs m) → AreTablesOf s (charmaps_at g m) (map (λ (h : Holding). h.table) (parts_at (place_of xs m))))
        → AreTablesOf s (charmaps_at g m) (map (λ (h : Holding). h.table) (parts_at (cond b (Some x) (place_of xs m))))
    go true e there rec = subst (AreTablesOf s (charmaps_at g m)) (sym (parts_tables x.tables x.pages)) (subst (λ (k : ℕ). AreTablesOf s (charmaps_at g k) x.tables) (eqb-true x.«module» m e) all.0)
    go false e there rec = rec there

-- The tables of the modules of a chain are those of their charmaps.
pub chain_read : (s : Source) (g : Shape) (held : List Placed) (ms : List ℕ) → AllByRecursion (IsReadAt s g) held → AreThere held ms → AreTablesOf s (flat_map (charmaps_at g) ms) (tables_for held ms)
chain_read s g held [] all there = tt
chain_read s g held (m ∷ ms) all there =
    subst (AreTablesOf s (charmaps_at g m ++ flat_map (charmaps_at g) ms)) (sym (map-append (λ (h : Holding). h.table) (parts_at (place_of held m)) (parts_for held ms)))
    (tables-append s (charmaps_at g m) (flat_map (charmaps_at g) ms) (map (λ (h : Holding). h.table) (parts_at (place_of held m))) (tables_for held ms) (read_at s g m held all there.0) (chain_read s g held ms all there.1))
