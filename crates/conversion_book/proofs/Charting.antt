-- The tables and the recipe of a chain.
use Rattle.std.proofs.Common.{◌≡◌, ℕ, suc, ◌+◌, ◌<◌, ◌≤◌, ◌^◌, eqb, Bool, true, false, ◌||◌, cond, List, [], ◌∷◌, ◌++◌, length, map, sym, refl, ap, ◌∙◌, subst, arith, Option, Some, None, ◌⊎◌, inl, inr, true≢false, eq-eqb, eqb-true, length-append}
use Rattle.std.specs.Prelude.{slice_get}
use Rattle.std.specs.List.{All, AllByRecursion, find, flat_map, cons_option}
use Rattle.std.specs.Option.{option_and_then}
use Rattle.std.proofs.lemmas.List.Elements.{All-append, All-nil, All-cons}
use Rattle.code_pairs.specs.Tables.{Tables}
use Rattle.code_table.specs.WellFormed.{AreWellFormed}
use Rattle.modules_conf.specs.declared.kind.Kind.{Kind}
use Rattle.modules_conf.specs.declared.kind.Kind.TheVariants as kinds
use Rattle.module_graph.specs.declared.edge.Edge.{Edge}
use Rattle.module_graph.specs.Graph.{Shape, IsGraph}
use Rattle.module_graph.specs.Laws.{EdgesAreFound}
use Rattle.chain_search.specs.declared.chain.Chain.{Chain}
use Rattle.chain_search.specs.Chains.{Way, ordinals_of}
use Rattle.chain_search.specs.Laws.{LeastChainsAreShort}
use Rattle.chain_steps.specs.declared.recipe.Joint.{Joint}
use Rattle.chain_steps.specs.declared.recipe.Recipe.{Recipe}
use Rattle.chain_steps.specs.Sets.{IsInRange}
use Rattle.chain_steps.specs.Chains.{CanRun}
use Rattle.chain_recipes.specs.declared.stage.Stage.{Stage}
use Rattle.chain_recipes.specs.Recipes.{table_count, read_by, written_by, kind_at, stages, joint_between, joints_behind, last_behind, recipe_by, edges_at, recipe_for}
use Rattle.runtime_histories.specs.Charmaps.{AreTablesOf}
use Rattle.runtime_histories.specs.Deeds.{Loaded}
use Rattle.runtime_histories.specs.Legal.{AreRead, loaded_modules}
use Rattle.runtime_histories.specs.Places.{among}
use Rattle.runtime_histories.specs.Settings.{Source, modules_of, charmaps_in, charmaps_at}
use Rattle.conversion_book.specs.ChainTables.{tables_of, chain_tables}
use Rattle.conversion_book.specs.Preparing.{IsLed}

-- The edges of a way are those of its ordinals.
edges_along : EdgesAreFound → (g : Shape) → IsGraph g → (a b : ℕ) (es : List Edge) → Way g.edges a b es → edges_at g (ordinals_of es) ≡ es
edges_along law g is a b [] way = refl
edges_along law g is a b (e ∷ es) way = λ i. cons_option (law g e is way.0 i) (edges_along law g is e.target b es way.2 i)

-- A least chain has an edge.
pub led_some : EdgesAreFound → (g : Shape) → IsGraph g → (c : Chain) → IsLed g c → 0 < length (edges_at g c.ordinals)
led_some law g is c led =
    let t = led.leads.least in
    let same : edges_at g c.ordinals ≡ t.edges = ap (edges_at g) t.ordinals ∙ edges_along law g is led.leads.source led.leads.target t.edges t.least.chain.way in
    let n : length (edges_at g c.ordinals) ≡ length t.edges = ap length same in
    let some = t.least.chain.some in
    omega (arith, n, some)

-- It isn't long.
pub led_short : LeastChainsAreShort → (g : Shape) → IsGraph g → (c : Chain) → IsLed g c → length c.ordinals < 2 ^ 30
led_short law g is c led =
    let n = law g led.leads.source led.leads.target c is led.leads.least in
    let few = is.few in
    omega (arith, n, few)

-- The tables of two lists of words.
tables-append : (s : Source) (ws vs : List (List ℕ)) (ts us : Tables) → AreTablesOf s ws ts → AreTablesOf s vs us → AreTablesOf s (ws ++ vs) (ts ++ us)
tables-append s [] vs [] us a b = b
tables-append s [] vs (t ∷ ts) us a b = absurd a
tables-append s (w ∷ ws) vs [] us a b = absurd a
tables-append s (w ∷ ws) vs (t ∷ ts) us a b = (a.0, tables-append s ws vs ts us a.1 b)

or_true : (a b : Bool) → (a || b) ≡ true → (a ≡ true) ⊎ (b ≡ true)
or_true true b e = inl refl
or_true false b e = inr e

true_or : (a b : Bool) → a ≡ true → (a || b) ≡ true
true_or true b e = refl
true_or false b e = absurd (true≢false (sym e))

or_right : (a b : Bool) → b ≡ true → (a || b) ≡ true
or_right true b e = refl
or_right false b e = e

-- The tables of a module among some are those of its charmaps.
tables_read : (s : Source) (g : Shape) (m : ℕ) (held : List Loaded) → AreRead s g held → among m (loaded_modules held) ≡ true → AreTablesOf s (charmaps_at g m) (tables_of m held)
tables_read s g m [] read e = absurd (true≢false (sym e))
tables_read s g m (l ∷ ls) read e = go (eqb l.«module» m) (λ z. tables_read s g m ls read.1 z) refl e
  where
    go : (b : Bool) → (among m (loaded_modules ls) ≡ true → AreTablesOf s (charmaps_at g m) (tables_of m ls)) → eqb l.«module» m ≡ b → (b || among m (loaded_modules ls)) ≡ true → AreTablesOf s (charmaps_at g m) (cond b l.tables (tables_of m ls))
    go true rec f z = subst (λ (k : ℕ). AreTablesOf s (charmaps_at g k) l.tables) (eqb-true l.«module» m f) read.0
    go false rec f z = rec z

-- The tables of a chain's modules are those of their charmaps.
pub chain_read : (s : Source) (g : Shape) (held : List Loaded) (ms : List ℕ) → AreRead s g held → ((m : ℕ) → among m ms ≡ true → among m (loaded_modules held) ≡ true)
    → AreTablesOf s (flat_map (charmaps_at g) ms) (chain_tables held ms)
chain_read s g held [] read there = tt
chain_read s g held (m ∷ ms) read there = tables-append s (charmaps_at g m) (flat_map (charmaps_at g) ms) (tables_of m held) (chain_tables held ms)
    (tables_read s g m held read (there m (true_or (eqb m m) (among m ms) (eq-eqb m m refl))))
    (chain_read s g held ms read (λ k z. there k (or_right (eqb m k) (among k ms) z)))

length_tables : (s : Source) (ws : List (List ℕ)) (ts : Tables) → AreTablesOf s ws ts → length ts ≡ length ws
length_tables s [] [] a = refl
length_tables s [] (t ∷ ts) a = absurd a
length_tables s (w ∷ ws) [] a = absurd a
length_tables s (w ∷ ws) (t ∷ ts) a = ap suc (length_tables s ws ts a.1)

well_formed : (s : Source) (ws : List (List ℕ)) (ts : Tables) → AreTablesOf s ws ts → AreWellFormed ts
well_formed s [] [] a = tt
well_formed s [] (t ∷ ts) a = absurd a
well_formed s (w ∷ ws) [] a = absurd a
well_formed s (w ∷ ws) (t ∷ ts) a = (a.0.well_formed, well_formed s ws ts a.1)

-- How many tables edges have.
abbrev tables_along : Shape → List Edge → ℕ
tables_along g [] = 0
tables_along g (e ∷ es) = table_count (kind_at g e) + tables_along g es

count_words : (o : Option Kind) → length (charmaps_in o) ≡ table_count o
count_words None = refl
count_words (Some (kinds.Table map)) = refl
count_words (Some (kinds.Iso2022Jp roman kanji)) = refl
count_words (Some (kinds.Recode first second)) = refl

module_words : (g : Shape) (o : Option ℕ) (more : List ℕ) (n : ℕ) → length (flat_map (charmaps_at g) more) ≡ n
    → length (flat_map (charmaps_at g) (cons_option o more)) ≡ table_count (option_and_then (λ m. slice_get g.kinds m) o) + n
module_words g None more n e = omega (arith, e)
module_words g (Some m) more n e = length-append (charmaps_at g m) (flat_map (charmaps_at g) more) ∙ (λ i. count_words (slice_get g.kinds m) i + e i)

edge_words : (g : Shape) (o : Option Edge) (more : List ℕ) (es : List Edge) → length (flat_map (charmaps_at g) more) ≡ tables_along g es
    → length (flat_map (charmaps_at g) (cons_option (option_and_then (λ (e : Edge). e.«module») o) more)) ≡ tables_along g (cons_option o es)
edge_words g None more es e = e
edge_words g (Some x) more es e = module_words g x.«module» more (tables_along g es) e

chain_words : (g : Shape) (os : List ℕ) → length (flat_map (charmaps_at g) (modules_of g.edges os)) ≡ tables_along g (edges_at g os)
chain_words g [] = refl
chain_words g (o ∷ os) = edge_words g (find (λ e. eqb e.ordinal o) g.edges) (modules_of g.edges os) (edges_at g os) (chain_words g os)

-- The tables of what an edge reads and writes are there.
abbrev IsIn : Tables → Stage → Type 0
IsIn ts s = IsInRange ts s.reads × IsInRange ts s.writes

sets_in : (ts : Tables) (o k : ℕ) (kind : Option Kind) → k + table_count kind ≤ length ts → IsInRange ts (read_by o k kind) × IsInRange ts (written_by o k kind)
sets_in ts o k None h = (tt, tt)
sets_in ts o k (Some (kinds.Table map)) h = (omega (arith, h), omega (arith, h))
sets_in ts o k (Some (kinds.Iso2022Jp roman kanji)) h = ((omega (arith, h), omega (arith, h)), (omega (arith, h), omega (arith, h)))
sets_in ts o k (Some (kinds.Recode first second)) h = (omega (arith, h), omega (arith, h))

stages_in : (g : Shape) (ts : Tables) (k : ℕ) (es : List Edge) → k + tables_along g es ≤ length ts → AllByRecursion (IsIn ts) (stages g k es)
stages_in g ts k [] h = tt
stages_in g ts k (e ∷ es) h = (sets_in ts e.ordinal k (kind_at g e) (omega (arith, h)), stages_in g ts (k + table_count (kind_at g e)) es (omega (arith, h)))

abbrev JointIn : Tables → Joint → Type 0
JointIn ts j = IsInRange ts j.writer × IsInRange ts j.reader

joint_in : (ts : Tables) (s t : Stage) → IsIn ts s → IsIn ts t → All (JointIn ts) (joint_between s t)
joint_in ts s t a b = go s.ends_between
  where
    go : (z : Bool) → All (JointIn ts) (cond z [] (record { writer = s.writes; reader = t.reads } ∷ []))
    go true = All-nil (JointIn ts)
    go false = All-cons (JointIn ts) (record { writer = s.writes; reader = t.reads }) [] (a.1, b.0) (All-nil (JointIn ts))

joints_in : (ts : Tables) (s : Stage) (ss : List Stage) → IsIn ts s → AllByRecursion (IsIn ts) ss → All (JointIn ts) (joints_behind s ss)
joints_in ts s [] a all = All-nil (JointIn ts)
joints_in ts s (t ∷ tz) a all = All-append (JointIn ts) (joint_between s t) (joints_behind t tz) (joint_in ts s t a all.0) (joints_in ts t tz all.0 all.1)

last_in : (ts : Tables) (s : Stage) (ss : List Stage) → IsIn ts s → AllByRecursion (IsIn ts) ss → IsIn ts (last_behind s ss)
last_in ts s [] a all = a
last_in ts s (t ∷ tz) a all = last_in ts t tz all.0 all.1

no_recipe : (r : Recipe) → None ≡ Some r → ⊥
no_recipe r e = let P : Option Recipe → Type 0 = λ o. elim o [ Some _ ↦ ⊥ | None ↦ Unit {0} ] in subst P e tt

same_recipe : (a b : Recipe) → Some a ≡ Some b → a ≡ b
same_recipe a b e = let P : Option Recipe → Type 0 = λ o. elim o [ Some c ↦ a ≡ c | None ↦ ⊥ ] in subst P e refl

recipe_in : (ts : Tables) (ss : List Stage) (r : Recipe) → AllByRecursion (IsIn ts) ss → recipe_by ss ≡ Some r → CanRun ts r
recipe_in ts [] r all e = absurd (no_recipe r e)
recipe_in ts (s ∷ ss) r all e = subst (CanRun ts) (same_recipe (record { reader = s.reads; joints = joints_behind s ss; writer = (last_behind s ss).writes }) r e) (record { reads = all.0.0; joints = joints_in ts s ss all.0 all.1; writes = (last_in ts s ss all.0 all.1).1 })

-- A chain's recipe over the tables of its modules' charmaps can be run.
pub chain_runs : (s : Source) (g : Shape) (os : List ℕ) (ts : Tables) (r : Recipe) → AreTablesOf s (flat_map (charmaps_at g) (modules_of g.edges os)) ts → recipe_for g os ≡ Some r
    → CanRun ts r × AreWellFormed ts
chain_runs s g os ts r tables e =
    let n = length_tables s (flat_map (charmaps_at g) (modules_of g.edges os)) ts tables in
    let m = chain_words g os in (
      recipe_in ts (stages g 0 (edges_at g os)) r (stages_in g ts 0 (edges_at g os) (omega (arith, n, m))) e,
      well_formed s (flat_map (charmaps_at g) (modules_of g.edges os)) ts tables,
    )
