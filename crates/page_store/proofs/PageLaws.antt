-- What pins tell of the side words.
use Rattle.std.proofs.Common.{◌≡◌, ◌+◌, ◌*◌, ◌<◌, ◌≤◌, ◌^◌, ℕ, zero, suc, List, [], ◌∷◌, length}
use Rattle.std.proofs.Common.{Option, Some, None, get_or, refl, sym, ap, ◌∙◌, subst, arith, true}
use Rattle.std.specs.Prelude.{slice_index, unwrap_or, IsSome, IfSome}
use Rattle.std.specs.List.{AllByRecursion}
use Rattle.std.proofs.lemmas.List.{get_or-map}
use Rattle.std.proofs.lemmas.Slice.Eq.{bytes_eq-Decides}
use Rattle.std.specs.Str.{bytes_eq}
use Rattle.code_pairs.specs.Tables.{Table, table_at, IsWellFormed, HasPoints}
use Rattle.code_table.specs.Images.{root_of, plane_of, page_count, image, image_word, IsImageOf, IsPlane}
use Rattle.code_table.specs.Eights.{AreEight}
use Rattle.code_table.specs.declared.eights.Eight.{Eight}
use Rattle.code_table.specs.declared.layout.Layout.{Layout}
use Rattle.trie.specs.Words.{word_in}
use Rattle.history_core.specs.History.{History}
use Rattle.history_core.specs.Tokens.{words_of, pinned_of}
use Rattle.history_core.specs.declared.story.Story.{Ghosts}
use Rattle.history_core.specs.declared.tokens.Hall.{Hall}
use Rattle.history_core.specs.declared.tokens.Pass.{Pass}
use Rattle.page_store.specs.Holdings.{Holding, Among, IsHolding, IsPinnedIn, is_held, table_in}
use Rattle.page_store.specs.Holdings.{side, IsWithin, IsPin, holdings_of, CanRead}
use Rattle.page_store.specs.Laws.{HeldIn, held_is}
use Rattle.page_store.specs.Pins.{tables_of}
use Rattle.page_store.specs.declared.pin.Pin.{Pin}

-- equal lists of bytes
same_pages : (xs ys : List ℕ) → bytes_eq xs ys ≡ true → xs ≡ ys
same_pages xs ys e = (bytes_eq-Decides xs ys).0 e

module _ (hs : List Holding) (pages : List ℕ) where
  -- the holding has these very pages
  holding_pages : (h : HeldIn hs pages) → h.holding.pages ≡ pages
  holding_pages h = same_pages h.holding.pages pages h.same

  -- there are as many pages as the image has
  pub pages_count : ((h : Holding) → Among hs h → IsHolding h) → is_held hs pages ≡ true
      → (length pages ≡ page_count (table_in hs pages)) × (length pages < 2 ^ 32)
  pages_count are held = let h = held_is hs pages held in let is = are h.holding h.among in
      let e : length pages ≡ page_count h.holding.table = ap length (sym (holding_pages h))
      ∙ is.count in
      (e ∙ ap page_count h.table, subst (λ (n : ℕ). n < 2 ^ 32) (sym e) is.few)

  -- the page image of a table is there
  pub pin_image : (words : ℕ) (layout : Layout) (ws : List ℕ) → ((h : Holding) → Among hs h → IsHolding h)
      → IsPin hs words pages layout → ws ≡ image (table_in hs pages)
      → IsImageOf (table_in hs pages) layout.root layout.pages ws
  pin_image words layout ws are pin is =
      let h = held_is hs pages pin.held in
      let holding = are h.holding h.among in
      let n = pages_count are pin.held in
      record {
        well_formed = subst IsWellFormed h.table holding.well_formed;
        numbers = subst HasPoints h.table holding.numbers;
        decode = ap (λ (l : Layout). l.root) pin.parts;
        all = ap (λ (l : Layout). l.pages) pin.parts;
        few = subst (λ (k : ℕ). k < 2 ^ 32) (n.0) n.1;
        same = is;
      }

  -- and its first plane
  pub pin_leads : (words : ℕ) (layout : Layout) (ws : List ℕ)
      → ((table : Table) → IsPlane (root_of table) (plane_of table) (image table))
      → IsPin hs words pages layout → ws ≡ image (table_in hs pages) → IsPlane layout.root layout.plane ws
  pin_leads words layout ws lead pin is =
      let table = table_in hs pages in
      subst (λ (l : Layout). IsPlane l.root l.plane ws) (sym pin.parts)
      (subst (IsPlane (root_of table) (plane_of table)) (sym is) (lead table))

-- what is read in every table that has a fact is read in one that has it
pub eight_is : (o : Option Eight) (input : List ℕ) (table : Table) (P : Table → Type 0) → P table
    → IfSome o (λ (e : Eight). (t : Table) → P t → AreEight t input e) → IfSome o (AreEight table input)
eight_is (Some e) input table P there all = all table there
eight_is None input table P there all = all

-- the table of a pin is the one of its number
pub table_is : (hs : List Holding) (pins : List Pin) (i : ℕ) (d : Pin) → i < length pins
    → table_in hs (get_or pins i d).pages.items ≡ table_at (tables_of hs pins) i
table_is hs pins i d lt = sym (get_or-map (λ (p : Pin). table_in hs p.pages.items) pins i d [] lt)

-- each page image has 256 words a page
abbrev pub HaveWords : Type 0
HaveWords = (table : Table) → length (image table) ≡ 256 * page_count table

-- of each page of a list
all_index : (P : ℕ → Type 0) (xs : List ℕ) (i : ℕ) → i < length xs → AllByRecursion P xs
    → P (slice_index xs i)
all_index P [] i lt all = absurd (omega arith)
all_index P (x ∷ xs) zero lt all = all.0
all_index P (x ∷ xs) (suc i) lt all = all_index P xs i (omega arith) all.1

-- a word of a page that is held
pub record IsWord (pinned : ℕ → Option ℕ) (words : ℕ) (table : Table) (pages : List ℕ)
    (page place : ℕ) : Type 0 where
  pub within : page < length pages
  pub inside : 256 * slice_index pages page + place < words
  pub word : pinned (256 * slice_index pages page + place) ≡ Some (word_in (image table) page place)

is_below : (page place n len : ℕ) → 256 * page + place < len → len ≡ 256 * n → page < n
is_below page place n len lt is = omega arith

is_inside : (page place words : ℕ) → 256 * page + 256 ≤ words → place < 256
    → 256 * page + place < words
is_inside page place words h lt = omega arith

pub word_is : (hs : List Holding) (pages : List ℕ) (pinned : ℕ → Option ℕ) (words : ℕ) → HaveWords
    → ((h : Holding) → Among hs h → IsHolding h)
    → ((h : Holding) → Among hs h → IsPinnedIn pinned h) → is_held hs pages ≡ true
    → AllByRecursion (IsWithin words) pages
    → (page place : ℕ) → place < 256 → 256 * page + place < length (image (table_in hs pages))
    → IsWord pinned words (table_in hs pages) pages page place
word_is hs pages pinned words have are pin held inside page place small lt =
    let h = held_is hs pages held in let n = pages_count hs pages are held in
    let below : page < page_count (table_in hs pages) =
    is_below page place (page_count (table_in hs pages))
    (length (image (table_in hs pages))) lt (have (table_in hs pages)) in
    let within : page < length pages = subst (λ (k : ℕ). page < k) (sym n.0) below in
    let word : pinned (side h.holding.pages page place)
    ≡ Some (image_word h.holding.table page place) =
    pin h.holding h.among page place
    (subst (λ (t : Table). page < page_count t) (sym h.table) below) small in
    record {
      within = within;
      inside = is_inside (slice_index pages page) place words
          (all_index (IsWithin words) pages page within inside) small;
      word = subst (λ (p : List ℕ × Table). pinned (side p.0 page place)
          ≡ Some (image_word p.1 page place)) (λ i. (holding_pages hs pages h i, h.table i)) word;
    }

-- the word that was read is the one of the image
pub read_is : (o : Option ℕ) (x y : ℕ) → o ≡ Some x → o ≡ Some y → x ≡ y
read_is o x y e f = ap (λ (z : Option ℕ). unwrap_or z 0) (sym e ∙ f)

pub some_is : (o : Option ℕ) (x : ℕ) → o ≡ Some x → IsSome o
some_is o x e = subst IsSome (sym e) refl

pub fits_page : (page place words : ℕ) → words < 2 ^ 32 → 256 * page + place < words
    → 256 * page < 2 ^ 32
fits_page page place words few h = omega arith

pub fits_place : (page place words : ℕ) → words < 2 ^ 32 → 256 * page + place < words
    → 256 * page + place < 2 ^ 32
fits_place page place words few h = omega arith

module _ {S V E T : Type 0} {g : Ghosts S V E T} (holds : T → History E → ℕ → List Holding)
    (hall : Hall S V E T) (pass : Pass S V E T g) (pages : List ℕ) where
  -- the page image lies in the pages
  pub pages_hold : HaveWords → ((t : T) (log : History E) (n : ℕ) (h : Holding) → g.legal t log
      → Among (holds t log n) h → IsHolding h)
      → ((t : T) (log : History E) (n : ℕ) (h : Holding) → g.legal t log → Among (holds t log n) h
      → IsPinnedIn (g.pinned t log n) h)
      → CanRead holds hall pass pages → (page place : ℕ) → place < 256
      → 256 * page + place < length (image (table_in (holdings_of holds hall pass) pages))
      → IsWord (pinned_of hall pass) (words_of hall) (table_in (holdings_of holds hall pass) pages)
      pages page place
  pages_hold have are pins can page place small within =
      word_is (holdings_of holds hall pass) pages (pinned_of hall pass) (words_of hall) have
      (λ h there. are _ _ _ h can.own.legal there) (λ h there. pins _ _ _ h can.own.legal there)
      can.held can.inside page place small within
