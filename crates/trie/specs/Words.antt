-- Walks along words in pages, by the words alone.
use Rattle.std.specs.Prelude.{ℕ, ◌+◌, ◌*◌, ◌-◌, ◌^◌, ◌&&◌, if◌then◌else◌, nat_le, nat_lt, List, [], ◌∷◌, get_or, Option, Some, None}
use Rattle.std.specs.Option.{option_and_then}
use Rattle.trie.specs.declared.walk.Walk.{Walk}
use Rattle.trie.specs.declared.walk.Walk.TheVariants.{Word, Inside, Outside}

-- The page that a word refers to.
abbrev pub page_in : ℕ → Option ℕ
page_in w = if nat_le (2 ^ 61) w && nat_lt w (2 ^ 61 + 2 ^ 32) then Some (w - 2 ^ 61) else None

-- The word at a place of a page; 0 where there is none.
abbrev pub word_in : List ℕ → ℕ → ℕ → ℕ
word_in ws page place = get_or ws (256 * page + place) 0

-- One word of a walk: a reference goes on, another word ends it, and 0 leads nowhere.
abbrev pub walk_step : ℕ → ℕ → Option ℕ → (ℕ → Walk) → Walk
walk_step w used (Some page) next = next page
walk_step w used None next = if nat_le (2 ^ 62) w then Word (w - 2 ^ 62) used else Outside

-- Along bytes from a page: each reference is followed, and any other word ends the walk.
abbrev pub walk_words : List ℕ → ℕ → ℕ → List ℕ → Walk
walk_words ws page used [] = Inside
walk_words ws page used (b ∷ bs) =
    walk_step (word_in ws page b) (used + 1) (page_in (word_in ws page b))
    (λ next. walk_words ws next (used + 1) bs)

-- The page that references lead to along bytes.
abbrev pub front_page : List ℕ → ℕ → List ℕ → Option ℕ
front_page ws page [] = Some page
front_page ws page (b ∷ bs) = option_and_then (λ next. front_page ws next bs) (page_in (word_in ws page b))
