-- Words that hold a trie's pages are its image, and a walk along them finds what the leaves say.
use Rattle.std.proofs.Common.{◌≡◌, ℕ, ◌+◌, ◌-◌, ◌*◌, ◌/◌, ◌%◌, ◌^◌, ◌<◌, ◌≤◌, List, [], ◌∷◌, ◌++◌, length, get_or, take, drop, Option, Some, None, refl, sym, ap, ◌∙◌, arith, length-append}
use Rattle.std.specs.List.{flat_map}
use Rattle.std.proofs.lemmas.List.{take-append-drop, length-map, length-drop, get_or-drop, get_or_append_left, get_or-append-add}
use Rattle.std.proofs.lemmas.Grind.{same_number_lists}
use Rattle.std.specs.Prelude.{unwrap_or}
use Rattle.trie.specs.Fronts.{AreShort, word_at, pages, children}
use Rattle.trie.specs.Look.{look_of}
use Rattle.trie.specs.Stages.{Holds}
use Rattle.trie.specs.Trie.{cell, cell_word, place_of, trie, IsTrieAt}
use Rattle.trie.specs.Pages.{IsPageIn}
use Rattle.trie.specs.Words.{walk_words, page_in, word_in}
use Rattle.trie.specs.Leaf.{Leaf}
use Rattle.trie.proofs.Places.{some_none, place_there}
use Rattle.trie.proofs.Walks.{walks, AreBytes, page_in_ref, page_in_word}
use Rattle.trie.proofs.Fronts.{placed}
use Rattle.trie.proofs.Fills.{some_page}
use Rattle.trie.proofs.Distinct.{cells_at, length-all_children}
use Rattle.trie.proofs.Looks.{looks}

lt_le : {m n : ℕ} → m < n → m ≤ n
lt_le h = omega arith

-- where the trie of the leaves stands, the words hold its pages
pub trie_holds : (leaves : List Leaf) (first : ℕ) (ws : List ℕ) → IsTrieAt leaves first ws →
    Holds leaves leaves first ws
trie_holds leaves first ws at = record {
  few = lt_le at.few;
  words = λ k b lt small.
      ap (λ i. get_or ws i 0) (let e : 256 * (first + k) + b ≡ 256 * first + (256 * k + b) = omega arith in e)
      ∙ at.same (256 * k + b) (omega (
        arith,
        length-map (flat_map children (pages leaves))
            (cell leaves first (pages leaves)),
        length-all_children (pages leaves),
      ))
      ∙ cells_at (cell leaves first (pages leaves)) (pages leaves) k b lt small;
}

-- a walk along the words finds the shortest front that is a path
pub walk_finds : (leaves : List Leaf) (first : ℕ) (ws bytes : List ℕ) → IsTrieAt leaves first ws →
    AreBytes bytes → 0 < length bytes → walk_words ws first 0 bytes ≡ look_of leaves bytes
walk_finds leaves first ws bytes at ok some =
    let h = trie_holds leaves first ws at in
    ap (λ n. walk_words ws n 0 bytes) (let z : first ≡ first + 0 = omega arith in z)
    ∙ walks leaves first (pages leaves) ws (record { few = h.few; words = h.words })
    (placed leaves at.short) bytes 0 0 (some_page leaves) refl ok
    ∙ looks leaves bytes some

-- from the first page on the words are the trie
pub image_is : (leaves : List Leaf) (first : ℕ) (ws : List ℕ) → Holds leaves leaves first ws →
    length ws ≡ 256 * (first + length (pages leaves)) → drop (256 * first) ws ≡ trie leaves first
image_is leaves first ws h size =
    same_number_lists (drop (256 * first) ws) (trie leaves first)
    (omega (
      arith,
      length-drop (256 * first) ws,
      length-map (flat_map children (pages leaves))
          (cell leaves first (pages leaves)),
      length-all_children (pages leaves),
    ))
    (λ i lt.
    let k = i / 256 in
    let b = i % 256 in
    let whole : i ≡ 256 * k + b = omega arith in
    let within : k < length (pages leaves) = omega (arith, length-drop (256 * first) ws) in
    get_or-drop (256 * first) ws i 0
    ∙ ap (λ n. get_or ws n 0) (let e : 256 * first + i ≡ 256 * (first + k) + b = omega arith in e)
    ∙ h.words k b within (omega arith)
    ∙ sym (ap (λ n. get_or (trie leaves first) n 0) whole
    ∙ cells_at (cell leaves first (pages leaves)) (pages leaves) k b within (omega arith)))

-- words to which the levels of a trie were added, and then filled
pub words_are : (leaves : List Leaf) (first : ℕ) (before levels ws : List ℕ) → length before ≡ 256 * first →
    take (length before) levels ≡ before → take (256 * first) ws ≡ take (256 * first) levels
    → Holds leaves leaves first ws → length ws ≡ 256 * (first + length (pages leaves)) →
    ws ≡ before ++ trie leaves first
words_are leaves first before levels ws size same kept h all =
    sym (take-append-drop (256 * first) ws)
    ∙ ap (λ xs. xs ++ drop (256 * first) ws) (kept ∙ ap (λ n. take n levels) (sym size) ∙ same)
    ∙ ap (λ xs. before ++ xs) (image_is leaves first ws h all)

-- a trie has the words of its pages
pub length-trie : (leaves : List Leaf) (first : ℕ) → length (trie leaves first) ≡ 256 * length (pages leaves)
length-trie leaves first = length-map (flat_map children (pages leaves)) (cell leaves first (pages leaves))
    ∙ length-all_children (pages leaves)

-- where a trie follows some words, it stands there
pub trie_stands : (leaves : List Leaf) (first : ℕ) (before ws : List ℕ) → AreShort 4 leaves →
    first + length (pages leaves) < 2 ^ 32 → length before ≡ 256 * first
    → ws ≡ before ++ trie leaves first → IsTrieAt leaves first ws
trie_stands leaves first before ws short few size is = record {
  short = short;
  few = few;
  within = omega (arith, ap length is, length-append before (trie leaves first), length-trie leaves first, size);
  same = λ i lt.
      ap (λ xs. get_or xs (256 * first + i) 0) is
      ∙ ap (λ n. get_or (before ++ trie leaves first) (n + i) 0) (sym size)
      ∙ get_or-append-add before (trie leaves first) i 0;
}

-- where more words follow, a trie still stands
pub trie_extends : (leaves : List Leaf) (first : ℕ) (ws more : List ℕ) →
    256 * (first + length (pages leaves)) ≤ length ws → IsTrieAt leaves first ws →
    IsTrieAt leaves first (ws ++ more)
trie_extends leaves first ws more room at = record {
  short = at.short;
  few = at.few;
  within = omega (arith, room, length-append ws more);
  same = λ i lt. get_or_append_left ws more 0 (256 * first + i) (omega (arith, length-trie leaves first))
      ∙ at.same i lt;
}

refers : (first n : ℕ) (o place : Option ℕ) (next : ℕ) → ((j : ℕ) → place ≡ Some j → j < n) →
    first + n ≤ 2 ^ 32 → page_in (cell_word first o place) ≡ Some next → (first ≤ next) × (next < first + n)
refers first n (Some w) place next within few e = absurd (some_none (sym e ∙ page_in_word w))
refers first n None (Some j) next within few e =
    let lt = within j refl in
    let same : next ≡ first + j =
    ap (λ o. unwrap_or o 0) (sym e ∙ page_in_ref (first + j) (omega (arith, lt))) in
    (omega (arith, same), omega (arith, same, lt))
refers first n None None next within few e = absurd (some_none (sym e))

-- a trie's references lead to its pages
pub trie_pages : (leaves : List Leaf) (first : ℕ) (ws : List ℕ) → IsTrieAt leaves first ws → IsPageIn ws first
trie_pages leaves first ws at =
    let h = trie_holds leaves first ws at in
    let ps = pages leaves in (
      first,
      length ps,
      record {
        within = at.within;
        closed = λ page b next low high small e.
            let k = page - first in
            let place : first + k ≡ page = omega (arith, low) in
            let q = get_or ps k [] ++ b ∷ [] in
            refers first (length ps) (word_at leaves q) (place_of q ps) next
            (λ j is. (place_there q ps j is).within) h.few
            (ap page_in (sym (h.words k b (omega (arith, high)) small) ∙ ap (λ x. word_in ws x b) place) ∙ e);
      },
      omega arith,
      omega (arith, some_page leaves),
    )
