-- Packed texts of points, and the seed behind the next.
use Rattle.std.proofs.Common.{◌≡◌, ◌∙◌, ℕ, ◌+◌, ◌-◌, ◌*◌, ◌/◌, ◌%◌, ◌<◌, ◌≤◌, ◌==◌, if◌then◌else◌, List, [], ◌∷◌, ◌++◌, length, map, get_or, ap, sym, refl, arith}
use Rattle.std.specs.List.{range_with_len}
use Rattle.std.proofs.lemmas.List.{get_or-map, length-map}
use Rattle.std.proofs.lemmas.List.FromFn.{get_or-map-range_with_len, length-map-range_with_len}
use Rattle.batch_jobs.specs.Limits.{made_points}
use Rattle.batch_jobs.specs.Generated.{next_seed, point_at, points, spelled, spelled_all}
use Rattle.batch_jobs.specs.Packed.{ArePacked, packed_text, text_at, texts_from}
use Rattle.batch_jobs.proofs.Ranges.{longer, map_range_first, map_range_none, points_first}

-- The seed behind the next.
pub second_seed_is : (seed : ℕ) → (1117952617 * seed + 1406932606) % 2147483648 ≡ next_seed (next_seed seed)
second_seed_is seed = omega arith

-- A seed's point hangs on its upper half alone.
point_of_half : (seed : ℕ) → point_at (65536 * (seed / 65536)) ≡ point_at seed
point_of_half seed =
    let upper : 65536 * (seed / 65536) / 65536 ≡ seed / 65536 = omega arith in
    let high : 65536 * (seed / 65536) / 262144 ≡ seed / 262144 = omega arith in
    ap (λ u. if u % 4 == 0 then 32 + (65536 * (seed / 65536) / 262144) % 95 else 0x4E00 + (65536 * (seed / 65536) / 262144) % 1024) upper
    ∙ ap (λ h. if (seed / 65536) % 4 == 0 then 32 + h % 95 else 0x4E00 + h % 1024) high

-- The first of the texts from a place on, and the others.
pub texts_more : (number place : ℕ) → place < 262144
    → texts_from number place ≡ text_at number place ∷ texts_from number (place + 1)
unfolding texts_from
texts_more number place lt = map_range_first (text_at number) place 262144 lt

-- At the end no text is left.
pub texts_end : (number place : ℕ) → 262144 ≤ place → texts_from number place ≡ []
unfolding texts_from
texts_end number place le = map_range_none (text_at number) place 262144 le

-- There are as many numbers as places.
pub words_long : (number : ℕ) (words : List ℕ) → ArePacked number words → length words ≡ 262144
unfolding texts_from
words_long number words are =
    sym (length-map words packed_text) ∙ ap length are ∙ length-map-range_with_len (text_at number) 0 262144

-- A number at a place stands for the text of that place.
word_is : (number place : ℕ) (words : List ℕ) → place < 262144 → ArePacked number words
    → packed_text (get_or words place 0) ≡ text_at number place
unfolding texts_from
word_is number place words lt are =
    sym (get_or-map packed_text words place 0 [] (omega (arith, lt, words_long number words are)))
    ∙ ap (λ ts. get_or ts place []) are
    ∙ get_or-map-range_with_len (text_at number) 0 262144 place place [] lt (omega arith)

-- The number of a charmap and a seed stands for how the charmap spells the seed's point.
pub word_spells : (number charmap seed : ℕ) (words : List ℕ) → charmap < 8 → seed < 2147483648 → ArePacked number words
    → packed_text (get_or words (32768 * charmap + seed / 65536) 0) ≡ spelled number charmap (point_at seed)
word_spells number charmap seed words in_range small are =
    let place : ℕ = 32768 * charmap + seed / 65536 in
    let which : place / 32768 ≡ charmap = omega arith in
    let half : place % 32768 ≡ seed / 65536 = omega arith in
    word_is number place words (omega arith) are
    ∙ ap (λ k. spelled number k (point_at (65536 * (place % 32768)))) which
    ∙ ap (λ h. spelled number charmap (point_at (65536 * h))) half
    ∙ ap (spelled number charmap) (point_of_half seed)

-- Two more points are put.
pub two_more : (number charmap pair seed : ℕ) (whole done middle new : List ℕ) → pair < 32768
    → whole ≡ done ++ spelled_all number charmap (points seed (made_points - 2 * pair))
    → middle ≡ done ++ spelled number charmap (point_at (next_seed seed))
    → new ≡ middle ++ spelled number charmap (point_at (next_seed (next_seed seed)))
    → whole ≡ new ++ spelled_all number charmap (points (next_seed (next_seed seed)) (made_points - 2 * (pair + 1)))
two_more number charmap pair seed whole done middle new lt is one two =
    let places : made_points - (2 * pair + 1 + 1) ≡ made_points - 2 * (pair + 1) = omega arith in
    longer whole middle (spelled number charmap (point_at (next_seed (next_seed seed)))) new
    (spelled_all number charmap (points (next_seed seed) (made_points - (2 * pair + 1))))
    (spelled_all number charmap (points (next_seed (next_seed seed)) (made_points - (2 * pair + 1 + 1))))
    (longer whole done (spelled number charmap (point_at (next_seed seed))) middle
    (spelled_all number charmap (points seed (made_points - 2 * pair)))
    (spelled_all number charmap (points (next_seed seed) (made_points - (2 * pair + 1))))
    is (ap (spelled_all number charmap) (points_first seed (2 * pair) made_points (omega arith))) one)
    (ap (spelled_all number charmap) (points_first (next_seed seed) (2 * pair + 1) made_points (omega arith))) two
    ∙ ap (λ m. new ++ spelled_all number charmap (points (next_seed (next_seed seed)) m)) places
