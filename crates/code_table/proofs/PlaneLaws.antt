-- The page of the first plane.
use Rattle.std.proofs.Common.{◌≡◌, ◌≢◌, ◌+◌, ◌*◌, ◌<◌, ℕ, List, length, Option, Some, None, refl, sym, ap, ◌∙◌, arith}
use Rattle.std.specs.Prelude.{unwrap_or}
use Rattle.code_pairs.specs.Tables.{Table}
use Rattle.trie.specs.Fronts.{pages}
use Rattle.trie.specs.Words.{page_in, word_in}
use Rattle.trie.proofs.Fills.{some_page}
use Rattle.code_table.specs.Images.{root_of, plane_of, image, point_leaves, IsImageOf, IsPlane}
use Rattle.code_table.proofs.ImageLaws.{length-image}

-- What is given in the place of none is something where it is another.
some_of : (o : Option ℕ) (n : ℕ) → n ≡ unwrap_or o 0 → n ≢ 0 → o ≡ Some n
some_of (Some m) n e ne = ap Some (sym e)
some_of None n e ne = absurd (ne e)

-- What is read in the first word of the root leads.
pub parts_lead : (root plane : ℕ) (ws : List ℕ) → plane ≡ unwrap_or (page_in (word_in ws root 0)) 0 →
    IsPlane root plane ws
parts_lead root plane ws e = some_of (page_in (word_in ws root 0)) plane e

-- The page of a table leads in its image.
pub plane_leads : (table : Table) → IsPlane (root_of table) (plane_of table) (image table)
unfolding plane_of
plane_leads table = parts_lead (root_of table) (plane_of table) (image table) refl

-- What is read in an image is the table's.
pub plane_found : (table : Table) (root count : ℕ) (ws : List ℕ) → IsImageOf table root count ws →
    unwrap_or (page_in (word_in ws root 0)) 0 ≡ plane_of table
unfolding plane_of
plane_found table root count ws im =
    ap (λ xs. unwrap_or (page_in (word_in xs root 0)) 0) im.same
    ∙ ap (λ n. unwrap_or (page_in (word_in (image table) n 0)) 0) im.decode

-- So the table's leads in it.
pub plane_is : (table : Table) (root count plane : ℕ) (ws : List ℕ) → IsImageOf table root count ws →
    plane ≡ plane_of table → IsPlane root plane ws
plane_is table root count plane ws im e =
    parts_lead root plane ws (e ∙ sym (plane_found table root count ws im))

-- An image has its root page.
pub root_below : (table : Table) (root count : ℕ) (ws : List ℕ) → IsImageOf table root count ws →
    256 * root < length ws
root_below table root count ws im =
    below root (root_of table) (length (pages (point_leaves table))) (length ws) im.decode
    (ap length im.same ∙ length-image table) (some_page (point_leaves table))
  where
    below : (r a n l : ℕ) → r ≡ a → l ≡ 256 * (a + n) → 0 < n → 256 * r < l
    below r a n l e is lt = omega arith
