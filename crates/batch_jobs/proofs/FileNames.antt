-- Which words are names of files.
use Rattle.std.proofs.Common.{◌≡◌, ◌∙◌, Bool, true, false, ap, ap₂, sym, refl, not, ◌==◌, IsUtf8}
use Rattle.std.specs.Prelude.{◌&&◌}
use Rattle.std.specs.List.{list_any}
use Rattle.std.specs.Str.{is_utf8}
use Rattle.std.proofs.lemmas.Str.{IsUtf8-from_is_utf8, is_utf8-from_IsUtf8}
use Rattle.batch_jobs.specs.Jobs.{Text, is_file_name}

-- Text in which no byte 00 was found is the name of a file.
pub is_file_name-text : (w : Text) (b : Bool) → IsUtf8 w → b ≡ list_any (λ x. x == 0) w → b ≡ false
    → is_file_name w ≡ true
is_file_name-text w b h e none =
    ap₂ (λ (p q : Bool). p && not q) (is_utf8-from_IsUtf8 w h) (sym e ∙ none)

-- What is no text is no name of a file.
pub is_file_name-not_text : (w : Text) → ¬ (IsUtf8 w) → is_file_name w ≡ false
is_file_name-not_text w h = go (is_utf8 w) refl
  where
    go : (b : Bool) → is_utf8 w ≡ b → is_file_name w ≡ false
    go true is = absurd (h (IsUtf8-from_is_utf8 w is))
    go false is = ap (λ (p : Bool). p && not (list_any (λ x. x == 0) w)) is
