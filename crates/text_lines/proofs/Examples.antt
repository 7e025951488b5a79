use Rattle.std.specs.Prelude.{◌≡◌, refl, codes, [], ◌∷◌}
use Rattle.text_lines.specs.Lines.{lines}
use Rattle.text_lines.specs.Words.{words}

pub no_lines : lines [] ≡ []
no_lines = refl

pub two_lines : lines (97 ∷ 10 ∷ 10 ∷ 98 ∷ []) ≡ (97 ∷ []) ∷ [] ∷ (98 ∷ []) ∷ []
two_lines = refl

pub ended_line : lines (97 ∷ 10 ∷ []) ≡ (97 ∷ []) ∷ []
ended_line = refl

pub some_words : words (codes "  module SA//  INTERNAL TA 1 ") ≡ codes "module" ∷ codes "SA//" ∷ codes "INTERNAL" ∷ codes "TA" ∷ codes "1" ∷ []
some_words = refl
