-- Codes of points, one behind another.
use Rattle.std.proofs.Common.{◌≡◌, ◌+◌, ◌<◌, ℕ, List, [], ◌∷◌, ◌++◌, length, take, drop, get_or, Some, Option, refl, sym, ap, ◌∙◌, subst, append_assoc, append-nil}
use Rattle.std.specs.Prelude.{slice_set, unwrap_or, IsSome}
use Rattle.std.specs.List.{AllByRecursion, flat_map}
use Rattle.std.proofs.lemmas.List.{take_more, take_more_set, drop-drop}
use Rattle.std.proofs.lemmas.Grind.{flat_map-append}
use Rattle.code_pairs.specs.Tables.{Table, code_of}
use Rattle.step_table.specs.Sets.{IsInTable, spelled}
use Rattle.code_table.specs.Eights.{AreCodesOf}

-- the codes spell the points, which the table has
pub codes_spell : (table : Table) (ps : List ℕ) (cs : List (List ℕ)) → AreCodesOf table ps cs → flat_map (λ (c : List ℕ). c) cs ≡ flat_map (spelled table) ps
codes_spell table [] [] are = refl
codes_spell table [] (d ∷ cs) are = absurd are
codes_spell table (p ∷ ps) [] are = absurd are
codes_spell table (p ∷ ps) (c ∷ cs) are =
    ap (λ z. z ++ flat_map (λ (c : List ℕ). c) cs) (sym (ap (λ o. unwrap_or o []) are.0)) ∙ ap (λ z. spelled table p ++ z) (codes_spell table ps cs are.1)

pub codes_there : (table : Table) (ps : List ℕ) (cs : List (List ℕ)) → AreCodesOf table ps cs → AllByRecursion (IsInTable table) ps
codes_there table [] [] are = tt
codes_there table [] (d ∷ cs) are = absurd are
codes_there table (p ∷ ps) [] are = absurd are
codes_there table (p ∷ ps) (c ∷ cs) are = (subst (λ (o : Option (List ℕ)). IsSome o) (sym are.0) refl, codes_there table ps cs are.1)

-- one code more behind those that were put
pub put_next : (codes : List (List ℕ)) (i at end n : ℕ) (d old mid new : List ℕ) → i < length codes →
    take end mid ≡ take at old ++ flat_map (λ (c : List ℕ). c) (take i codes) → take (end + n) new ≡ take end mid ++ get_or codes i d →
    take (end + n) new ≡ take at old ++ flat_map (λ (c : List ℕ). c) (take (i + 1) codes)
put_next codes i at end n d old mid new lt before put =
    let each : List ℕ → List ℕ = λ c. c in
    let last : flat_map each (get_or codes i d ∷ []) ≡ get_or codes i d = append-nil (get_or codes i d) in
    let more : flat_map each (take (i + 1) codes) ≡ flat_map each (take i codes) ++ get_or codes i d =
    ap (flat_map each) (take_more codes i d lt) ∙ flat_map-append each (take i codes) (get_or codes i d ∷ []) ∙ ap (λ z. flat_map each (take i codes) ++ z) last in
    put ∙ ap (λ z. z ++ get_or codes i d) before ∙ append_assoc (take at old) (flat_map each (take i codes)) (get_or codes i d) ∙ ap (λ z. take at old ++ z) (sym more)

-- where two outputs go on in the same way, they do so further on
pub rest_next : (end n : ℕ) (old mid new : List ℕ) → drop end mid ≡ drop end old → drop (end + n) new ≡ drop (end + n) mid → drop (end + n) new ≡ drop (end + n) old
rest_next end n old mid new before put = put ∙ sym (drop-drop n end mid) ∙ ap (drop n) before ∙ drop-drop n end old
