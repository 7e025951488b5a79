-- The ends and the pairs of one more line.
use Rattle.std.proofs.Common.{◌≡◌, ℕ, ◌+◌, ◌<◌, List, [], ◌∷◌, ◌++◌, length, get_or, take, map, sym, ap, subst, ◌∙◌, append_assoc}
use Rattle.std.proofs.lemmas.List.{take_more, map-append}
use Rattle.std.proofs.lemmas.Grind.{flat_map-append}
use Rattle.names_alias.specs.Aliases.{AliasTable, with_fixed, with_pair}
use Rattle.names_alias.specs.Lookups.{LooksLike}
use Rattle.names_alias.proofs.LookupLemmas.{LooksLike-fixed, LooksLike-pair}
use Rattle.modules_conf.specs.Resolution.{ends_of}
use Rattle.modules_conf.specs.declared.lines.EdgeLine.{EdgeLine}
use Rattle.modules_conf.specs.declared.lines.AliasLine.{AliasLine}

ends-more : (edges : List EdgeLine) (i : ℕ) (e : EdgeLine) → i < length edges → e ≡ get_or edges i e → (ends_of (take i edges) ++ e.source ∷ []) ++ e.target ∷ [] ≡ ends_of (take (i + 1) edges)
ends-more edges i e lt is =
    append_assoc (ends_of (take i edges)) (e.source ∷ []) (e.target ∷ [])
    ∙ sym (ap ends_of (take_more edges i e lt) ∙ flat_map-append (λ (e : EdgeLine). e.source ∷ e.target ∷ []) (take i edges) (get_or edges i e ∷ [])
    ∙ ap (λ (x : EdgeLine). ends_of (take i edges) ++ x.source ∷ x.target ∷ []) (sym is))

-- One module line more fixes its two ends.
pub LooksLike-ends : (old middle new : AliasTable) (edges : List EdgeLine) (i : ℕ) (e : EdgeLine) → i < length edges → e ≡ get_or edges i e
    → LooksLike old (ends_of (take i edges)) [] → middle ≡ with_fixed old e.source → new ≡ with_fixed middle e.target → LooksLike new (ends_of (take (i + 1) edges)) []
LooksLike-ends old middle new edges i e lt is like first second =
    let one : LooksLike middle (ends_of (take i edges) ++ e.source ∷ []) [] = subst (λ t. LooksLike t (ends_of (take i edges) ++ e.source ∷ []) []) (sym first) (LooksLike-fixed old (ends_of (take i edges)) [] e.source like) in
    subst (λ t. LooksLike t (ends_of (take (i + 1) edges)) []) (sym second)
    (subst (λ ends. LooksLike (with_fixed middle e.target) ends []) (ends-more edges i e lt is) (LooksLike-fixed middle (ends_of (take i edges) ++ e.source ∷ []) [] e.target one))

-- One alias line more is one pair more.
pub LooksLike-line : (old new : AliasTable) (fixed : List (List ℕ)) (lines : List AliasLine) (i : ℕ) (a : AliasLine) → i < length lines → a ≡ get_or lines i a
    → LooksLike old fixed (map (λ (a : AliasLine). (a.alias, a.original)) (take i lines)) → new ≡ with_pair old a.alias a.original
    → LooksLike new fixed (map (λ (a : AliasLine). (a.alias, a.original)) (take (i + 1) lines))
LooksLike-line old new fixed lines i a lt is like added =
    let pairs : map (λ (a : AliasLine). (a.alias, a.original)) (take i lines) ++ (a.alias, a.original) ∷ [] ≡ map (λ (a : AliasLine). (a.alias, a.original)) (take (i + 1) lines) =
    sym (ap (map (λ (a : AliasLine). (a.alias, a.original))) (take_more lines i a lt) ∙ map-append (λ (a : AliasLine). (a.alias, a.original)) (take i lines) (get_or lines i a ∷ [])
    ∙ ap (λ (x : AliasLine). map (λ (a : AliasLine). (a.alias, a.original)) (take i lines) ++ (x.alias, x.original) ∷ []) (sym is)) in
    subst (λ t. LooksLike t fixed (map (λ (a : AliasLine). (a.alias, a.original)) (take (i + 1) lines))) (sym added)
    (subst (LooksLike (with_pair old a.alias a.original) fixed) pairs (LooksLike-pair old fixed (map (λ (a : AliasLine). (a.alias, a.original)) (take i lines)) a.alias a.original like))
