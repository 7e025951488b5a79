use Rattle.std.proofs.Common.{◌≡◌, ◌+◌, ◌++◌, ◌∙◌, ℕ, List, [], ◌∷◌, arith, sym, ap, length, append_assoc}
use Rattle.std.proofs.lemmas.List.FromFn.{map-range_with_len_more}
use Rattle.code_pairs.specs.declared.Pair.{Pair}
use Rattle.code_pairs.specs.Bytes.{big_endian, value_of}
use Rattle.charmap_reader.specs.Mapping.{members}
use Rattle.charmap_reader.proofs.members.push_members.Goals as goal

abbrev the_member : ℕ → List ℕ → Pair
the_member point code = record { point = point; code = code }

abbrev member : ℕ → List ℕ → List Pair
member point code = the_member point code ∷ []

pub loop-k-preserved : goal.loop-k-preserved
loop-k-preserved c =
    let old = c.args.pairs.now.items in
    let k = c.loop-k.k in
    let more : members c.args.point c.args.code (k + 1)
    ≡ members c.args.point c.args.code k ++ member (c.args.point + k)
    (big_endian (length c.args.code) (value_of c.args.code + k)) =
    map-range_with_len_more
    (λ j. the_member (c.args.point + j)
    (big_endian (length c.args.code) (value_of c.args.code + j))) 0 k k (omega arith) in
    c.in_ok-push.ensures.items
    ∙ ap (λ (q : List ℕ). c.loop-k.pairs.items ++ member (c.args.point + k) q) c.plus.ensures
    ∙ ap (λ xs. xs ++ member (c.args.point + k)
    (big_endian (length c.args.code) (value_of c.args.code + k))) c.loop-k.invariant
    ∙ append_assoc old (members c.args.point c.args.code k)
    (member (c.args.point + k) (big_endian (length c.args.code) (value_of c.args.code + k)))
    ∙ ap (λ xs. old ++ xs) (sym more)
