use Rattle.std.proofs.Common.{◌+◌, ◌*◌, ◌^◌, ◌<◌, ◌++◌, ◌∙◌, ℕ, List, ap, sym, subst, length}
use Rattle.trie.specs.Fronts.{AreShort, AreLong}
use Rattle.trie.specs.Runs.{Run, heads, all_of}
use Rattle.trie.specs.Stages.{IsStage, NoneGoesOn}
use Rattle.trie.specs.Trie.{trie, IsTrieAt}
use Rattle.trie.proofs.Images.{words_are, trie_stands}
use Rattle.trie.proofs.Overlapping.{apart_is}
use Rattle.trie.proofs.RunLaws.{heads_front, heads_short, heads_long, same_fronts, same_stage}
use Rattle.trie.proofs.trie.with_trie.Goals as goal

pub overlap-requires-clause-stage : goal.overlap-requires-clause-stage
overlap-requires-clause-stage g c =
    let runs : List Run = c.args.runs.now in
    let all = c.requires.runs in
    subst (λ ws. IsStage (g.L.Leaves.leaves c.args.leaves.now) c.args.first 4 ws) (sym c.as_slice.ensures.value)
    (subst (λ ls. IsStage ls c.args.first 4 c.push_levels.new.words.items) all
    (same_stage (heads runs) (all_of runs) c.args.first 4 c.push_levels.new.words.items (heads_front runs)
    c.in_ok-push_levels.ensures.stage))

pub overlap-requires-clause-short : goal.overlap-requires-clause-short
overlap-requires-clause-short g c =
    let runs : List Run = c.args.runs.now in
    let all = c.requires.runs in
    subst (AreShort 4) all (heads_short 4 runs c.lengths_of-lengths.ensures.few)

pub overlap-requires-clause-longest : goal.overlap-requires-clause-longest
overlap-requires-clause-longest g c =
    let runs : List Run = c.args.runs.now in
    let all = c.requires.runs in
    subst (AreShort c.lengths_of-lengths.result.longest) all
    (heads_short c.lengths_of-lengths.result.longest runs c.lengths_of-lengths.ensures.short)

pub overlap-requires-clause-shortest : goal.overlap-requires-clause-shortest
overlap-requires-clause-shortest g c =
    let runs : List Run = c.args.runs.now in
    let all = c.requires.runs in
    subst (AreLong c.lengths_of-lengths.result.shortest) all
    (heads_long c.lengths_of-lengths.result.shortest runs c.lengths_of-lengths.ensures.long)

pub fill-requires-clause-stage : goal.fill-requires-clause-stage
fill-requires-clause-stage g c =
    let runs : List Run = c.args.runs.now in
    same_stage (heads runs) (all_of runs) c.args.first 4 c.push_levels.new.words.items (heads_front runs)
    c.in_ok-push_levels.ensures.stage

pub fill-requires-clause-short : goal.fill-requires-clause-short
fill-requires-clause-short g c = heads_short 4 c.args.runs.now c.lengths_of-lengths.ensures.few

pub fill-requires-clause-apart : goal.fill-requires-clause-apart
fill-requires-clause-apart g c =
    let runs : List Run = c.args.runs.now in
    let all = c.requires.runs in
    subst NoneGoesOn (sym all) (λ i d lt. c.in-None.ensures i d lt)

pub fill-requires-clause-size : goal.fill-requires-clause-size
fill-requires-clause-size g c =
    let runs : List Run = c.args.runs.now in
    c.in_ok-push_levels.ensures.size
    ∙ ap (λ (qs : List (List ℕ)). 256 * (c.args.first + length qs))
    (same_fronts (heads runs) (all_of runs) 4 (heads_front runs))

pub returns-in-None-clause-value : goal.returns-in-None-clause-value
returns-in-None-clause-value g c =
    let runs : List Run = c.args.runs.now in
    let all = c.requires.runs in
    words_are (all_of runs) c.args.first c.args.words.items c.push_levels.new.words.items
    c.fill.new.words.items c.requires.size c.in_ok-push_levels.ensures.same c.fill.ensures.same c.fill.ensures.holds
    (c.fill.ensures.size ∙ c.in_ok-push_levels.ensures.size
    ∙ ap (λ (qs : List (List ℕ)). 256 * (c.args.first + length qs))
    (same_fronts (heads runs) (all_of runs) 4 (heads_front runs)))
    ∙ ap (λ ls. c.args.words.items ++ trie ls c.args.first) all

pub returns-in-None-clause-stands : goal.returns-in-None-clause-stands
returns-in-None-clause-stands g c =
    let runs : List Run = c.args.runs.now in
    let all = c.requires.runs in
    let fronts_same = same_fronts (heads runs) (all_of runs) 4 (heads_front runs) in
    subst (λ ls. IsTrieAt ls c.args.first c.fill.new.words.items) all
    (trie_stands (all_of runs) c.args.first c.args.words.items c.fill.new.words.items
    (heads_short 4 runs c.lengths_of-lengths.ensures.few)
    (subst (λ (qs : List (List ℕ)). c.args.first + length qs < 2 ^ 32) fronts_same
    c.in_ok-push_levels.ensures.few)
    c.requires.size
    (words_are (all_of runs) c.args.first c.args.words.items c.push_levels.new.words.items
    c.fill.new.words.items c.requires.size c.in_ok-push_levels.ensures.same c.fill.ensures.same c.fill.ensures.holds
    (c.fill.ensures.size ∙ c.in_ok-push_levels.ensures.size
    ∙ ap (λ (qs : List (List ℕ)). 256 * (c.args.first + length qs)) fronts_same)))

pub returns-in-None-clause-apart : goal.returns-in-None-clause-apart
returns-in-None-clause-apart g c =
    apart_is (g.L.Leaves.leaves c.args.leaves.now) (λ i d lt. c.in-None.ensures i d lt)
