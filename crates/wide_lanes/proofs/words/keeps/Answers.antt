use Rattle.std.proofs.Common.{◌∙◌, ap, map}
use Rattle.wide_lanes.specs.Wide.{low_first}
use Rattle.wide_lanes.specs.Words.{turns, front_keep, last_keep}
use Rattle.wide_lanes.proofs.LaneLemmas.{constant_map, turn_maps}
use Rattle.wide_lanes.proofs.words.keeps.Goals as goal

pub returns-clause-value : goal.returns-clause-value
returns-clause-value c =
    let v = c.args.points in
    let all = constant_map 0xFFFF 8 v c.fits-points.0 in
    let one = constant_map 0xFF 8 v c.fits-points.0 in
    let none = constant_map 0 8 v c.fits-points.0 in
    c.bytes_of.ensures.value
    ∙ ap low_first c.in_turns.ensures
    ∙ ap (λ z. low_first (turns z c.choose.result)) (c.choose-fronts.ensures (λ _. 0xFF) (λ _. 0xFFFF) (λ _. 0xFFFF) one all all)
    ∙ ap (λ z. low_first (turns (map front_keep v) z)) (c.choose.ensures (λ _. 0) (λ _. 0) (λ _. 0xFF) none none one)
    ∙ turn_maps front_keep last_keep v
