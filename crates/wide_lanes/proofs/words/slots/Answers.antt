use Rattle.std.proofs.Common.{◌∙◌, ap, map}
use Rattle.wide_lanes.specs.Wide.{low_first}
use Rattle.wide_lanes.specs.Words.{turns, front, front_two, front_three, last_byte}
use Rattle.wide_lanes.proofs.LaneLemmas.{itself, turn_maps}
use Rattle.wide_lanes.proofs.words.slots.Goals as goal

pub returns-clause-value : goal.returns-clause-value
returns-clause-value c =
    let v = c.args.points in
    c.bytes_of.ensures.value
    ∙ ap low_first c.in_turns.ensures
    ∙ ap (λ z. low_first (turns z c.lasts.result)) (c.choose-fronts.ensures (λ x. x) front_two front_three (itself v) c.twos.ensures c.threes.ensures)
    ∙ ap (λ z. low_first (turns (map front v) z)) c.lasts.ensures
    ∙ turn_maps front last_byte v
