use Rattle.std.proofs.Common.{◌≡◌, ◌+◌, ◌-◌, ◌*◌, ◌++◌, ◌∙◌, ℕ, List, take, ap, sym, arith}
use Rattle.batch_jobs.specs.Limits.{made_points}
use Rattle.batch_jobs.specs.Generated.{next_seed, point_at, points, spelled, spelled_all}
use Rattle.batch_jobs.proofs.Ranges.{finished, points_none}
use Rattle.batch_jobs.proofs.MadeWords.{two_more}
use Rattle.batch_jobs.proofs.made_files.put_points.Goals as goal

pub pairs-preserved : goal.pairs-preserved
pairs-preserved c =
    let n : ℕ = c.args.number in
    let k : ℕ = c.args.charmap in
    let one : c.next_seed-one.result ≡ next_seed c.pairs.seed = c.next_seed-one.ensures.value in
    let two : c.second_seed-seed.result ≡ next_seed (next_seed c.pairs.seed) = c.second_seed-seed.ensures.value in
    let middle : List ℕ = take c.put_point-middle.result c.put_point-middle.new.bytes in
    let new : List ℕ = take c.put_point-at.result c.put_point-at.new.bytes in (
      two_more n k c.pairs.pair c.pairs.seed (spelled_all n k (points c.args.first made_points)) (take c.pairs.at c.pairs.bytes) middle new
          (omega (arith, c.pairs-test.true)) c.pairs.invariant.0
          (c.put_point-middle.ensures.front ∙ ap (λ s. take c.pairs.at c.pairs.bytes ++ spelled n k (point_at s)) one)
          (c.put_point-at.ensures.front ∙ ap (λ s. middle ++ spelled n k (point_at s)) two)
          ∙ ap (λ s. new ++ spelled_all n k (points s (made_points - 2 * (c.pairs.pair + 1)))) (sym two),
      c.second_seed-seed.ensures.range,
      omega (arith, c.put_point-middle.ensures.range, c.put_point-at.ensures.range, c.pairs.invariant.2),
      omega (arith, c.pairs.invariant.3),
    )

pub returns-clause-front : goal.returns-clause-front
returns-clause-front c = finished (spelled_all c.args.number c.args.charmap (points c.args.first made_points)) (take c.pairs.at c.pairs.bytes)
    (spelled_all c.args.number c.args.charmap (points c.pairs.seed (made_points - 2 * c.pairs.pair)))
    c.pairs.invariant.0 (ap (spelled_all c.args.number c.args.charmap) (points_none c.pairs.seed (2 * c.pairs.pair) made_points (omega (arith, c.pairs-test.false))))
