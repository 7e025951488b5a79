use Rattle.std.proofs.Common.{◌≡◌, ℕ, List, ◌+◌, ◌-◌, ◌%◌, ◌^◌, length, sym, ap, ◌∙◌, arith, eqb-true, w16}
use Rattle.std.proofs.lemmas.Simd.{length-zip2}
use lib.Lanes.{zip2}
use Rattle.wide_lanes.proofs.ReadLemmas.{none_differ, follow_on}
use Rattle.wide_lanes.proofs.read.follow.Goals as goal

pub returns : goal.returns
returns c = λ yes.
    let ends = c.args.ends in
    let sub = zip2 (λ a b. (a + (2 ^ 16 - b)) % 2 ^ 16) ends c.starts_of.result in
    let long : length sub ≡ 8 = length-zip2 (λ a b. (a + (2 ^ 16 - b)) % 2 ^ 16) ends c.starts_of.result (c.fits-ends.0 ∙ sym c.starts_of.ensures.long) ∙ c.fits-ends.0 in
    let same : sub ≡ c.counts.result = none_differ w16 8 (omega arith) sub c.counts.result long c.counts.ensures.long (eqb-true _ 0 yes) in
    follow_on 0 ends c.args.points (omega arith) c.requires.ends c.requires.points
    (ap (λ (z : List ℕ). zip2 (λ a b. (a + (2 ^ 16 - b)) % 2 ^ 16) ends z) (sym c.starts_of.ensures.value) ∙ same ∙ c.counts.ensures.value)
