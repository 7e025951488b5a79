use Rattle.std.proofs.Common.{◌≡◌, ℕ, ◌+◌, ◌-◌, ◌%◌, ◌^◌, ◌<◌, length, sym, ap, ◌∙◌, arith}
use Rattle.std.proofs.lemmas.List.{length-map}
use Rattle.std.proofs.lemmas.Simd.{zip2_of_maps, splat_is_map, Each2-splat, Each1-all}
use Rattle.wide_lanes.specs.Ends.{Window, low_part, middle_part, high_part}
use Rattle.wide_lanes.proofs.LaneLemmas.{add16, mul16}
use Rattle.wide_lanes.proofs.WindowLemmas.{op_windows}
use Rattle.wide_lanes.proofs.ends.points.Goals as goal

sub8 : ℕ → ℕ → ℕ
sub8 a b = (a + (2 ^ 8 - b)) % 2 ^ 8

pub returns : goal.returns
unfolding sub8
returns c = λ ws are.
    let long : length ws ≡ 16 = sym (length-map ws (λ (w : Window). w.here)) ∙ sym (ap length are.here) ∙ c.fits-here.0 in
    let cut = c.values_at.ensures ws (λ w. w.here) (λ w. 0x80) are.here (splat_is_map ws 16 0x80 long) in
    let low = c.numbers.ensures ∙ zip2_of_maps sub8 (λ (w : Window). w.here) _ ws are.here cut in
    let middle = c.numbers-2.ensures ∙ c.values_at-middle.ensures ws (λ w. w.here) (λ w. w.one % 64) are.here (op_windows (λ a b. a % b) (λ w. w.one) ws 64 _ long are.one) in
    let high = c.numbers-3.ensures ∙ c.values_at-high.ensures ws (λ w. w.two) (λ w. w.two % 16) are.two (op_windows (λ a b. a % b) (λ w. w.two) ws 16 _ long are.two) in
    zip2_of_maps add16 (λ (w : Window). add16 (low_part w) (mul16 (middle_part w) 64)) (λ (w : Window). mul16 (high_part w) 4096) ws
    (zip2_of_maps add16 low_part (λ (w : Window). mul16 (middle_part w) 64) ws low (op_windows mul16 middle_part ws 64 _ long middle))
    (op_windows mul16 high_part ws 4096 _ long high)

pub nonzero_rem-one : goal.nonzero_rem-one
nonzero_rem-one c = Each2-splat (λ a b. 0 < b) c.args.one 16 64 (Each1-all (λ a. 0 < 64) (λ a. omega arith) c.args.one)

pub nonzero_rem-two : goal.nonzero_rem-two
nonzero_rem-two c = Each2-splat (λ a b. 0 < b) c.args.two 16 16 (Each1-all (λ a. 0 < 16) (λ a. omega arith) c.args.two)
