use Rattle.std.proofs.Common.{◌||◌, bit_or}
use Rattle.wide_lanes.specs.Ends.{is_in}
use Rattle.wide_lanes.proofs.WindowLemmas.{zip_flags, or_flag, in_field}
use Rattle.wide_lanes.proofs.ends.go_on.Goals as goal

pub returns : goal.returns
returns c = λ ws here are.
    zip_flags bit_or (λ s t. s || t) or_flag (λ w. is_in 0xC2 0x2E w.one) (λ w. is_in 0xE0 0x10 w.two) ws c.within.result c.within-2.result
    (in_field 0xC2 0x2E (λ w. w.one) ws _ _ are.one c.within.ensures) (in_field 0xE0 0x10 (λ w. w.two) ws _ _ are.two c.within-2.ensures)
