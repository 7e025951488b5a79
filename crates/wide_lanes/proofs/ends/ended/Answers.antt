use Rattle.std.proofs.Common.{◌||◌, bit_or}
use Rattle.wide_lanes.specs.Ends.{is_in}
use Rattle.wide_lanes.proofs.WindowLemmas.{zip_flags, or_flag, in_field}
use Rattle.wide_lanes.proofs.ends.ended.Goals as goal

pub returns : goal.returns
returns c = λ ws are.
    zip_flags bit_or (λ s t. s || t) or_flag (λ w. is_in 0 0x80 w.here) (λ w. is_in 0xC2 0x1E w.one || is_in 0xE0 0x10 w.two) ws c.within.result _
    (in_field 0 0x80 (λ w. w.here) ws _ _ are.here c.within.ensures)
    (zip_flags bit_or (λ s t. s || t) or_flag (λ w. is_in 0xC2 0x1E w.one) (λ w. is_in 0xE0 0x10 w.two) ws c.within-2.result c.within-3.result
    (in_field 0xC2 0x1E (λ w. w.one) ws _ _ are.one c.within-2.ensures) (in_field 0xE0 0x10 (λ w. w.two) ws _ _ are.two c.within-3.ensures))
