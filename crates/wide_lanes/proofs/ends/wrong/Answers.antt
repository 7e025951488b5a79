use Rattle.std.proofs.Common.{◌||◌, ◌&&◌, bit_and, bit_or, bit_xor}
use Rattle.wide_lanes.specs.Ends.{is_in, goes_on, either}
use Rattle.wide_lanes.proofs.WindowLemmas.{zip_flags, or_flag, and_flag, either_flag, in_field}
use Rattle.wide_lanes.proofs.ends.wrong.Goals as goal

pub returns : goal.returns
returns c = λ ws are.
    let tail = in_field 0x80 0x40 (λ w. w.here) ws _ _ are.here c.within.ensures in
    let none = in_field 0xC0 2 (λ w. w.here) ws _ _ are.here c.within-2.ensures in
    let four = in_field 0xF0 0x10 (λ w. w.here) ws _ _ are.here c.within-3.ensures in
    let least = in_field 0xE0 1 (λ w. w.one) ws _ _ are.one c.within-4.ensures in
    let low = in_field 0 0xA0 (λ w. w.here) ws _ _ are.here c.within-5.ensures in
    let last = in_field 0xED 1 (λ w. w.one) ws _ _ are.one c.within-6.ensures in
    let high = in_field 0xA0 0x60 (λ w. w.here) ws _ _ are.here c.within-7.ensures in
    zip_flags bit_or (λ s t. s || t) or_flag _ _ ws _ _
    (zip_flags bit_xor either either_flag (λ w. is_in 0x80 0x40 w.here) goes_on ws _ _ tail (c.go_on.ensures ws c.args.here are))
    (zip_flags bit_or (λ s t. s || t) or_flag (λ w. is_in 0xC0 2 w.here) _ ws _ _ none
    (zip_flags bit_or (λ s t. s || t) or_flag (λ w. is_in 0xF0 0x10 w.here) _ ws _ _ four
    (zip_flags bit_or (λ s t. s || t) or_flag (λ w. is_in 0xE0 1 w.one && is_in 0 0xA0 w.here) (λ w. is_in 0xED 1 w.one && is_in 0xA0 0x60 w.here) ws _ _
    (zip_flags bit_and (λ s t. s && t) and_flag (λ w. is_in 0xE0 1 w.one) (λ w. is_in 0 0xA0 w.here) ws _ _ least low)
    (zip_flags bit_and (λ s t. s && t) and_flag (λ w. is_in 0xED 1 w.one) (λ w. is_in 0xA0 0x60 w.here) ws _ _ last high))))
