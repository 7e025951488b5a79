use Rattle.std.proofs.Common.{◌≡◌, ◌&&◌, ◌∙◌, ◌<◌, eqb, length, rules, sym, ap, get_or, Some, None, arith}
use Rattle.std.specs.List.{list_any}
use Rattle.module_counts.specs.Lives.{Living}
use Rattle.module_counts.specs.declared.lives.Live.{Live}
use Rattle.module_counts.proofs.Slots.{any_slot, any_past, has_caller, read_here}
use Rattle.module_counts.proofs.lives.Lives.has.Goals as goal

pub returns-then-place-len : goal.returns-then-place-len
returns-then-place-len c =
    let ss = c.self.inside.slots.items in let n = c.args.number in let k = c.args.caller in
    sym (ap (λ (z : Living). list_any (λ (x : Live). eqb x.number n && eqb x.caller k) z.items) (sym c.self.view_is)
    ∙ any_past ss n k c.self.invariant.numbered (let l = c.len.ensures in let h = c.if-place-len.true in omega arith))

pub returns-in-Some : goal.returns-in-Some
returns-in-Some c =
    let ss = c.self.inside.slots.items in let n = c.args.number in let k = c.args.caller in
    let lt : n < length ss = (let l = c.len.ensures in let h = c.if-place-len.false in omega arith) in
    let read : get_or ss n None ≡ Some c.in-Some.live = read_here ss n c.index.result.now (Some c.in-Some.live) lt (search rules) in
    sym (ap (λ (z : Living). list_any (λ (x : Live). eqb x.number n && eqb x.caller k) z.items) (sym c.self.view_is) ∙ (any_slot ss n k c.self.invariant.numbered ∙ ap (has_caller k) read))

pub returns-in-None : goal.returns-in-None
returns-in-None c =
    let ss = c.self.inside.slots.items in let n = c.args.number in let k = c.args.caller in
    let lt : n < length ss = (let l = c.len.ensures in let h = c.if-place-len.false in omega arith) in
    let read : get_or ss n None ≡ None = read_here ss n c.index.result.now None lt (search rules) in
    sym (ap (λ (z : Living). list_any (λ (x : Live). eqb x.number n && eqb x.caller k) z.items) (sym c.self.view_is) ∙ (any_slot ss n k c.self.invariant.numbered ∙ ap (has_caller k) read))
