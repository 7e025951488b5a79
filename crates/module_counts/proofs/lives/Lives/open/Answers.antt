use Rattle.std.proofs.Common.{◌≡◌, ◌++◌, ◌∷◌, [], ◌∙◌, ◌+◌, ◌<◌, ◌^◌, ℕ, List, Option, Some, length, sym, refl, ap, subst, arith}
use Rattle.module_counts.specs.Lives.{Living, counts_of, AreLives, pair_of, somes}
use Rattle.module_counts.specs.declared.lives.Live.{Live}
use Rattle.module_counts.proofs.Slots.{count_least, somes_least, somes-append, lives_open}
use Rattle.module_counts.proofs.lives.Lives.open.Goals as goal

few : (ss : List (Option Live)) (z : Living) (n : ℕ) → length ss ≡ n → n ≡ z.slots → z.slots < 2 ^ 32 → length (somes ss) < 2 ^ 32
few ss z n e f lt = let l = somes_least ss in omega arith

pub add_one-requires-clause-small : goal.add_one-requires-clause-small
add_one-requires-clause-small c =
    let ss = c.self.inside.slots.items in let key = c.key_of.result in
    let a = c.self.invariant.counted key in let b = count_least key (somes ss) in
    let d = few ss c.args.self.now (length ss) refl (ap (λ (z : Living). z.slots) c.self.view_is) c.requires.few in omega arith

pub overflow_add-self : goal.overflow_add-self
overflow_add-self c =
    let ss = c.self.inside.slots.items in
    let e = c.self.invariant.count_is in
    let d = few ss c.args.self.now (length ss) refl (ap (λ (z : Living). z.slots) c.self.view_is) c.requires.few in omega arith

pub invariant_of-self : goal.invariant_of-self
invariant_of-self c =
    let ss = c.self.inside.slots.items in
    let x : Live = record { number = c.len-number.result; caller = c.args.caller; generation = 0; from = c.copied.result; to = c.copied-2.result } in
    subst (λ (z : List (Option Live)). AreLives z (counts_of c.add_one.new.pairs) (c.self.inside.count + 1)) (sym c.push_within.ensures.items)
    (lives_open ss (counts_of c.self.inside.pairs) (counts_of c.add_one.new.pairs) c.self.inside.count x c.key_of.result c.self.invariant
    (let l = c.len-number.ensures in omega arith)
    ((λ i. record { generation = 0; from = c.copied.ensures i; to = c.copied-2.ensures i }) ∙ ap pair_of (sym c.key_of.ensures))
    c.add_one.ensures.counts)

pub returns-clause-items : goal.returns-clause-items
returns-clause-items c =
    let ss = c.self.inside.slots.items in
    let x : Live = record { number = c.len-number.result; caller = c.args.caller; generation = 0; from = c.copied.result; to = c.copied-2.result } in
    let number : c.len-number.result ≡ length ss = (let l = c.len-number.ensures in omega arith) in
    ap somes c.push_within.ensures.items ∙ (somes-append ss (Some x ∷ [])
    ∙ (λ i. (ap (λ (z : Living). z.items) c.self.view_is) i
    ++ record { number = (number ∙ ap (λ (z : Living). z.slots) c.self.view_is) i; caller = c.args.caller; generation = 0; from = c.copied.ensures i; to = c.copied-2.ensures i } ∷ []))
