use Rattle.std.proofs.Common.{◌≡◌, ◌∙◌, ◌-◌, ◌<◌, not, eqb, List, Option, Some, None, length, get_or, set, rules, sym, refl, ap, subst, arith}
use Rattle.std.proofs.lemmas.List.{set-get_or}
use Rattle.std.specs.List.{filter}
use Rattle.module_counts.specs.Lives.{Living, counts_of, AreLives, somes}
use Rattle.module_counts.specs.declared.lives.Live.{Live}
use Rattle.module_counts.proofs.Slots.{read_here, somes-set, somes_past, lives_close, close_some, length-set_some}
use Rattle.module_counts.proofs.lives.Lives.close.Goals as goal

pub returns-then-place-len-clause-items : goal.returns-then-place-len-clause-items
returns-then-place-len-clause-items c =
    subst (λ (z : Living). z.items ≡ filter (λ (x : Live). not (eqb x.number c.args.number)) z.items) c.self.view_is
    (somes_past c.self.inside.slots.items c.args.number c.self.invariant.numbered (let l = c.len.ensures in let h = c.if-place-len.true in omega arith))

pub take_one-requires : goal.take_one-requires
take_one-requires c =
    let ss = c.self.inside.slots.items in
    let lt : c.args.number < length ss = (let l = c.len.ensures in let h = c.if-place-len.false in omega arith) in
    let read : get_or ss c.args.number None ≡ Some c.in-Some.live = read_here ss c.args.number c.index_mut.result.now (Some c.in-Some.live) lt (search rules) in
    record {
      some = (close_some ss (counts_of c.self.inside.pairs) c.self.inside.count c.args.number c.in-Some.live
          (record { generation = c.in-Some.live.generation; from = c.in-Some.live.from; to = c.in-Some.live.to }) c.self.invariant read refl).0;
    }

pub overflow_sub-self : goal.overflow_sub-self
overflow_sub-self c =
    let ss = c.self.inside.slots.items in
    let lt : c.args.number < length ss = (let l = c.len.ensures in let h = c.if-place-len.false in omega arith) in
    let read : get_or ss c.args.number None ≡ Some c.in-Some.live = read_here ss c.args.number c.index_mut.result.now (Some c.in-Some.live) lt (search rules) in
    (close_some ss (counts_of c.self.inside.pairs) c.self.inside.count c.args.number c.in-Some.live
    (record { generation = c.in-Some.live.generation; from = c.in-Some.live.from; to = c.in-Some.live.to }) c.self.invariant read refl).1

pub invariant_of-self : goal.invariant_of-self
invariant_of-self c =
    let ss = c.self.inside.slots.items in
    let lt : c.args.number < length ss = (let l = c.len.ensures in let h = c.if-place-len.false in omega arith) in
    let read : get_or ss c.args.number None ≡ Some c.in-Some.live = read_here ss c.args.number c.index_mut.result.now (Some c.in-Some.live) lt (search rules) in
    subst (λ (o : Option Live). AreLives (set ss c.args.number o) (counts_of c.take_one.new.pairs) (c.self.inside.count - 1)) (sym c.take.ensures.after)
    (lives_close ss (counts_of c.self.inside.pairs) (counts_of c.take_one.new.pairs) c.self.inside.count c.args.number c.in-Some.live
    (record { generation = c.in-Some.live.generation; from = c.in-Some.live.from; to = c.in-Some.live.to }) c.self.invariant read refl c.take_one.ensures.counts)

pub returns-in-Some-clause-items : goal.returns-in-Some-clause-items
returns-in-Some-clause-items c =
    let ss = c.self.inside.slots.items in
    ap (λ (o : Option Live). somes (set ss c.args.number o)) c.take.ensures.after
    ∙ (somes-set ss c.args.number c.self.invariant.numbered (let l = c.len.ensures in let h = c.if-place-len.false in omega arith)
    ∙ ap (λ (z : Living). filter (λ (x : Live). not (eqb x.number c.args.number)) z.items) c.self.view_is)

pub returns-in_default-clause-items : goal.returns-in_default-clause-items
returns-in_default-clause-items c =
    let ss = c.self.inside.slots.items in
    ap (λ (o : Option Live). somes (set ss c.args.number o)) c.take.ensures.after
    ∙ (somes-set ss c.args.number c.self.invariant.numbered (let l = c.len.ensures in let h = c.if-place-len.false in omega arith)
    ∙ ap (λ (z : Living). filter (λ (x : Live). not (eqb x.number c.args.number)) z.items) c.self.view_is)

pub returns-then-place-len-clause-one : goal.returns-then-place-len-clause-one
returns-then-place-len-clause-one c = omega arith

pub returns-in-Some-clause-one : goal.returns-in-Some-clause-one
returns-in-Some-clause-one c =
    let ss = c.self.inside.slots.items in
    let lt : c.args.number < length ss = (let l = c.len.ensures in let h = c.if-place-len.false in omega arith) in
    let read : get_or ss c.args.number None ≡ Some c.in-Some.live = read_here ss c.args.number c.index_mut.result.now (Some c.in-Some.live) lt (search rules) in
    let e : length c.args.self.now.items ≡ length (somes ss) = ap (λ (z : Living). length z.items) (sym c.self.view_is) in
    let l : length (somes (set ss c.args.number c.take.new.self)) ≡ length (somes (set ss c.args.number None)) = ap (λ (o : Option Live). length (somes (set ss c.args.number o))) c.take.ensures.after in
    let r = length-set_some ss c.args.number c.in-Some.live read in omega arith

pub returns-in_default-clause-one : goal.returns-in_default-clause-one
returns-in_default-clause-one c =
    let ss = c.self.inside.slots.items in
    let lt : c.args.number < length ss = (let l = c.len.ensures in let h = c.if-place-len.false in omega arith) in
    let read : get_or ss c.args.number None ≡ None = read_here ss c.args.number c.index_mut.result.now (None) lt (search rules) in
    let e : length c.args.self.now.items ≡ length (somes ss) = ap (λ (z : Living). length z.items) (sym c.self.view_is) in
    let l : length (somes (set ss c.args.number c.take.new.self)) ≡ length (somes ss) = ap (λ (o : Option Live). length (somes (set ss c.args.number o))) (c.take.ensures.after ∙ sym read) ∙ ap (λ (z : List (Option Live)). length (somes z)) (set-get_or ss c.args.number None) in
    omega arith
