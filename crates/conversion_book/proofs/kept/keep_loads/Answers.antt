use Rattle.std.proofs.Common.{◌≡◌, ◌∷◌, ◌<◌, ◌+◌, Option, Some, length, map, sym, ◌∙◌, subst, arith}
use Rattle.std.specs.Option.{option_to_list}
use Rattle.std.specs.Vec.Iter.{into_iter_items, into_iter_len}
use Rattle.code_pairs.specs.Tables.{Tables}
use Rattle.conversion_book.specs.Descriptors.{kept_as}
use Rattle.conversion_book.proofs.Loading.{next_is, put_is, load_step}
use Rattle.conversion_book.proofs.kept.keep_loads.Goals as goal

pub loop-load-preserved : goal.loop-load-preserved
loop-load-preserved c =
    let given = into_iter_items c.into_iter-rest.result in let i = c.loop-load.load-index in let loads = c.args.loads.now in
    let inv = c.loop-load.invariant in
    let lt : i < length loads = omega arith in
    let some : 0 < into_iter_len c.loop-load.rest = (let k = inv.rest in omega arith) in
    let cs = next_is given i (into_iter_len c.loop-load.rest) (into_iter_len c.next.new.self)
    (λ x. (into_iter_items c.loop-load.rest ≡ x ∷ into_iter_items c.next.new.self) × (into_iter_len c.next.new.self + 1 ≡ into_iter_len c.loop-load.rest))
    c.next.result (into_iter_items c.loop-load.rest) (into_iter_items c.next.new.self) inv.left c.next.ensures.items c.next.ensures.cases some in
    let v = cs.0 in
    let len : into_iter_len c.next.new.self + 1 ≡ into_iter_len c.loop-load.rest =
    (let z : into_iter_len c.next.new.self + length (option_to_list (Some v)) ≡ into_iter_len c.loop-load.rest = subst (λ (o : Option Tables). into_iter_len c.next.new.self + length (option_to_list o) ≡ into_iter_len c.loop-load.rest) cs.1 c.next.ensures.len in z) in
    record {
      kept = load_step loads given i c.load-item.result v (map kept_as c.loop-load.kept.items) (map kept_as c.push_kept.new.kept.items) lt (sym c.load-item.is) (c.requires ∙ sym c.into_iter-rest.ensures.rest) cs.2 inv.kept
          (put_is c.next.result v c.load-item.result.«module» (map kept_as c.loop-load.kept.items) (map kept_as c.push_kept.new.kept.items) cs.1 c.in_ok-push_kept.ensures);
      left = cs.3;
      rest = (let k = inv.rest in omega arith);
    }
