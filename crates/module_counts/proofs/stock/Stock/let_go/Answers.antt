use Rattle.std.proofs.Common.{◌≡◌, ◌<◌, ◌+◌, ◌++◌, ◌∷◌, [], Bool, not, eqb, Option, Some, List, ℕ, cond, length, get_or, map, sym, ap, ◌∙◌, subst, refl, arith}
use Rattle.std.specs.List.{list_any, filter}
use Rattle.runtime_histories.specs.declared.entries.Entry.{Entry}
use Rattle.module_counts.specs.declared.lives.Live.{Live}
use Rattle.runtime_histories.specs.Deeds.{same_pair, releases, act, closes, live, pair_live, Deeds, IsLive}
use Rattle.runtime_histories.specs.Entries.{deeds}
use Rattle.runtime_histories.specs.Settings.{modules_of}
use Rattle.module_counts.specs.Tracking.{IsTracking}
use Rattle.module_counts.specs.Admitting.{Success, success_of}
use Rattle.module_counts.specs.Lives.{Living, pair_shown}
use Rattle.module_counts.specs.Counting.{shown}
use Rattle.runtime_histories.proofs.Basics.{number_range}
use Rattle.runtime_histories.proofs.Legality.{length-deeds}
use Rattle.module_counts.proofs.Living.{any_live, live_is_closes}
use Rattle.module_counts.proofs.Stocking.{in_modules, stock_closes}
use Rattle.module_counts.proofs.Entering.{entry_of, close_enough, one_less}
use Rattle.module_counts.proofs.stock.Stock.let_go.Goals as goal

place_in : (js : List Entry) (c n : ℕ) → IsLive (deeds js) c n → n < length js
place_in js c n h = let r = number_range h.desc 0 (deeds js) h.there in let b = r.1 in let k = h.number_is in let l = length-deeds js in omega arith

some_same : (o : Option Success) (v w : Success) → o ≡ Some v → o ≡ Some w → w ≡ v
some_same o v w e f = let g : Some w ≡ Some v = sym f ∙ e in unwrap g
  where
    value : Option Success → Success
    value (Some x) = x
    value _ = v

    unwrap : Some w ≡ Some v → w ≡ v
    unwrap g = ap value g

pub bounds-journal-number : goal.bounds-journal-number
bounds-journal-number c = place_in c.args.journal.now c.args.caller c.args.number c.requires.live

pub offset_bounds-journal-number : goal.offset_bounds-journal-number
offset_bounds-journal-number c = let h = place_in c.args.journal.now c.args.caller c.args.number c.requires.live in let f = c.requires.few in omega arith

pub stop-requires-clause-enough : goal.stop-requires-clause-enough
stop-requires-clause-enough c = λ v e dead m.
    let js = c.args.journal.now in let g = c.args.graph.now in let k = c.requires.live in
    let en = entry_of g k.desc js 0 c.args.number c.index-journal-number.result c.requires.steps k.there (let n = k.number_is in omega arith) in
    let same = some_same (success_of (get_or js c.args.number c.index-journal-number.result).event) en.value v en.is e in
    let is : modules_of g.edges v.ordinals ≡ k.desc.modules = ap (λ (z : Success). modules_of g.edges z.ordinals) same ∙ en.modules_is in
    close_enough g c.args.self.now (deeds js) c.args.caller c.args.number c.requires.stock k (modules_of g.edges v.ordinals) is
    (λ x z. in_modules g.edges (length c.args.self.now.ages.held.items) c.requires.stock.known v.ordinals x z) m

pub returns-clause-stock : goal.returns-clause-stock
returns-clause-stock c =
    let js = c.args.journal.now in let g = c.args.graph.now in let k = c.requires.live in let s = c.args.self.now in let log = deeds js in let n = c.args.number in
    let log' : Deeds = log ++ act c.args.caller (closes n) ∷ [] in
    let en = entry_of g k.desc js 0 n c.index-journal-number.result c.requires.steps k.there (let q = k.number_is in omega arith) in
    let h = c.requires.stock in
    let lv : c.close.new.self.items ≡ map shown (live log') = c.close.ensures.items ∙ (ap (filter (λ (x : Live). not (eqb x.number n))) h.live_is ∙ sym (live_is_closes log c.args.caller n)) in
    let now : list_any (λ (x : Live). same_pair (pair_shown x) en.value.pair) c.close.new.self.items ≡ pair_live log' k.desc.pair =
    ap (list_any (λ (x : Live). same_pair (pair_shown x) en.value.pair)) lv ∙ (any_live log' en.value.pair ∙ ap (pair_live log') en.pair_is) in
    let rest = c.stop.ensures.rest in
    stock_closes g s _ log c.args.caller n k.desc h k refl
    (λ ms t. subst (λ (b : Bool). IsTracking c.stop.new.self.ages (ms ++ cond b [] (map releases k.desc.modules))) now
    (subst (λ (z : List ℕ). IsTracking c.stop.new.self.ages (ms ++ cond (list_any (λ (x : Live). same_pair (pair_shown x) en.value.pair) c.close.new.self.items) [] (map releases z))) en.modules_is
    (c.stop.ensures.tracks en.value en.is ms t)))
    c.stop.ensures.less c.stop.ensures.clock c.stop.ensures.stays
    (c.skip.ensures.items ∙ (ap (λ (z : Living). z.items) rest.0 ∙ c.close.ensures.items))
    (c.skip.ensures.slots ∙ (ap (λ (z : Living). z.slots + 1) rest.0 ∙ ap (λ (n : ℕ). n + 1) c.close.ensures.slots))
    rest.1 rest.2

pub returns-clause-len : goal.returns-clause-len
returns-clause-len c =
    let h = c.requires.stock in let n = c.args.number in let log = deeds c.args.journal.now in
    let a = one_less log c.args.caller n c.requires.live in
    let b : length c.close.new.self.items ≡ length (filter (λ (x : Live). not (eqb x.number n)) (map shown (live log))) = ap length (c.close.ensures.items ∙ ap (filter (λ (x : Live). not (eqb x.number n))) h.live_is) in
    let d : length c.args.self.now.live.items ≡ length (map shown (live log)) = ap length h.live_is in
    let e : length c.skip.new.self.items ≡ length c.close.new.self.items = ap length (c.skip.ensures.items ∙ ap (λ (z : Living). z.items) c.stop.ensures.rest.0) in
    omega arith

pub skip-requires : goal.skip-requires
skip-requires c =
    let a : c.stop.new.self.live.left ≡ c.close.new.self.left = ap (λ (z : Living). z.left) c.stop.ensures.rest.0 in
    let b = c.close.ensures.room.0 in let d = c.requires.room in record { room = omega arith }

pub returns-clause-room : goal.returns-clause-room
returns-clause-room c =
    let a : c.stop.new.self.live.left ≡ c.close.new.self.left = ap (λ (z : Living). z.left) c.stop.ensures.rest.0 in
    let a2 : c.stop.new.self.live.fresh ≡ c.close.new.self.fresh = ap (λ (z : Living). z.fresh) c.stop.ensures.rest.0 in
    let b = c.close.ensures.room.0 in let d = c.close.ensures.room.1 in let e = c.skip.ensures.room.0 in let f = c.skip.ensures.room.1 in
    let g : length c.skip.new.self.items ≡ length c.close.new.self.items = ap length (c.skip.ensures.items ∙ ap (λ (z : Living). z.items) c.stop.ensures.rest.0) in
    let k = c.close.ensures.one in
    (omega arith, omega arith)
