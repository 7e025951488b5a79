use Rattle.std.proofs.Common.{◌≡◌, ◌<◌, ◌++◌, ◌∷◌, [], Bool, List, ℕ, cond, length, map, sym, subst, ap, ◌∙◌, refl, arith}
use Rattle.std.proofs.lemmas.Grind.{common_steps}
use Rattle.std.proofs.lemmas.List.{length-map}
use Rattle.std.specs.List.{AllByRecursion, list_any}
use Rattle.std.specs.declared.vec.Vec.{Vec}
use Rattle.std.specs.declared.alloc.Global.{Global}
use Rattle.runtime_histories.specs.declared.loads.Load.{Load}
use Rattle.module_counts.specs.declared.lives.Live.{Live}
use Rattle.runtime_histories.specs.Deeds.{Pair, same_pair, uses, pair_live}
use Rattle.module_counts.specs.Tracking.{IsTracking}
use Rattle.runtime_histories.specs.Settings.{modules_of}
use Rattle.module_counts.specs.Stocks.{lists, Settles}
use Rattle.runtime_histories.specs.Entries.{deeds}
use Rattle.module_counts.specs.Lives.{pair_shown}
use Rattle.module_counts.proofs.Living.{any_live}
use Rattle.module_counts.proofs.Stocking.{open_room, open_places, open_known, stock_opens}
use Rattle.module_counts.proofs.stock.Stock.open.Goals as goal

pub settle-requires-clause-each : goal.settle-requires-clause-each
settle-requires-clause-each c =
    let can = c.requires.can in let v = can.0 in
    let a = open_places c.args.graph.now c.args.self.now.pages (deeds c.args.journal.now) v (lists c.args.places.items) can.2 in
    let b : length (lists c.args.places.items) ≡ length c.args.places.items = length-map c.args.places.items (λ (x : Vec ℕ Global). x.items) in
    let d : length v.loads ≡ length c.args.found.loads.now = ap length can.1.loads in
    grind (arith, common_steps)

pub settle-requires-clause-known : goal.settle-requires-clause-known
settle-requires-clause-known c =
    let can = c.requires.can in
    subst (AllByRecursion (λ (l : Load). l.«module» < length c.args.self.now.homes.rows.items)) can.1.loads
    (open_known c.args.graph.now c.args.self.now (deeds c.args.journal.now) can.0 (lists c.args.places.items) c.requires.stock can.2)

pub settle-requires-clause-room : goal.settle-requires-clause-room
settle-requires-clause-room c =
    let can = c.requires.can in let v = can.0 in
    let a = open_room c.args.graph.now c.args.self.now (deeds c.args.journal.now) v (lists c.args.places.items) c.requires.stock can.2 in
    let d : length v.loads ≡ length c.args.found.loads.now = ap length can.1.loads in
    grind (arith, common_steps)

pub returns-clause-stock : goal.returns-clause-stock
returns-clause-stock c = λ v is can.
    let g = c.args.graph.now in let s = c.args.self.now in let log = deeds c.args.journal.now in let h = c.requires.stock in
    let p : Pair = record { generation = 0; from = c.args.found.from.now; to = c.args.found.to.now } in
    let same : p ≡ v.pair = (λ i. record { generation = sym is.generation i; from = sym is.from i; to = sym is.to i }) in
    let live : c.has_pair-is_live.result ≡ pair_live log v.pair =
    c.has_pair-is_live.ensures ∙ (ap (list_any (λ (x : Live). same_pair (pair_shown x) p)) h.live_is ∙ (any_live log p ∙ ap (pair_live log) same)) in
    let ms : modules_of g.edges c.args.found.chain.now ≡ v.modules = ap (modules_of g.edges) (sym is.ordinals) ∙ sym can.steps in
    stock_opens g s _ log c.args.caller s.live.slots v (lists c.args.places.items) h can
    (λ ks t. subst (λ (b : Bool). IsTracking c.start_pair.new.ages (ks ++ cond b [] (map uses v.modules))) live
    (subst (λ (z : List ℕ). IsTracking c.start_pair.new.ages (ks ++ cond c.has_pair-is_live.result [] (map uses z))) ms (c.start_pair.ensures.tracks ks t)))
    c.start_pair.ensures.more c.start_pair.ensures.clock c.start_pair.ensures.stays
    h.slots_is
    (c.open.ensures.items ∙ (λ i. s.live.items ++ record { number = s.live.slots; caller = c.args.caller; generation = sym is.generation i; from = sym is.from i; to = sym is.to i } ∷ []))
    c.open.ensures.slots
    (subst (λ (z : List Load). Settles s.ages s.homes c.settle.new.self (map (λ (l : Load). l.«module») z) (lists c.args.places.items)) (sym is.loads) c.settle.ensures.settles)
    refl
