-- What the bookkeeping keeps from one entry to the next.
use Rattle.std.proofs.Common.{◌≡◌, ℕ, ◌+◌, ◌-◌, ◌≤◌, min, List, [], ◌∷◌, ◌++◌, length, get_or, vec_capacity, sym, ap, ◌∙◌, subst, arith, Option, Some, None}
use Rattle.module_graph.specs.Graph.{Shape}
use Rattle.runtime_histories.specs.declared.refusals.Asked.{Asked}
use Rattle.runtime_histories.specs.declared.refusals.Asked.TheVariants.{Good, Bad}
use Rattle.runtime_histories.specs.declared.entries.Reply.{Reply}
use Rattle.runtime_histories.specs.declared.entries.Reply.TheVariants.{Opened, Refused}
use Rattle.runtime_histories.specs.declared.entries.Event.{Event}
use Rattle.runtime_histories.specs.declared.entries.Event.TheVariants.{Opening, Closing}
use Rattle.runtime_histories.specs.declared.entries.Entry.{Entry}
use Rattle.module_counts.specs.declared.stock.Stock.{Stock}
use Rattle.runtime_histories.specs.Deeds.{Deeds}
use Rattle.module_counts.specs.Tracking.{IsTracking}
use Rattle.runtime_histories.specs.Entries.{deeds}
use Rattle.chain_search.specs.declared.chain.Chain.{Chain}
use Rattle.module_counts.specs.Stocks.{kept_among, lists, IsHomes}
use Rattle.runtime_histories.specs.Settings.{Setting, Leads, modules_of}
use Rattle.runtime_histories.specs.Legal.{IsAnswered, Next, absent_among}
use Rattle.module_counts.specs.Admitting.{Success, success_of, success_by, CanTake, places_of, IsStepped, AreStepped}
use Rattle.module_counts.specs.Counting.{Booked, Follows, IsKnown, IsStock}
use Rattle.runtime_histories.proofs.Legality.{sound_first}

-- Nothing was opened.
pub stock_first : (g : Shape) (s : Stock) → IsTracking s.ages [] → s.ages.clock ≡ 0 → ((m : ℕ) → get_or s.ages.held.items m 0 ≡ 0) → s.live.items ≡ [] → s.live.slots ≡ 0 → s.homes.order.items ≡ [] → IsHomes (length s.ages.held.items) s.homes
    → IsKnown g (length s.ages.held.items) → length s.ages.held.items ≤ vec_capacity s.homes.order → IsStock g s []
stock_first g s tracking clock none live_is slots_is placed homes known room = record {
  tracking = tracking;
  within = record { clock = omega arith; held = λ m. let z = none m in omega arith };
  live_is = live_is;
  slots_is = slots_is;
  placed_is = ap (λ (z : List ℕ). kept_among s.ages (lists s.homes.rows.items) z) placed;
  homes = homes;
  sound = sound_first g;
  tidy = record { known = tt; once = tt; fits = tt; within = omega arith };
  known = known;
  fresh = tt;
  room = room;
}

answered : (s : Setting) (log : Deeds) (from to : Asked) (reply : Reply) (ps : List (List ℕ)) → IsAnswered s s.first.graph log from to reply → ps ≡ places_of s.pages log (success_by 0 from to reply) → CanTake s.first.graph s.pages log (success_by 0 from to reply) ps
answered s log (Bad f) (Bad g) reply ps h e = tt
answered s log (Bad f) (Good to) reply ps h e = tt
answered s log (Good from) (Bad f) reply ps h e = tt
answered s log (Good from) (Good to) (Refused why) ps h e = tt
answered s log (Good from) (Good to) (Opened chain cost loads modules) ps h e = let o = h.2 in record {
  leads = subst (λ (c : Chain). Leads s.first.graph from to c) (sym o.chain_is) o.route.leads;
  steps = o.modules_is ∙ (o.route.steps ∙ ap (λ (c : Chain). modules_of s.first.graph.edges c.ordinals) (sym o.chain_is));
  absent = o.absent_is ∙ (o.route.missing ∙ ap (absent_among log) (sym o.modules_is));
  room = o.room;
  places = e;
}

can_event : (s : Setting) (b : List Entry) (c : ℕ) (v : Event) (ps : List (List ℕ)) → Next s b (record { caller = c; event = v }) → ps ≡ places_of s.pages (deeds b) (success_of v) → CanTake s.first.graph s.pages (deeds b) (success_of v) ps
can_event s b c (Opening from to reply) ps h e = answered s (deeds b) from to reply ps h e
can_event s b c (Closing n) ps h e = tt

-- What is legal next can be taken.
pub can_take : (c : Booked) (e : Entry) (ps : List (List ℕ)) → Follows c e ps → CanTake c.graph c.pages (deeds c.journal) (success_of e.event) ps
can_take c e ps f =
    subst (λ (g : Shape). CanTake g c.pages (deeds c.journal) (success_of e.event) ps) f.of.graph_is
    (subst (λ (n : ℕ). CanTake f.setting.first.graph n (deeds c.journal) (success_of e.event) ps) f.of.pages_is
    (can_event f.setting c.journal e.caller e.event ps f.next (f.placed ∙ ap (λ (n : ℕ). places_of n (deeds c.journal) (success_of e.event)) (sym f.of.pages_is))))

stepped : (g : Shape) (pages : ℕ) (log : Deeds) (o : Option Success) (ps : List (List ℕ)) → CanTake g pages log o ps → IsStepped g o
stepped g pages log None ps h = tt
stepped g pages log (Some s) ps h = h.steps

steps_more : (g : Shape) (b : List Entry) (e : Entry) → AreStepped g b → IsStepped g (success_of e.event) → AreStepped g (b ++ e ∷ [])
steps_more g [] e h k = (k, tt)
steps_more g (x ∷ b) e h k = (h.0, steps_more g b e h.1 k)

-- The modules of all openings, and of one more that can be taken.
pub steps_taken : (g : Shape) (pages : ℕ) (b : List Entry) (e : Entry) (ps : List (List ℕ)) → AreStepped g b → CanTake g pages (deeds b) (success_of e.event) ps → AreStepped g (b ++ e ∷ [])
steps_taken g pages b e ps h can = steps_more g b e h (stepped g pages (deeds b) (success_of e.event) ps can)

pub steps_closed : (g : Shape) (b : List Entry) (c n : ℕ) → AreStepped g b → AreStepped g (b ++ record { caller = c; event = Closing n } ∷ [])
steps_closed g b c n h = steps_more g b (record { caller = c; event = Closing n }) h tt

-- One entry more takes one from the room.
pub spare_less : (limit len cap left some cap' left' some' : ℕ) → cap ≤ cap' → left ≤ left' + 1 → some ≤ some' + 1
    → min (min (limit - len) (cap - len)) (min left some) ≤ min (min (limit - (len + 1)) (cap' - (len + 1))) (min left' some') + 1
spare_less limit len cap left some cap' left' some' a b c = omega arith

pub spare_within : (limit len cap left some : ℕ) → len ≤ limit → len + min (min (limit - len) (cap - len)) (min left some) ≤ limit
spare_within limit len cap left some h = omega arith
