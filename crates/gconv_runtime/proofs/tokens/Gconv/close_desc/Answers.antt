use Rattle.std.proofs.Common.{◌≡◌, ◌∙◌, ap, sym, subst, ℕ, ◌++◌, ◌∷◌, [], length, arith, append_assoc, ◌+◌, ◌-◌, ◌<◌}
use Rattle.history_core.specs.Tokens as hall
use Rattle.runtime_histories.specs.Deeds.{closed, IsLive}
use Rattle.runtime_histories.specs.Entries.{deeds}
use Rattle.runtime_histories.specs.Pins.{live_of}
use Rattle.runtime_room.specs.Published.{published}
use Rattle.runtime_room.specs.Rooms.{deeds_of}
use Rattle.gconv_runtime.specs.Entries.{IsClosing, ClosesOn}
use Rattle.gconv_runtime.specs.Tokens.{number, front, ground}
use Rattle.gconv_runtime.proofs.Dismissing.{still_live, live_later, live_is, closing_legal, closing_covered, closing_stands, closing_published, closed_after, count_after, pass_same, owns_kept}
use Rattle.gconv_runtime.proofs.Opened.{AtTurn, published_at, hears_at}
use Rattle.gconv_runtime.proofs.tokens.Gconv.close_desc.Goals as goal

pub enter_closing-entry-requires-clause-live : goal.enter_closing-entry-requires-clause-live
enter_closing-entry-requires-clause-live g c =
    let t = c.turn-turn.ensures.took in let o = c.requires.owns in
    let log = hall.front c.turn-turn.result.pass.now in
    let s = still_live _ (number c.args.caller.now) c.args.descriptor.number (front c.args.caller.now) log o.desc t.turn_of.legal t.grows o.live o.found in
    subst (λ (n : ℕ). IsLive (deeds c.value-2.result.now.counts.journal) n c.args.descriptor.number) (sym c.number-number.ensures.value)
    (subst (λ z. IsLive (deeds z) (number c.args.caller.now) c.args.descriptor.number) (sym (ap (λ d. d.counts.journal) (c.value-2.ensures.now ∙ c.value.ensures.now) ∙ t.stands.journal))
    (live_is (number c.args.caller.now) c.args.descriptor.number (deeds_of log) o.desc s.live s.found))

pub commit-requires-clause-stands : goal.commit-requires-clause-stands
commit-requires-clause-stands g c =
    let t = c.turn-turn.ensures.took in
    closing_stands _ c.turn-turn.result.value c.enter_closing-entry.new.desk (hall.front c.turn-turn.result.pass.now) (hall.number c.turn-turn.result.pass.now) c.args.descriptor.number c.enter_closing-entry.result t.stands
    (subst (λ d. ClosesOn d c.enter_closing-entry.new.desk c.enter_closing-entry.result) (c.value-2.ensures.now ∙ c.value.ensures.now) c.enter_closing-entry.ensures.desk)
    (subst (λ (n : ℕ). IsClosing n c.args.descriptor.number c.enter_closing-entry.result) (c.number-number.ensures.value ∙ sym t.number_is) c.enter_closing-entry.ensures.entry)

pub commit-requires-clause-legal : goal.commit-requires-clause-legal
commit-requires-clause-legal g c =
    let t = subst (λ h. hall.Took h c.args.caller.now.pass c.turn-turn.result) (sym c.turn-turn.ensures.same.1) c.turn-turn.ensures.took in let o = c.requires.owns in
    let log = hall.front c.turn-turn.result.pass.now in
    let n = hall.number c.turn-turn.result.pass.now in
    let s = still_live _ (number c.args.caller.now) c.args.descriptor.number (front c.args.caller.now) log o.desc t.turn_of.legal t.grows o.live o.found in
    closing_legal _ log n c.args.descriptor.number c.enter_closing-entry.result t.turn_of.legal
    (subst (λ (m : ℕ). IsLive (deeds_of log) m c.args.descriptor.number) (sym t.number_is) (live_is (number c.args.caller.now) c.args.descriptor.number (deeds_of log) o.desc s.live s.found))
    (subst (λ (n : ℕ). IsClosing n c.args.descriptor.number c.enter_closing-entry.result) (c.number-number.ensures.value ∙ sym t.number_is) c.enter_closing-entry.ensures.entry)

pub commit-requires-clause-covered : goal.commit-requires-clause-covered
commit-requires-clause-covered g c =
    let t = subst (λ h. hall.Took h c.args.caller.now.pass c.turn-turn.result) (sym c.turn-turn.ensures.same.1) c.turn-turn.ensures.took in let o = c.requires.owns in
    let log = hall.front c.turn-turn.result.pass.now in
    let n = hall.number c.turn-turn.result.pass.now in
    let s = still_live _ (number c.args.caller.now) c.args.descriptor.number (front c.args.caller.now) log o.desc t.turn_of.legal t.grows o.live o.found in
    closing_covered _ log n c.args.descriptor.number c.enter_closing-entry.result (hall.filled c.turn-turn.result.pass.now) t.turn_of.legal
    (subst (λ (m : ℕ). IsLive (deeds_of log) m c.args.descriptor.number) (sym t.number_is) (live_is (number c.args.caller.now) c.args.descriptor.number (deeds_of log) o.desc s.live s.found))
    (subst (λ (n : ℕ). IsClosing n c.args.descriptor.number c.enter_closing-entry.result) (c.number-number.ensures.value ∙ sym t.number_is) c.enter_closing-entry.ensures.entry)

pub returns-clause-knows : goal.returns-clause-knows
returns-clause-knows g c =
    let t = c.turn-turn.ensures.took in let o = c.requires.owns in let k = c.requires.knows in
    let n : ℕ = number c.args.caller.now in
    let e = c.enter_closing-entry.result in
    let log = hall.front c.turn-turn.result.pass.now in
    let s = still_live _ n c.args.descriptor.number (front c.args.caller.now) log o.desc t.turn_of.legal t.grows o.live o.found in
    let is = subst (λ (m : ℕ). IsClosing m c.args.descriptor.number e) c.number-number.ensures.value c.enter_closing-entry.ensures.entry in
    let before = live_later _ n (front c.args.caller.now) log t.turn_of.legal t.grows in
    let less : c.args.caller.now.live ≡ length (live_of n (deeds_of (log ++ (n, e) ∷ []))) + 1 = k.count ∙ (sym (ap length before) ∙ count_after log n c.args.descriptor.number o.desc e is s.live s.found) in
    let same = c.commit.ensures.number ∙ t.number_is in
    let ends = c.commit.ensures.front ∙ ap (λ (m : ℕ). log ++ (m, e) ∷ []) t.number_is in
    let gr = ground c.args.self.now c.args.caller.now in
    let a = c.turn-turn.result.value in
    let at : AtTurn g.L.Library.holdings gr a log = record { told = t.told; legal = t.turn_of.legal; stands = t.stands } in
    let cached = ap (λ d. d.cache) (c.value-2.ensures.now ∙ c.value.ensures.now) in
    let later = sym (closing_published gr.setting.first.graph log n c.args.descriptor.number e is) ∙ ap (published gr.setting.first.graph) (sym ends) in
    record {
      own = pass_same _ _ _ c.turn-turn.ensures.same.1 c.commit.ensures.pass;
      some = subst (λ (m : ℕ). 0 < m) (sym same) k.some;
      count = less_is c.args.caller.now.live (length (live_of n (deeds_of (log ++ (n, e) ∷ [])))) less ∙ sym (λ i. length (live_of (same i) (deeds_of (ends i))));
      room = k.room;
      aliases = k.aliases;
      view = published_at g.L.Library.holdings gr a log at c.enter_closing-entry.new.view (c.enter_closing-entry.ensures.heard.0 ∙ cached) ∙ later;
      told = published_at g.L.Library.holdings gr a log at c.enter_closing-entry.new.told (c.enter_closing-entry.ensures.heard.1 ∙ cached) ∙ later;
    }
  where
    less_is : (a b : ℕ) → a ≡ b + 1 → a - 1 ≡ b
    less_is a b e = omega arith

pub returns-clause-entry : goal.returns-clause-entry
returns-clause-entry g c =
    let t = c.turn-turn.ensures.took in
    let e = c.enter_closing-entry.result in
    let log = hall.front c.turn-turn.result.pass.now in
    record {
      seen = log;
      grows = t.grows;
      entry = e;
      is = subst (λ (m : ℕ). IsClosing m c.args.descriptor.number e) c.number-number.ensures.value c.enter_closing-entry.ensures.entry;
      ends = c.commit.ensures.front ∙ ap (λ (m : ℕ). log ++ (m, e) ∷ []) t.number_is;
    }

pub returns-clause-others : goal.returns-clause-others
returns-clause-others g c d ne owned =
    let t = c.turn-turn.ensures.took in let k = c.requires.knows in
    let n : ℕ = number c.args.caller.now in
    let e = c.enter_closing-entry.result in
    let log = hall.front c.turn-turn.result.pass.now in
    let rest = t.grows.0 in
    let is = subst (λ (m : ℕ). IsClosing m c.args.descriptor.number e) c.number-number.ensures.value c.enter_closing-entry.ensures.entry in
    let s = still_live _ n d.number (front c.args.caller.now) log owned.desc t.turn_of.legal t.grows owned.live owned.found in
    let ends = c.commit.ensures.front ∙ ap (λ (m : ℕ). log ++ (m, e) ∷ []) t.number_is in
    let own = pass_same _ _ _ c.turn-turn.ensures.same.1 c.commit.ensures.pass in
    owns_kept c.args.self.now c.args.caller.now _ d (rest ++ (n, e) ∷ []) (c.commit.ensures.number ∙ t.number_is) k.some
    (ends ∙ (ap (λ z. z ++ (n, e) ∷ []) t.grows.1 ∙ append_assoc (front c.args.caller.now) rest ((n, e) ∷ []))) own.legal
    (ap (λ z. closed d.number (deeds_of z)) ends ∙ closed_after log n c.args.descriptor.number d.number e is (λ z. ne (sym z)) (live_is n d.number (deeds_of log) owned.desc s.live s.found).unclosed) owned

pub enter_closing-entry-requires-clause-view : goal.enter_closing-entry-requires-clause-view
enter_closing-entry-requires-clause-view g c =
    let t = c.turn-turn.ensures.took in
    let log = hall.front c.turn-turn.result.pass.now in
    let a = c.turn-turn.result.value in
    let gr = ground c.args.self.now c.args.caller.now in
    let at : AtTurn g.L.Library.holdings gr a log = record { told = t.told; legal = t.turn_of.legal; stands = t.stands } in
    hears_at g.L.Library.holdings gr a log at (front c.args.caller.now) (number c.args.caller.now) c.value-2.result.now c.args.caller.now.view t.grows (c.value-2.ensures.now ∙ c.value.ensures.now) c.requires.knows.view
