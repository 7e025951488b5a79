use Rattle.std.proofs.Common.{◌≡◌, ◌∙◌, ap, sym, subst, refl, ℕ, ◌+◌, ◌++◌, ◌∷◌, [], List, length, append-nil, arith, inl, inr, string_bytes}
use Rattle.std.specs.List.{AllByRecursion}
use Rattle.std.specs.declared.vec.Vec.{Vec}
use Rattle.std.specs.declared.alloc.Global.{Global}
use Rattle.chain_steps.specs.declared.recipe.Recipe.{Recipe}
use Rattle.code_pairs.specs.Tables.{Tables}
use Rattle.history_core.specs.Tokens as hall
use Rattle.module_counts.specs.Counting.{RefusesRoom}
use Rattle.module_counts.specs.Stocks.{lists}
use Rattle.pair_openings.specs.Entered.{Stays}
use Rattle.runtime_histories.specs.Deeds.{closed}
use Rattle.runtime_histories.specs.Legal.{loaded_modules}
use Rattle.runtime_histories.specs.Pins.{live_of}
use Rattle.runtime_histories.specs.Places.{all_pages, places}
use Rattle.runtime_room.specs.Published.{published}
use Rattle.runtime_room.specs.Puts.{Fit, IsPut, all_parts, joined, CanPut}
use Rattle.runtime_room.proofs.Covering.{none_pinned}
use Rattle.runtime_room.specs.Rooms.{deeds_of}
use Rattle.desk_openings.specs.Preparing.{LaysOut, loads_of}
use Rattle.desk_openings.proofs.Entered.{HasOpened}
use Rattle.desk_openings.specs.Beginnings.{IsLost, KeepsDesk}
use Rattle.desk_openings.proofs.Lost.{refusal_stands, refusal_closes, refusal_live, late_stands, vain_stands}
use Rattle.gconv_runtime.specs.Tokens.{number, front, ground}
use Rattle.gconv_runtime.specs.declared.tokens.Descriptor.{Descriptor}
use Rattle.gconv_runtime.proofs.Dismissing.{pass_same, live_later}
use Rattle.gconv_runtime.proofs.Opened.{AtTurn, published_at, hears_at, graphs_at, text_at, counted_at, down_published, least_at, made_published, turned_at, room_at, down_legal, down_covered, down_reply, down_entry, knows_after, others_after, as_lost, as_denied, begun_at, can_at, prepared_at, next_at, entered_at, position_at, new_at, fit_at, can_fill, live_at, made_legal, made_covered, made_stands, made_closes, made_count, made_has, made_reply, made_entry, made_recipe, owns_new, read_new}
use Rattle.gconv_runtime.proofs.tokens.Gconv.open_asked.Goals as goal

same_count : (a b : ℕ) → a ≡ b → a ≡ b + 0
same_count a b e = omega arith

pub leave-requires-clause-stands : goal.leave-requires-clause-stands
leave-requires-clause-stands g c =
    let t = c.turn-turn.ensures.took in
    let log = hall.front c.turn-turn.result.pass.now in
    let a = c.turn-turn.result.value in
    let b = c.begin_heard.new.desk in
    let now = c.value.ensures.now in
    let why = c.in-Lost.why in
    vain_stands g.L.Library.holdings a b log t.stands (subst (λ z. KeepsDesk g.L.Library.holdings z b) now c.in-Lost.ensures.desk)
    (subst (λ z. Stays z.counts b.counts) now c.in-Lost.ensures.come.0) c.args.from c.args.to why
    (subst (λ z. IsLost (string_bytes z.directory) z.counts (g.L.Library.holdings z.library) (g.L.Library.holdings b.library) c.args.from c.args.to why) now c.in-Lost.ensures.come.2)

pub returns-in-Lost-clause-knows : goal.returns-in-Lost-clause-knows
returns-in-Lost-clause-knows g c =
    let t = c.turn-turn.ensures.took in
    let log = hall.front c.turn-turn.result.pass.now in
    let a = c.turn-turn.result.value in
    let at : AtTurn g.L.Library.holdings (ground c.args.self.now c.args.caller.now) a log = record { told = t.told; legal = t.turn_of.legal; stands = t.stands } in
    let cached = ap (λ d. d.cache) c.value.ensures.now in
    let nothing = ap (published (ground c.args.self.now c.args.caller.now).setting.first.graph) (sym (append-nil log)) in
    knows_after c.args.self.now c.args.caller.now _ log [] 0 c.requires.knows (pass_same _ _ _ c.turn-turn.ensures.same.1 c.leave.ensures.pass)
    (c.leave.ensures.number ∙ t.number_is) t.turn_of.legal t.grows (c.leave.ensures.front ∙ sym (append-nil log)) (omega arith)
    (same_count _ _ (ap (λ z. length (live_of (number c.args.caller.now) (deeds_of z))) (append-nil log)))
    (published_at g.L.Library.holdings (ground c.args.self.now c.args.caller.now) a log at c.begin_heard.new.view (c.in-Lost.ensures.heard.0 ∙ cached) ∙ nothing)
    (published_at g.L.Library.holdings (ground c.args.self.now c.args.caller.now) a log at c.begin_heard.new.told (c.in-Lost.ensures.heard.1 ∙ cached) ∙ nothing)

pub returns-in-Lost-clause-err : goal.returns-in-Lost-clause-err
returns-in-Lost-clause-err g c =
    let t = c.turn-turn.ensures.took in
    let log = hall.front c.turn-turn.result.pass.now in
    let at : AtTurn g.L.Library.holdings (ground c.args.self.now c.args.caller.now) c.turn-turn.result.value log = record { told = t.told; legal = t.turn_of.legal; stands = t.stands } in
    as_lost g.L.Library.holdings c.args.self.now c.turn-turn.result.value c.args.caller.now _ log c.args.from c.args.to
    c.in-Lost.why at c.leave.ensures.front t.grows (subst (λ d. RefusesRoom d.counts c.in-Lost.why) c.value.ensures.now c.in-Lost.ensures.come.1)

pub returns-in-Lost-clause-others : goal.returns-in-Lost-clause-others
returns-in-Lost-clause-others g c =
    let t = c.turn-turn.ensures.took in
    let log = hall.front c.turn-turn.result.pass.now in
    let own = pass_same _ _ _ c.turn-turn.ensures.same.1 c.leave.ensures.pass in
    others_after c.args.self.now c.args.caller.now _ log [] c.requires.knows (c.leave.ensures.number ∙ t.number_is) t.turn_of.legal t.grows (c.leave.ensures.front ∙ sym (append-nil log)) own.legal
    (λ k. ap (λ z. closed k (deeds_of z)) (append-nil log))

pub commit-requires-clause-stands : goal.commit-requires-clause-stands
commit-requires-clause-stands g c =
    let t = c.turn-turn.ensures.took in
    let log = hall.front c.turn-turn.result.pass.now in
    let a = c.turn-turn.result.value in
    let n = hall.number c.turn-turn.result.pass.now in
    let at : AtTurn g.L.Library.holdings (ground c.args.self.now c.args.caller.now) a log = record { told = t.told; legal = t.turn_of.legal; stands = t.stands } in
    let turned = turned_at g.L.Library.holdings (ground c.args.self.now c.args.caller.now) a log at c.args.from c.args.to c.value.result.now c.begin_heard.new.desk c.in-Refused.why c.number-number.result n c.in-Refused.entry
    c.value.ensures.now (c.number-number.ensures.value ∙ sym t.number_is) c.in-Refused.ensures.desk c.in-Refused.ensures.come in
    refusal_stands g.L.Library.holdings a c.begin_heard.new.desk log c.args.from c.args.to c.in-Refused.why n c.in-Refused.entry turned

pub commit-requires-clause-legal : goal.commit-requires-clause-legal
commit-requires-clause-legal g c =
    let t = subst (λ h. hall.Took h c.args.caller.now.pass c.turn-turn.result) (sym c.turn-turn.ensures.same.1) c.turn-turn.ensures.took in
    let log = hall.front c.turn-turn.result.pass.now in
    let a = c.turn-turn.result.value in
    let n = hall.number c.turn-turn.result.pass.now in
    let at : AtTurn g.L.Library.holdings _ a log = record { told = t.told; legal = t.turn_of.legal; stands = t.stands } in
    down_legal g.L.Library.holdings _ a log at c.args.from c.args.to c.begin_heard.new.desk c.in-Refused.why n c.in-Refused.entry
    (turned_at g.L.Library.holdings _ a log at c.args.from c.args.to c.value.result.now c.begin_heard.new.desk c.in-Refused.why c.number-number.result n c.in-Refused.entry
    c.value.ensures.now (c.number-number.ensures.value ∙ sym t.number_is) c.in-Refused.ensures.desk c.in-Refused.ensures.come)

pub commit-requires-clause-covered : goal.commit-requires-clause-covered
commit-requires-clause-covered g c =
    let t = subst (λ h. hall.Took h c.args.caller.now.pass c.turn-turn.result) (sym c.turn-turn.ensures.same.1) c.turn-turn.ensures.took in
    let log = hall.front c.turn-turn.result.pass.now in
    let a = c.turn-turn.result.value in
    let n = hall.number c.turn-turn.result.pass.now in
    let at : AtTurn g.L.Library.holdings _ a log = record { told = t.told; legal = t.turn_of.legal; stands = t.stands } in
    down_covered g.L.Library.holdings _ a log at c.args.from c.args.to c.begin_heard.new.desk c.in-Refused.why n c.in-Refused.entry
    (turned_at g.L.Library.holdings _ a log at c.args.from c.args.to c.value.result.now c.begin_heard.new.desk c.in-Refused.why c.number-number.result n c.in-Refused.entry
    c.value.ensures.now (c.number-number.ensures.value ∙ sym t.number_is) c.in-Refused.ensures.desk c.in-Refused.ensures.come)
    (hall.filled c.turn-turn.result.pass.now)

pub returns-in-Refused-clause-knows : goal.returns-in-Refused-clause-knows
returns-in-Refused-clause-knows g c =
    let t = c.turn-turn.ensures.took in
    let log = hall.front c.turn-turn.result.pass.now in
    let a = c.turn-turn.result.value in
    let n = number c.args.caller.now in
    let e = c.in-Refused.entry in
    let at : AtTurn g.L.Library.holdings (ground c.args.self.now c.args.caller.now) a log = record { told = t.told; legal = t.turn_of.legal; stands = t.stands } in
    let turned = turned_at g.L.Library.holdings (ground c.args.self.now c.args.caller.now) a log at c.args.from c.args.to c.value.result.now c.begin_heard.new.desk c.in-Refused.why c.number-number.result n e
    c.value.ensures.now c.number-number.ensures.value c.in-Refused.ensures.desk c.in-Refused.ensures.come in
    knows_after c.args.self.now c.args.caller.now _ log ((n, e) ∷ []) 0 c.requires.knows (pass_same _ _ _ c.turn-turn.ensures.same.1 c.commit.ensures.pass)
    (c.commit.ensures.number ∙ t.number_is) t.turn_of.legal t.grows (c.commit.ensures.front ∙ ap (λ (m : ℕ). log ++ (m, e) ∷ []) t.number_is) (omega arith)
    (same_count _ _ (ap length (refusal_live g.L.Library.holdings a c.begin_heard.new.desk log c.args.from c.args.to c.in-Refused.why n e turned)))
    (down_published g.L.Library.holdings (ground c.args.self.now c.args.caller.now) a log at c.args.from c.args.to c.begin_heard.new.desk c.in-Refused.why n e turned c.begin_heard.new.view (c.in-Refused.ensures.heard.0 ∙ ap (λ d. d.cache) c.value.ensures.now))
    (down_published g.L.Library.holdings (ground c.args.self.now c.args.caller.now) a log at c.args.from c.args.to c.begin_heard.new.desk c.in-Refused.why n e turned c.begin_heard.new.told (c.in-Refused.ensures.heard.1 ∙ ap (λ d. d.cache) c.value.ensures.now))

pub returns-in-Refused-clause-err : goal.returns-in-Refused-clause-err
returns-in-Refused-clause-err g c =
    let t = c.turn-turn.ensures.took in
    let log = hall.front c.turn-turn.result.pass.now in
    let a = c.turn-turn.result.value in
    let n = number c.args.caller.now in
    let e = c.in-Refused.entry in
    let why = c.in-Refused.why in
    let gr = ground c.args.self.now c.args.caller.now in
    let at : AtTurn g.L.Library.holdings gr a log = record { told = t.told; legal = t.turn_of.legal; stands = t.stands } in
    let turned = turned_at g.L.Library.holdings gr a log at c.args.from c.args.to c.value.result.now c.begin_heard.new.desk why c.number-number.result n e
    c.value.ensures.now c.number-number.ensures.value c.in-Refused.ensures.desk c.in-Refused.ensures.come in
    as_denied c.args.self.now c.args.caller.now _ c.args.from c.args.to why turned.refusal.known
    (record {
      adds = record {
        seen = log;
        grows = t.grows;
        entry = e;
        is = down_entry g.L.Library.holdings gr a log at c.args.from c.args.to c.begin_heard.new.desk why n e turned;
        ends = c.commit.ensures.front ∙ ap (λ (m : ℕ). log ++ (m, e) ∷ []) t.number_is;
      };
      legal = down_reply g.L.Library.holdings gr a log at c.args.from c.args.to c.begin_heard.new.desk why n e turned;
      room = room_at g.L.Library.holdings gr a log at turned.refusal.room;
    })

pub returns-in-Refused-clause-others : goal.returns-in-Refused-clause-others
returns-in-Refused-clause-others g c =
    let t = c.turn-turn.ensures.took in
    let log = hall.front c.turn-turn.result.pass.now in
    let a = c.turn-turn.result.value in
    let n = number c.args.caller.now in
    let e = c.in-Refused.entry in
    let gr = ground c.args.self.now c.args.caller.now in
    let at : AtTurn g.L.Library.holdings gr a log = record { told = t.told; legal = t.turn_of.legal; stands = t.stands } in
    let turned = turned_at g.L.Library.holdings gr a log at c.args.from c.args.to c.value.result.now c.begin_heard.new.desk c.in-Refused.why c.number-number.result n e
    c.value.ensures.now c.number-number.ensures.value c.in-Refused.ensures.desk c.in-Refused.ensures.come in
    let own = pass_same _ _ _ c.turn-turn.ensures.same.1 c.commit.ensures.pass in
    others_after c.args.self.now c.args.caller.now _ log ((n, e) ∷ []) c.requires.knows (c.commit.ensures.number ∙ t.number_is) t.turn_of.legal t.grows
    (c.commit.ensures.front ∙ ap (λ (m : ℕ). log ++ (m, e) ∷ []) t.number_is) own.legal
    (refusal_closes g.L.Library.holdings a c.begin_heard.new.desk log c.args.from c.args.to c.in-Refused.why n e turned)

pub prepare_heard-requires-clause-can : goal.prepare_heard-requires-clause-can
prepare_heard-requires-clause-can g c =
    let t = c.turn-turn.ensures.took in
    let log = hall.front c.turn-turn.result.pass.now in
    let a = c.turn-turn.result.value in
    let b = c.begin_heard.new.desk in
    let o = c.in-Begun.begun in
    let x = c.args.from in
    let y = c.args.to in
    let at : AtTurn g.L.Library.holdings (ground c.args.self.now c.args.caller.now) a log = record { told = t.told; legal = t.turn_of.legal; stands = t.stands } in
    let is = begun_at g.L.Library.holdings (ground c.args.self.now c.args.caller.now) a log at x y c.value.result.now b o c.value.ensures.now c.in-Begun.ensures.desk c.in-Begun.ensures.come in
    can_at g.L.Library.holdings (ground c.args.self.now c.args.caller.now) a log at x y b o is c.value-2.result.now c.value-2.ensures.now

pub prepare_heard-requires-clause-least : goal.prepare_heard-requires-clause-least
prepare_heard-requires-clause-least g c =
    let t = c.turn-turn.ensures.took in
    let log = hall.front c.turn-turn.result.pass.now in
    let a = c.turn-turn.result.value in
    let b = c.begin_heard.new.desk in
    let o = c.in-Begun.begun in
    let x = c.args.from in
    let y = c.args.to in
    let at : AtTurn g.L.Library.holdings (ground c.args.self.now c.args.caller.now) a log = record { told = t.told; legal = t.turn_of.legal; stands = t.stands } in
    let is = begun_at g.L.Library.holdings (ground c.args.self.now c.args.caller.now) a log at x y c.value.result.now b o c.value.ensures.now c.in-Begun.ensures.desk c.in-Begun.ensures.come in
    least_at g.L.Library.holdings (ground c.args.self.now c.args.caller.now) a log at x y b o is c.value-2.result.now c.value-2.ensures.now

pub prepare_heard-requires-clause-heard : goal.prepare_heard-requires-clause-heard
prepare_heard-requires-clause-heard g c =
    let kept = sym c.in-Begun.ensures.desk.cache ∙ ap (λ d. d.cache) (sym c.value-2.ensures.now) in
    (c.in-Begun.ensures.heard.0 ∙ kept, c.in-Begun.ensures.heard.1 ∙ kept)

pub leave-requires-in_default-clause-stands : goal.leave-requires-in_default-clause-stands
leave-requires-in_default-clause-stands g c =
    let t = c.turn-turn.ensures.took in
    let log = hall.front c.turn-turn.result.pass.now in
    let a = c.turn-turn.result.value in
    let b = c.begin_heard.new.desk in
    let o = c.in-Begun.begun in
    let x = c.args.from in
    let y = c.args.to in
    let at : AtTurn g.L.Library.holdings (ground c.args.self.now c.args.caller.now) a log = record { told = t.told; legal = t.turn_of.legal; stands = t.stands } in
    let is = begun_at g.L.Library.holdings (ground c.args.self.now c.args.caller.now) a log at x y c.value.result.now b o c.value.ensures.now c.in-Begun.ensures.desk c.in-Begun.ensures.come in
    late_stands g.L.Library.holdings a b c.prepare_heard.new.desk log x y o is
    (subst (λ z. LaysOut z c.prepare_heard.new.desk (loaded_modules (loads_of o.opening))) c.value-2.ensures.now c.in_default.ensures.desk)
    (c.in_default.ensures.err ∙ ap (λ d. d.cache) c.value-2.ensures.now)

pub returns-in_default-clause-knows : goal.returns-in_default-clause-knows
returns-in_default-clause-knows g c =
    let t = c.turn-turn.ensures.took in
    let log = hall.front c.turn-turn.result.pass.now in
    let a = c.turn-turn.result.value in
    let at : AtTurn g.L.Library.holdings (ground c.args.self.now c.args.caller.now) a log = record { told = t.told; legal = t.turn_of.legal; stands = t.stands } in
    let cached = c.in_default.ensures.err ∙ (ap (λ d. d.cache) c.value-2.ensures.now ∙ (c.in-Begun.ensures.desk.cache ∙ ap (λ d. d.cache) c.value.ensures.now)) in
    let nothing = ap (published (ground c.args.self.now c.args.caller.now).setting.first.graph) (sym (append-nil log)) in
    knows_after c.args.self.now c.args.caller.now _ log [] 0 c.requires.knows (pass_same _ _ _ c.turn-turn.ensures.same.1 c.leave-in_default.ensures.pass)
    (c.leave-in_default.ensures.number ∙ t.number_is) t.turn_of.legal t.grows (c.leave-in_default.ensures.front ∙ sym (append-nil log)) (omega arith)
    (same_count _ _ (ap (λ z. length (live_of (number c.args.caller.now) (deeds_of z))) (append-nil log)))
    (published_at g.L.Library.holdings (ground c.args.self.now c.args.caller.now) a log at c.prepare_heard.new.view (c.in_default.ensures.heard.0 ∙ cached) ∙ nothing)
    (published_at g.L.Library.holdings (ground c.args.self.now c.args.caller.now) a log at c.prepare_heard.new.told (c.in_default.ensures.heard.1 ∙ cached) ∙ nothing)

pub returns-in_default-clause-others : goal.returns-in_default-clause-others
returns-in_default-clause-others g c =
    let t = c.turn-turn.ensures.took in
    let log = hall.front c.turn-turn.result.pass.now in
    let own = pass_same _ _ _ c.turn-turn.ensures.same.1 c.leave-in_default.ensures.pass in
    others_after c.args.self.now c.args.caller.now _ log [] c.requires.knows (c.leave-in_default.ensures.number ∙ t.number_is) t.turn_of.legal t.grows (c.leave-in_default.ensures.front ∙ sym (append-nil log)) own.legal
    (λ k. ap (λ z. closed k (deeds_of z)) (append-nil log))

pub put_modules-requires-clause-fits : goal.put_modules-requires-clause-fits
put_modules-requires-clause-fits g c =
    let t = c.turn-turn.ensures.took in
    let log = hall.front c.turn-turn.result.pass.now in
    let a = c.turn-turn.result.value in
    let b = c.begin_heard.new.desk in
    let o = c.in-Begun.begun in
    let x = c.args.from in
    let y = c.args.to in
    let at : AtTurn g.L.Library.holdings (ground c.args.self.now c.args.caller.now) a log = record { told = t.told; legal = t.turn_of.legal; stands = t.stands } in
    let is = begun_at g.L.Library.holdings (ground c.args.self.now c.args.caller.now) a log at x y c.value.result.now b o c.value.ensures.now c.in-Begun.ensures.desk c.in-Begun.ensures.come in
    let d1 = c.prepare_heard.new.desk in
    let r = c.in-Ok.ready in
    let p = prepared_at g.L.Library.holdings (ground c.args.self.now c.args.caller.now) a log at x y b o is c.value-2.result.now d1 r c.value-2.ensures.now c.in-Ok.ensures.desk c.in-Ok.ensures.ok in
    subst (λ ts. Fit ts (lists c.as_slice-2.result.now)) (sym c.as_slice.ensures.value)
    (subst (λ (ps : List (Vec ℕ Global)). Fit r.opening.tables.items (lists ps)) (sym c.as_slice-2.ensures.value) (fit_at g.L.Library.holdings (ground c.args.self.now c.args.caller.now) a log at x y b o is d1 r p))

pub put_modules-requires-clause-free : goal.put_modules-requires-clause-free
put_modules-requires-clause-free g c =
    let t = c.turn-turn.ensures.took in
    let log = hall.front c.turn-turn.result.pass.now in
    let a = c.turn-turn.result.value in
    let b = c.begin_heard.new.desk in
    let o = c.in-Begun.begun in
    let x = c.args.from in
    let y = c.args.to in
    let at : AtTurn g.L.Library.holdings (ground c.args.self.now c.args.caller.now) a log = record { told = t.told; legal = t.turn_of.legal; stands = t.stands } in
    let is = begun_at g.L.Library.holdings (ground c.args.self.now c.args.caller.now) a log at x y c.value.result.now b o c.value.ensures.now c.in-Begun.ensures.desk c.in-Begun.ensures.come in
    let d1 = c.prepare_heard.new.desk in
    let r = c.in-Ok.ready in
    let p = prepared_at g.L.Library.holdings (ground c.args.self.now c.args.caller.now) a log at x y b o is c.value-2.result.now d1 r c.value-2.ensures.now c.in-Ok.ensures.desk c.in-Ok.ensures.ok in
    let new = new_at g.L.Library.holdings (ground c.args.self.now c.args.caller.now) a log at x y b o is d1 r p in
    let gr = ground c.args.self.now c.args.caller.now in
    subst (λ h. CanPut h c.turn-turn.result.pass.now (joined (lists c.as_slice-2.result.now))) (sym c.turn-turn.ensures.same.1)
    (subst (λ (ps : List (Vec ℕ Global)). CanPut c.args.self.now.hall c.turn-turn.result.pass.now (joined (lists ps))) (sym c.as_slice-2.ensures.value)
    (can_fill c.args.self.now.hall c.turn-turn.result.pass.now gr.setting.pages (all_pages (places gr.setting.pages (deeds_of log))) (joined (lists r.opening.places.items)) new.once new.below new.free c.requires.knows.room
    (λ k place n lt out. none_pinned gr.setting.pages (deeds_of log) k place n lt out)))

pub enter-position-requires-clause-legal : goal.enter-position-requires-clause-legal
enter-position-requires-clause-legal g c =
    let t = c.turn-turn.ensures.took in
    let log = hall.front c.turn-turn.result.pass.now in
    let a = c.turn-turn.result.value in
    let b = c.begin_heard.new.desk in
    let o = c.in-Begun.begun in
    let x = c.args.from in
    let y = c.args.to in
    let at : AtTurn g.L.Library.holdings (ground c.args.self.now c.args.caller.now) a log = record { told = t.told; legal = t.turn_of.legal; stands = t.stands } in
    let is = begun_at g.L.Library.holdings (ground c.args.self.now c.args.caller.now) a log at x y c.value.result.now b o c.value.ensures.now c.in-Begun.ensures.desk c.in-Begun.ensures.come in
    let d1 = c.prepare_heard.new.desk in
    let r = c.in-Ok.ready in
    let p = prepared_at g.L.Library.holdings (ground c.args.self.now c.args.caller.now) a log at x y b o is c.value-2.result.now d1 r c.value-2.ensures.now c.in-Ok.ensures.desk c.in-Ok.ensures.ok in
    next_at g.L.Library.holdings (ground c.args.self.now c.args.caller.now) a log at x y b o is d1 r p c.value-3.result.now (c.value-3.ensures.now ∙ c.put_modules.ensures.same.2)

pub commit-requires-2-clause-stands : goal.commit-requires-2-clause-stands
commit-requires-2-clause-stands g c =
    let t = c.turn-turn.ensures.took in
    let log = hall.front c.turn-turn.result.pass.now in
    let a = c.turn-turn.result.value in
    let b = c.begin_heard.new.desk in
    let o = c.in-Begun.begun in
    let x = c.args.from in
    let y = c.args.to in
    let at : AtTurn g.L.Library.holdings (ground c.args.self.now c.args.caller.now) a log = record { told = t.told; legal = t.turn_of.legal; stands = t.stands } in
    let is = begun_at g.L.Library.holdings (ground c.args.self.now c.args.caller.now) a log at x y c.value.result.now b o c.value.ensures.now c.in-Begun.ensures.desk c.in-Begun.ensures.come in
    let d1 = c.prepare_heard.new.desk in
    let r = c.in-Ok.ready in
    let p = prepared_at g.L.Library.holdings (ground c.args.self.now c.args.caller.now) a log at x y b o is c.value-2.result.now d1 r c.value-2.ensures.now c.in-Ok.ensures.desk c.in-Ok.ensures.ok in
    let n : ℕ = hall.number c.put_modules.new.turn.pass.now in
    let e = c.enter-position.result.1 in
    let d2 = c.enter-position.new.desk in
    let k = entered_at g.L.Library.holdings (ground c.args.self.now c.args.caller.now) a log at x y b o is d1 r p c.value-3.result.now d2 c.number-number.result n e (c.value-3.ensures.now ∙ c.put_modules.ensures.same.2) (c.number-number.ensures.value ∙ (sym t.number_is ∙ sym c.put_modules.ensures.pass.0))
    c.enter-position.ensures.desk c.enter-position.ensures.entry in
    made_stands g.L.Library.holdings (ground c.args.self.now c.args.caller.now) a log at x y b o is d1 r p d2 n e k (hall.front c.put_modules.new.turn.pass.now) c.put_modules.ensures.pass.1

pub commit-requires-2-clause-legal : goal.commit-requires-2-clause-legal
commit-requires-2-clause-legal g c =
    let t = subst (λ h. hall.Took h c.args.caller.now.pass c.turn-turn.result) (sym (ap (λ z. z.now) c.put_modules.ensures.same.1 ∙ c.turn-turn.ensures.same.1)) c.turn-turn.ensures.took in
    let log = hall.front c.turn-turn.result.pass.now in
    let a = c.turn-turn.result.value in
    let b = c.begin_heard.new.desk in
    let o = c.in-Begun.begun in
    let x = c.args.from in
    let y = c.args.to in
    let at : AtTurn g.L.Library.holdings _ a log = record { told = t.told; legal = t.turn_of.legal; stands = t.stands } in
    let is = begun_at g.L.Library.holdings _ a log at x y c.value.result.now b o c.value.ensures.now c.in-Begun.ensures.desk c.in-Begun.ensures.come in
    let d1 = c.prepare_heard.new.desk in
    let r = c.in-Ok.ready in
    let p = prepared_at g.L.Library.holdings _ a log at x y b o is c.value-2.result.now d1 r c.value-2.ensures.now c.in-Ok.ensures.desk c.in-Ok.ensures.ok in
    let n : ℕ = hall.number c.put_modules.new.turn.pass.now in
    let e = c.enter-position.result.1 in
    let d2 = c.enter-position.new.desk in
    let k = entered_at g.L.Library.holdings _ a log at x y b o is d1 r p c.value-3.result.now d2 c.number-number.result n e (c.value-3.ensures.now ∙ c.put_modules.ensures.same.2) (c.number-number.ensures.value ∙ (sym t.number_is ∙ sym c.put_modules.ensures.pass.0))
    c.enter-position.ensures.desk c.enter-position.ensures.entry in
    made_legal g.L.Library.holdings _ a log at x y b o is d1 r p d2 n e k (hall.front c.put_modules.new.turn.pass.now) c.put_modules.ensures.pass.1

pub commit-requires-2-clause-covered : goal.commit-requires-2-clause-covered
commit-requires-2-clause-covered g c =
    let t = subst (λ h. hall.Took h c.args.caller.now.pass c.turn-turn.result) (sym (ap (λ z. z.now) c.put_modules.ensures.same.1 ∙ c.turn-turn.ensures.same.1)) c.turn-turn.ensures.took in
    let log = hall.front c.turn-turn.result.pass.now in
    let a = c.turn-turn.result.value in
    let b = c.begin_heard.new.desk in
    let o = c.in-Begun.begun in
    let x = c.args.from in
    let y = c.args.to in
    let at : AtTurn g.L.Library.holdings _ a log = record { told = t.told; legal = t.turn_of.legal; stands = t.stands } in
    let is = begun_at g.L.Library.holdings _ a log at x y c.value.result.now b o c.value.ensures.now c.in-Begun.ensures.desk c.in-Begun.ensures.come in
    let d1 = c.prepare_heard.new.desk in
    let r = c.in-Ok.ready in
    let p = prepared_at g.L.Library.holdings _ a log at x y b o is c.value-2.result.now d1 r c.value-2.ensures.now c.in-Ok.ensures.desk c.in-Ok.ensures.ok in
    let n : ℕ = hall.number c.put_modules.new.turn.pass.now in
    let e = c.enter-position.result.1 in
    let d2 = c.enter-position.new.desk in
    let k = entered_at g.L.Library.holdings _ a log at x y b o is d1 r p c.value-3.result.now d2 c.number-number.result n e (c.value-3.ensures.now ∙ c.put_modules.ensures.same.2) (c.number-number.ensures.value ∙ (sym t.number_is ∙ sym c.put_modules.ensures.pass.0))
    c.enter-position.ensures.desk c.enter-position.ensures.entry in
    made_covered g.L.Library.holdings _ a log at x y b o is d1 r p d2 n e k (hall.front c.put_modules.new.turn.pass.now) c.put_modules.ensures.pass.1 (hall.filled c.put_modules.new.turn.pass.now)
    (subst (λ (ts : List Tables). AllByRecursion (IsPut (hall.filled c.put_modules.new.turn.pass.now)) (all_parts ts (lists r.opening.places.items))) c.as_slice.ensures.value
    (subst (λ (ps : List (Vec ℕ Global)). AllByRecursion (IsPut (hall.filled c.put_modules.new.turn.pass.now)) (all_parts c.as_slice.result.now (lists ps))) c.as_slice-2.ensures.value c.put_modules.ensures.put))

pub overflow_add-caller : goal.overflow_add-caller
overflow_add-caller g c =
    let t = c.turn-turn.ensures.took in
    let log = hall.front c.turn-turn.result.pass.now in
    let a = c.turn-turn.result.value in
    let b = c.begin_heard.new.desk in
    let o = c.in-Begun.begun in
    let x = c.args.from in
    let y = c.args.to in
    let at : AtTurn g.L.Library.holdings (ground c.args.self.now c.args.caller.now) a log = record { told = t.told; legal = t.turn_of.legal; stands = t.stands } in
    let is = begun_at g.L.Library.holdings (ground c.args.self.now c.args.caller.now) a log at x y c.value.result.now b o c.value.ensures.now c.in-Begun.ensures.desk c.in-Begun.ensures.come in
    let few = live_at g.L.Library.holdings (ground c.args.self.now c.args.caller.now) a log at (room_at g.L.Library.holdings (ground c.args.self.now c.args.caller.now) a log at is.begun.limit) (number c.args.caller.now) in
    let later = live_later _ (number c.args.caller.now) (front c.args.caller.now) log t.turn_of.legal t.grows in
    let count : c.args.caller.now.live ≡ length (live_of (number c.args.caller.now) (deeds_of log)) = c.requires.knows.count ∙ sym (ap length later) in
    omega (arith, few, count)

pub returns-clause-knows : goal.returns-clause-knows
returns-clause-knows g c =
    let t = c.turn-turn.ensures.took in
    let log = hall.front c.turn-turn.result.pass.now in
    let a = c.turn-turn.result.value in
    let b = c.begin_heard.new.desk in
    let o = c.in-Begun.begun in
    let x = c.args.from in
    let y = c.args.to in
    let at : AtTurn g.L.Library.holdings (ground c.args.self.now c.args.caller.now) a log = record { told = t.told; legal = t.turn_of.legal; stands = t.stands } in
    let is = begun_at g.L.Library.holdings (ground c.args.self.now c.args.caller.now) a log at x y c.value.result.now b o c.value.ensures.now c.in-Begun.ensures.desk c.in-Begun.ensures.come in
    let d1 = c.prepare_heard.new.desk in
    let r = c.in-Ok.ready in
    let p = prepared_at g.L.Library.holdings (ground c.args.self.now c.args.caller.now) a log at x y b o is c.value-2.result.now d1 r c.value-2.ensures.now c.in-Ok.ensures.desk c.in-Ok.ensures.ok in
    let n : ℕ = number c.args.caller.now in
    let e = c.enter-position.result.1 in
    let d2 = c.enter-position.new.desk in
    let k = entered_at g.L.Library.holdings (ground c.args.self.now c.args.caller.now) a log at x y b o is d1 r p c.value-3.result.now d2 c.number-number.result n e (c.value-3.ensures.now ∙ c.put_modules.ensures.same.2) c.number-number.ensures.value
    c.enter-position.ensures.desk c.enter-position.ensures.entry in
    let after = log ++ (n, e) ∷ [] in
    let same = c.commit-2.ensures.number ∙ (c.put_modules.ensures.pass.0 ∙ t.number_is) in
    let ends = c.commit-2.ensures.front ∙ (λ i. c.put_modules.ensures.pass.1 i ++ ((c.put_modules.ensures.pass.0 ∙ t.number_is) i, e) ∷ []) in
    let own = pass_same _ _ _ (ap (λ z. z.now) c.put_modules.ensures.same.1 ∙ c.turn-turn.ensures.same.1) c.commit-2.ensures.pass in
    knows_after c.args.self.now c.args.caller.now _ log ((n, e) ∷ []) 1 c.requires.knows own same t.turn_of.legal t.grows ends refl
    (made_count g.L.Library.holdings (ground c.args.self.now c.args.caller.now) a log at x y b o is d1 r p d2 n e k)
    (made_published g.L.Library.holdings (ground c.args.self.now c.args.caller.now) a log at x y b o is d1 r p d2 n e k c.prepare_heard.new.view c.in-Ok.ensures.heard.0)
    (made_published g.L.Library.holdings (ground c.args.self.now c.args.caller.now) a log at x y b o is d1 r p d2 n e k c.prepare_heard.new.told c.in-Ok.ensures.heard.1)

pub returns-clause-ok : goal.returns-clause-ok
returns-clause-ok g c =
    let t = c.turn-turn.ensures.took in
    let log = hall.front c.turn-turn.result.pass.now in
    let a = c.turn-turn.result.value in
    let b = c.begin_heard.new.desk in
    let o = c.in-Begun.begun in
    let x = c.args.from in
    let y = c.args.to in
    let at : AtTurn g.L.Library.holdings (ground c.args.self.now c.args.caller.now) a log = record { told = t.told; legal = t.turn_of.legal; stands = t.stands } in
    let is = begun_at g.L.Library.holdings (ground c.args.self.now c.args.caller.now) a log at x y c.value.result.now b o c.value.ensures.now c.in-Begun.ensures.desk c.in-Begun.ensures.come in
    let d1 = c.prepare_heard.new.desk in
    let r = c.in-Ok.ready in
    let p = prepared_at g.L.Library.holdings (ground c.args.self.now c.args.caller.now) a log at x y b o is c.value-2.result.now d1 r c.value-2.ensures.now c.in-Ok.ensures.desk c.in-Ok.ensures.ok in
    let n : ℕ = number c.args.caller.now in
    let e = c.enter-position.result.1 in
    let d2 = c.enter-position.new.desk in
    let k = entered_at g.L.Library.holdings (ground c.args.self.now c.args.caller.now) a log at x y b o is d1 r p c.value-3.result.now d2 c.number-number.result n e (c.value-3.ensures.now ∙ c.put_modules.ensures.same.2) c.number-number.ensures.value
    c.enter-position.ensures.desk c.enter-position.ensures.entry in
    let after = log ++ (n, e) ∷ [] in
    let same = c.commit-2.ensures.number ∙ (c.put_modules.ensures.pass.0 ∙ t.number_is) in
    let ends = c.commit-2.ensures.front ∙ (λ i. c.put_modules.ensures.pass.1 i ++ ((c.put_modules.ensures.pass.0 ∙ t.number_is) i, e) ∷ []) in
    let own = pass_same _ _ _ (ap (λ z. z.now) c.put_modules.ensures.same.1 ∙ c.turn-turn.ensures.same.1) c.commit-2.ensures.pass in
    let has = made_has g.L.Library.holdings (ground c.args.self.now c.args.caller.now) a log at x y b o is d1 r p d2 n e k c.requires.knows.some c.enter-position.result.0
    (position_at g.L.Library.holdings (ground c.args.self.now c.args.caller.now) a log at x y b o is d1 r p c.value-3.result.now c.enter-position.result.0 (c.value-3.ensures.now ∙ c.put_modules.ensures.same.2) c.enter-position.ensures.number) in
    let opened : Descriptor = record { number = c.enter-position.result.0; runner = c.new.result; pins = r.pins } in
    let has_runner = subst (λ (z : Recipe). HasOpened (ground c.args.self.now c.args.caller.now) after n c.enter-position.result.0 o.opening.modules r.pins.items z) (sym (ap (λ z. z.recipe) c.new.ensures)) has in
    record {
      answer = record { chain = o.opening.chain; modules = o.opening.modules; loads = o.opening.loads.items };
      recipe = r.recipe;
      adds = record {
        seen = log;
        grows = t.grows;
        entry = e;
        is = made_entry g.L.Library.holdings (ground c.args.self.now c.args.caller.now) a log at x y b o is d1 r p d2 n e k;
        ends = ends;
      };
      legal = made_reply g.L.Library.holdings (ground c.args.self.now c.args.caller.now) a log at x y b o is d1 r p d2 n e k;
      room = room_at g.L.Library.holdings (ground c.args.self.now c.args.caller.now) a log at is.begun.limit;
      number_is = position_at g.L.Library.holdings (ground c.args.self.now c.args.caller.now) a log at x y b o is d1 r p c.value-3.result.now c.enter-position.result.0 (c.value-3.ensures.now ∙ c.put_modules.ensures.same.2) c.enter-position.ensures.number;
      recipe_is = made_recipe g.L.Library.holdings (ground c.args.self.now c.args.caller.now) a log at x y b o is d1 r p d2 n e k;
      runner_is = c.new.ensures;
      read = read_new c.args.self.now c.args.caller.now opened after _ o.opening.modules ends has_runner;
    }

pub returns-clause-owns : goal.returns-clause-owns
returns-clause-owns g c =
    let t = c.turn-turn.ensures.took in
    let log = hall.front c.turn-turn.result.pass.now in
    let a = c.turn-turn.result.value in
    let b = c.begin_heard.new.desk in
    let o = c.in-Begun.begun in
    let x = c.args.from in
    let y = c.args.to in
    let at : AtTurn g.L.Library.holdings (ground c.args.self.now c.args.caller.now) a log = record { told = t.told; legal = t.turn_of.legal; stands = t.stands } in
    let is = begun_at g.L.Library.holdings (ground c.args.self.now c.args.caller.now) a log at x y c.value.result.now b o c.value.ensures.now c.in-Begun.ensures.desk c.in-Begun.ensures.come in
    let d1 = c.prepare_heard.new.desk in
    let r = c.in-Ok.ready in
    let p = prepared_at g.L.Library.holdings (ground c.args.self.now c.args.caller.now) a log at x y b o is c.value-2.result.now d1 r c.value-2.ensures.now c.in-Ok.ensures.desk c.in-Ok.ensures.ok in
    let n : ℕ = number c.args.caller.now in
    let e = c.enter-position.result.1 in
    let d2 = c.enter-position.new.desk in
    let k = entered_at g.L.Library.holdings (ground c.args.self.now c.args.caller.now) a log at x y b o is d1 r p c.value-3.result.now d2 c.number-number.result n e (c.value-3.ensures.now ∙ c.put_modules.ensures.same.2) c.number-number.ensures.value
    c.enter-position.ensures.desk c.enter-position.ensures.entry in
    let after = log ++ (n, e) ∷ [] in
    let same = c.commit-2.ensures.number ∙ (c.put_modules.ensures.pass.0 ∙ t.number_is) in
    let ends = c.commit-2.ensures.front ∙ (λ i. c.put_modules.ensures.pass.1 i ++ ((c.put_modules.ensures.pass.0 ∙ t.number_is) i, e) ∷ []) in
    let own = pass_same _ _ _ (ap (λ z. z.now) c.put_modules.ensures.same.1 ∙ c.turn-turn.ensures.same.1) c.commit-2.ensures.pass in
    let has = made_has g.L.Library.holdings (ground c.args.self.now c.args.caller.now) a log at x y b o is d1 r p d2 n e k c.requires.knows.some c.enter-position.result.0
    (position_at g.L.Library.holdings (ground c.args.self.now c.args.caller.now) a log at x y b o is d1 r p c.value-3.result.now c.enter-position.result.0 (c.value-3.ensures.now ∙ c.put_modules.ensures.same.2) c.enter-position.ensures.number) in
    let opened : Descriptor = record { number = c.enter-position.result.0; runner = c.new.result; pins = r.pins } in
    let has_runner = subst (λ (z : Recipe). HasOpened (ground c.args.self.now c.args.caller.now) after n c.enter-position.result.0 o.opening.modules r.pins.items z) (sym (ap (λ z. z.recipe) c.new.ensures)) has in
    owns_new c.args.self.now c.args.caller.now _ opened after o.opening.modules same ends has_runner

pub returns-clause-others : goal.returns-clause-others
returns-clause-others g c =
    let t = c.turn-turn.ensures.took in
    let log = hall.front c.turn-turn.result.pass.now in
    let a = c.turn-turn.result.value in
    let b = c.begin_heard.new.desk in
    let o = c.in-Begun.begun in
    let x = c.args.from in
    let y = c.args.to in
    let at : AtTurn g.L.Library.holdings (ground c.args.self.now c.args.caller.now) a log = record { told = t.told; legal = t.turn_of.legal; stands = t.stands } in
    let is = begun_at g.L.Library.holdings (ground c.args.self.now c.args.caller.now) a log at x y c.value.result.now b o c.value.ensures.now c.in-Begun.ensures.desk c.in-Begun.ensures.come in
    let d1 = c.prepare_heard.new.desk in
    let r = c.in-Ok.ready in
    let p = prepared_at g.L.Library.holdings (ground c.args.self.now c.args.caller.now) a log at x y b o is c.value-2.result.now d1 r c.value-2.ensures.now c.in-Ok.ensures.desk c.in-Ok.ensures.ok in
    let n : ℕ = number c.args.caller.now in
    let e = c.enter-position.result.1 in
    let d2 = c.enter-position.new.desk in
    let k = entered_at g.L.Library.holdings (ground c.args.self.now c.args.caller.now) a log at x y b o is d1 r p c.value-3.result.now d2 c.number-number.result n e (c.value-3.ensures.now ∙ c.put_modules.ensures.same.2) c.number-number.ensures.value
    c.enter-position.ensures.desk c.enter-position.ensures.entry in
    let after = log ++ (n, e) ∷ [] in
    let same = c.commit-2.ensures.number ∙ (c.put_modules.ensures.pass.0 ∙ t.number_is) in
    let ends = c.commit-2.ensures.front ∙ (λ i. c.put_modules.ensures.pass.1 i ++ ((c.put_modules.ensures.pass.0 ∙ t.number_is) i, e) ∷ []) in
    let own = pass_same _ _ _ (ap (λ z. z.now) c.put_modules.ensures.same.1 ∙ c.turn-turn.ensures.same.1) c.commit-2.ensures.pass in
    others_after c.args.self.now c.args.caller.now _ log ((n, e) ∷ []) c.requires.knows same t.turn_of.legal t.grows ends own.legal
    (made_closes g.L.Library.holdings (ground c.args.self.now c.args.caller.now) a log at x y b o is d1 r p d2 n e k)

pub begin_heard-requires-clause-graph : goal.begin_heard-requires-clause-graph
begin_heard-requires-clause-graph g c =
    let t = c.turn-turn.ensures.took in
    let log = hall.front c.turn-turn.result.pass.now in
    let a = c.turn-turn.result.value in
    let at : AtTurn g.L.Library.holdings (ground c.args.self.now c.args.caller.now) a log = record { told = t.told; legal = t.turn_of.legal; stands = t.stands } in
    graphs_at g.L.Library.holdings (ground c.args.self.now c.args.caller.now) a log at c.value.result.now c.value.ensures.now

pub begin_heard-requires-clause-text : goal.begin_heard-requires-clause-text
begin_heard-requires-clause-text g c =
    let t = c.turn-turn.ensures.took in
    let log = hall.front c.turn-turn.result.pass.now in
    let a = c.turn-turn.result.value in
    let at : AtTurn g.L.Library.holdings (ground c.args.self.now c.args.caller.now) a log = record { told = t.told; legal = t.turn_of.legal; stands = t.stands } in
    text_at g.L.Library.holdings (ground c.args.self.now c.args.caller.now) a log at c.value.result.now c.value.ensures.now

pub begin_heard-requires-clause-view : goal.begin_heard-requires-clause-view
begin_heard-requires-clause-view g c =
    let t = c.turn-turn.ensures.took in
    let log = hall.front c.turn-turn.result.pass.now in
    let a = c.turn-turn.result.value in
    let at : AtTurn g.L.Library.holdings (ground c.args.self.now c.args.caller.now) a log = record { told = t.told; legal = t.turn_of.legal; stands = t.stands } in
    hears_at g.L.Library.holdings (ground c.args.self.now c.args.caller.now) a log at (front c.args.caller.now) (number c.args.caller.now) c.value.result.now c.args.caller.now.view t.grows c.value.ensures.now c.requires.knows.view

pub returns-in-Lost-clause-steps : goal.returns-in-Lost-clause-steps
returns-in-Lost-clause-steps g c =
    let t = c.turn-turn.ensures.took in
    let log = hall.front c.turn-turn.result.pass.now in
    let a = c.turn-turn.result.value in
    let at : AtTurn g.L.Library.holdings (ground c.args.self.now c.args.caller.now) a log = record { told = t.told; legal = t.turn_of.legal; stands = t.stands } in
    let counts = counted_at g.L.Library.holdings (ground c.args.self.now c.args.caller.now) a log at c.args.from c.args.to c.value.result.now c.args.steps.now c.begin_heard.new.steps c.value.ensures.now c.begin_heard.ensures.steps in
    record { seen = log; grows = t.grows; point = inl c.leave.ensures.front; most = counts.most; none = counts.none }

pub returns-in-Refused-clause-steps : goal.returns-in-Refused-clause-steps
returns-in-Refused-clause-steps g c =
    let t = c.turn-turn.ensures.took in
    let log = hall.front c.turn-turn.result.pass.now in
    let a = c.turn-turn.result.value in
    let at : AtTurn g.L.Library.holdings (ground c.args.self.now c.args.caller.now) a log = record { told = t.told; legal = t.turn_of.legal; stands = t.stands } in
    let counts = counted_at g.L.Library.holdings (ground c.args.self.now c.args.caller.now) a log at c.args.from c.args.to c.value.result.now c.args.steps.now c.begin_heard.new.steps c.value.ensures.now c.begin_heard.ensures.steps in
    record { seen = log; grows = t.grows; point = inr (c.in-Refused.entry, c.commit.ensures.front ∙ ap (λ (m : ℕ). log ++ (m, c.in-Refused.entry) ∷ []) t.number_is); most = counts.most; none = counts.none }

pub returns-in_default-clause-steps : goal.returns-in_default-clause-steps
returns-in_default-clause-steps g c =
    let t = c.turn-turn.ensures.took in
    let log = hall.front c.turn-turn.result.pass.now in
    let a = c.turn-turn.result.value in
    let at : AtTurn g.L.Library.holdings (ground c.args.self.now c.args.caller.now) a log = record { told = t.told; legal = t.turn_of.legal; stands = t.stands } in
    let counts = counted_at g.L.Library.holdings (ground c.args.self.now c.args.caller.now) a log at c.args.from c.args.to c.value.result.now c.args.steps.now c.begin_heard.new.steps c.value.ensures.now c.begin_heard.ensures.steps in
    record { seen = log; grows = t.grows; point = inl c.leave-in_default.ensures.front; most = counts.most; none = counts.none }

pub returns-clause-steps : goal.returns-clause-steps
returns-clause-steps g c =
    let t = c.turn-turn.ensures.took in
    let log = hall.front c.turn-turn.result.pass.now in
    let a = c.turn-turn.result.value in
    let at : AtTurn g.L.Library.holdings (ground c.args.self.now c.args.caller.now) a log = record { told = t.told; legal = t.turn_of.legal; stands = t.stands } in
    let counts = counted_at g.L.Library.holdings (ground c.args.self.now c.args.caller.now) a log at c.args.from c.args.to c.value.result.now c.args.steps.now c.begin_heard.new.steps c.value.ensures.now c.begin_heard.ensures.steps in
    record { seen = log; grows = t.grows; point = inr (c.enter-position.result.1, c.commit-2.ensures.front ∙ (λ i. c.put_modules.ensures.pass.1 i ++ ((c.put_modules.ensures.pass.0 ∙ t.number_is) i, c.enter-position.result.1) ∷ [])); most = counts.most; none = counts.none }
