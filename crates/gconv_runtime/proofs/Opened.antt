-- What an opening under a turn leaves its caller.
use Rattle.std.proofs.Common.{◌≡◌, ◌⊎◌, ℕ, suc, ◌+◌, ◌*◌, ◌<◌, ◌≤◌, ◌^◌, eqb, Bool, true, false, not, ◌&&◌, cond, List, [], ◌∷◌, ◌++◌, length, Option, Some, None, is_some, sym, refl, ap, ◌∙◌, subst, arith, append_assoc, length-append, true≢false, string_bytes}
use Rattle.std.specs.List.{filter, flat_map, AllByRecursion}
use Rattle.chain_recipes.specs.Recipes.{recipe_for}
use Rattle.chain_steps.specs.Chains.{CanRun}
use Rattle.code_pairs.specs.Tables.{Tables}
use Rattle.derivation_cache.specs.Known.{Known, Extends, pair_of}
use Rattle.module_graph.specs.Graph.{Shape}
use Rattle.history_core.specs.History.{History, Grows}
use Rattle.history_core.specs.Rule.{last_fill}
use Rattle.history_core.specs.Tokens as hall
use Rattle.history_core.specs.declared.story.Story.{Ghosts}
use Rattle.history_core.specs.declared.tokens.Hall.{Hall}
use Rattle.history_core.specs.declared.tokens.Pass.{Pass}
use Rattle.outside.specs.Moments.{Holdings}
use Rattle.runtime_histories.specs.declared.entries.Entry.{Entry}
use Rattle.runtime_histories.specs.declared.entries.Reply.TheVariants as replies
use Rattle.runtime_histories.specs.declared.refusals.Asked.{Asked}
use Rattle.runtime_histories.specs.declared.refusals.Asked.TheVariants.{Good, Bad}
use Rattle.runtime_histories.specs.declared.refusals.Refusal.{Refusal}
use Rattle.runtime_histories.specs.declared.refusals.Refusal.TheVariants.{BadName, NoConversion, LibraryFault, NoCharmap, BadCharmap, StoreFull, JournalFull, Memory}
use Rattle.runtime_histories.specs.Charmaps.{AreTablesOf, HasText}
use Rattle.runtime_histories.specs.Deeds.{Deed, opens, closes, rests, Deeds, Desc, opened, openings, closed, live, IsIn}
use Rattle.runtime_histories.specs.Entries.{deeds}
use Rattle.runtime_histories.specs.Legal.{IsAnswered, loaded_modules}
use Rattle.runtime_histories.specs.Pins.{live_of}
use Rattle.runtime_histories.specs.Places.{Placed, among, places}
use Rattle.runtime_histories.specs.Settings.{charmaps_at}
use Rattle.module_counts.specs.Counting as counting
use Rattle.module_counts.specs.Stocks.{Once, lists}
use Rattle.pair_openings.specs.Answers as answers
use Rattle.pair_openings.specs.Entered.{HasBegun, IsNextIn, entry_of}
use Rattle.pair_openings.specs.Knowing.{CountsSteps, IsLeastFor}
use Rattle.pair_openings.specs.declared.begun.Begun.{Begun}
use Rattle.runtime_room.specs.Apart.{Share}
use Rattle.runtime_room.specs.Desks.{IsDeskOf}
use Rattle.runtime_room.specs.Grounds.{Ground}
use Rattle.runtime_room.specs.Published.{pair_asked, pair_in, published}
use Rattle.runtime_room.specs.Puts.{IsPut, all_parts, Fit, joined, IsFreePage, CanPut}
use Rattle.runtime_room.specs.Rooms.{IsHistory, deeds_of, pinned}
use Rattle.runtime_room.specs.declared.desk.Desk.{Desk}
use Rattle.runtime_room.specs.declared.desk.Noted.{Noted}
use Rattle.runtime_room.specs.declared.story.Room.{Room}
use Rattle.runtime_room.proofs.Covering.{AreNew}
use Rattle.runtime_room.proofs.Publishing.{published_graph, published_opened, published_still}
use Rattle.desk_openings.specs.Beginnings.{has_entry, KeepsDesk, IsRefusal}
use Rattle.desk_openings.specs.Entering.{EntersOn}
use Rattle.desk_openings.specs.Parts.{parts_for, tables_for, AreThere, ArePinsOf}
use Rattle.desk_openings.specs.Preparing.{loads_of, CanPrepare, LaysOut, IsReady}
use Rattle.desk_openings.specs.declared.preparing.Ready.{Ready}
use Rattle.desk_openings.proofs.Answered.{ground_at, IsBegun, answered, can_prepare, can_publish}
use Rattle.desk_openings.proofs.Entered.{IsPrepared, IsEntered, HasOpened, has_opened, length-entries, opening_legal, opening_covered, opening_stands, opening_closes, opening_count, put_new, put_fit}
use Rattle.desk_openings.proofs.Lost.{IsTurnedDown, refusal_answered, refusal_legal, refusal_covered}
use Rattle.gconv_runtime.specs.Openings.{IsOpening, IsReply, HasRoom, LacksRoom, WasOpened, Denies, Refuses}
use Rattle.gconv_runtime.specs.Owning.{Owns, tables_by, desc_tables}
use Rattle.gconv_runtime.specs.Tokens.{Knows, number, front, ground}
use Rattle.gconv_runtime.specs.declared.tokens.Gconv.{Gconv}
use Rattle.gconv_runtime.specs.declared.tokens.Caller.{Caller}
use Rattle.gconv_runtime.specs.declared.tokens.Descriptor.{Descriptor}
use Rattle.gconv_runtime.proofs.Dismissing.{live_later, still_live, live_is, owns_kept, extends_later}

-- The desk of a turn stands for the history that was seen.
pub record AtTurn {L : Type 0} (holdings : L → Holdings) (gr : Ground) (a : Desk L) (log : History Noted) : Type 0 where
  pub told : ground_at holdings a ≡ gr
  pub legal : IsHistory gr log
  pub stands : IsDeskOf holdings a log

fewer : {A : Type 0} (p : A → Bool) (xs : List A) → length (filter p xs) ≤ length xs
fewer p [] = omega arith
fewer p (x ∷ xs) = go (p x) (fewer p xs)
  where
    go : (b : Bool) → length (filter p xs) ≤ length xs → length (cond b (x ∷ filter p xs) (filter p xs)) ≤ suc (length xs)
    go true h = omega arith
    go false h = omega arith

few_opened : (k c : ℕ) (v : Deed) → length (opened k c v) ≤ 1
few_opened k c (opens p ms l) = omega arith
few_opened k c (closes j) = omega arith
few_opened k c rests = omega arith

few_openings : (k : ℕ) (log : Deeds) → length (openings k log) ≤ length log
few_openings k [] = omega arith
few_openings k (e ∷ es) = let a = few_opened k e.caller e.deed in let b = few_openings (suc k) es in let n = length-append (opened k e.caller e.deed) (openings (suc k) es) in omega arith

-- A caller has at most as many live descriptors as there are entries.
pub few_live : (n : ℕ) (log : Deeds) → length (live_of n log) ≤ length log
few_live n log = let a = fewer (λ (d : Desc). eqb d.caller n && not (closed d.number log)) (openings 0 log) in let b = few_openings 0 log in omega arith

length-deeds_of : (log : History Noted) → length (deeds_of log) ≡ length log
length-deeds_of [] = refl
length-deeds_of (x ∷ xs) = ap suc (length-deeds_of xs)

some_counted : {T : Type 0} (edges old new : ℕ) (o : Option T) → CountsSteps edges o old new → new ≤ old + edges
some_counted edges old new None h = h
some_counted edges old new (Some p) h = omega (arith, h)

none_counted : {T : Type 0} (edges old new : ℕ) (o : Option T) → is_some o ≡ true → CountsSteps edges o old new → new ≡ old
none_counted edges old new None e h = absurd (true≢false (sym e))
none_counted edges old new (Some p) e h = h

-- At most one step was counted for each edge, and none where the pair was opened before.
pub record Counted (g : Shape) (log : History Noted) (from to : Asked) (old new : ℕ) : Type 0 where
  pub most : new ≤ old + length g.edges
  pub none : WasOpened from to log → new ≡ old

counted : (g : Shape) (log : History Noted) (from to : Asked) (old new : ℕ) → CountsSteps (length g.edges) (pair_asked (published g log) from to) old new → Counted g log from to old new
counted g log from to old new h = record { most = some_counted (length g.edges) old new (pair_asked (published g log) from to) h; none = go from to h }
  where
    go : (x y : Asked) → CountsSteps (length g.edges) (pair_asked (published g log) x y) old new → WasOpened x y log → new ≡ old
    go (Good x) (Good y) k opened = none_counted (length g.edges) old new (pair_of (published g log) x y) (published_opened g log x y ∙ opened) k
    go (Good x) (Bad f) k opened = absurd opened
    go (Bad f) y k opened = absurd opened

module _ {L : Type 0} (holdings : L → Holdings) (gr : Ground) (a : Desk L) (log : History Noted) (at : AtTurn holdings gr a log) where
  legal_here : IsHistory (ground_at holdings a) log
  legal_here = subst (λ (z : Ground). IsHistory z log) (sym at.told) at.legal

  journal_long : length a.counts.journal ≡ length log
  journal_long = ap length at.stands.journal ∙ length-entries log

  -- Where the books have room, so has the history.
  pub room_at : counting.HasRoom a.counts → HasRoom gr log
  room_at h = subst (λ (z : Ground). HasRoom z log) at.told
      (subst (λ (k : ℕ). k + length (live (deeds_of log)) + 2 ≤ a.counts.limit) (length-entries log)
      (subst (λ (j : List Entry). length j + length (live (deeds j)) + 2 ≤ a.counts.limit) at.stands.journal h))

  lacks_at : a.counts.limit < length a.counts.journal + length (live (deeds a.counts.journal)) + 2 → LacksRoom gr log
  lacks_at h = subst (λ (z : Ground). LacksRoom z log) at.told
      (subst (λ (k : ℕ). a.counts.limit < k + length (live (deeds_of log)) + 2) (length-entries log)
      (subst (λ (j : List Entry). a.counts.limit < length j + length (live (deeds j)) + 2) at.stands.journal h))

  graph_told : a.graph ≡ gr.setting.first.graph
  graph_told = ap (λ (z : Ground). z.setting.first.graph) at.told

  -- What is published at the turn is so after the history that was seen.
  pub published_at : (k : Known) → k ≡ a.cache → k ≡ published gr.setting.first.graph log
  published_at k e = e ∙ (at.stands.cache ∙ ap (λ (z : Shape). published z log) graph_told)

  -- A caller's view may learn it.
  pub hears_at : (front : History Noted) (n : ℕ) (v : Desk L) (view : Known) → Grows n front log → v ≡ a → view ≡ published gr.setting.first.graph front → Extends v.cache view
  hears_at front n v view grows e is = extends_later gr.setting.first.graph front log n v.cache view grows (published_at v.cache (ap (λ (z : Desk L). z.cache) e)) is

  -- The graphs of books and cache are the desk's.
  pub graphs_at : (v : Desk L) → v ≡ a → (v.counts.graph ≡ v.graph) × (v.cache.graph ≡ v.graph)
  graphs_at v e = subst (λ (z : Desk L). (z.counts.graph ≡ z.graph) × (z.cache.graph ≡ z.graph)) (sym e)
      (at.stands.graph, ap (λ (k : Known). k.graph) at.stands.cache ∙ published_graph a.graph log)

  pub text_at : (v : Desk L) → v ≡ a → HasText v.graph
  text_at v e = subst (λ (z : Desk L). HasText z.graph) (sym e) (subst HasText (sym graph_told) at.legal.ground.text)

  -- The steps that were counted at the turn.
  pub counted_at : (from to : Asked) (v : Desk L) (old new : ℕ) → v ≡ a → CountsSteps (length v.graph.edges) (pair_asked v.cache from to) old new → Counted gr.setting.first.graph log from to old new
  counted_at from to v old new e h = counted gr.setting.first.graph log from to old new
      (subst (λ (z : Shape). CountsSteps (length z.edges) (pair_asked (published gr.setting.first.graph log) from to) old new) graph_told
      (subst (λ (k : Known). CountsSteps (length a.graph.edges) (pair_asked k from to) old new) (published_at a.cache refl)
      (subst (λ (z : Desk L). CountsSteps (length z.graph.edges) (pair_asked z.cache from to) old new) e h)))

  -- There are few entries and few live descriptors.
  pub few_at : HasRoom gr log → length log + 2 ≤ 2 ^ 24
  few_at h = let l = at.legal.ground.limit in omega arith

  pub live_at : HasRoom gr log → (n : ℕ) → length (live_of n (deeds_of log)) + 1 < 2 ^ 32
  live_at h n = let f = few_at h in let k = few_live n (deeds_of log) in let z = length-deeds_of log in omega arith

  module _ (x y : Asked) where
    -- The opening was begun over the desk of the turn.
    pub begun_at : (v b : Desk L) (o : Begun) → v ≡ a → KeepsDesk holdings v b
        → HasBegun (string_bytes v.directory) v.counts b.counts (holdings v.library) (holdings b.library) x y o
        → IsBegun holdings a b log x y o
    begun_at v b o e keeps begun = record {
      legal = legal_here;
      stands = at.stands;
      keeps = subst (λ (z : Desk L). KeepsDesk holdings z b) e keeps;
      begun = subst (λ (z : Desk L). HasBegun (string_bytes z.directory) z.counts b.counts (holdings z.library) (holdings b.library) x y o) e begun;
    }

    -- It was refused over it.
    pub turned_at : (v b : Desk L) (why : Refusal) (m n : ℕ) (e : Noted) → v ≡ a → m ≡ n → KeepsDesk holdings v b → IsRefusal holdings v b m x y why e
        → IsTurnedDown holdings a b log x y why n e
    turned_at v b why m n e is same keeps refusal = record {
      legal = legal_here;
      stands = at.stands;
      keeps = subst (λ (z : Desk L). KeepsDesk holdings z b) is keeps;
      refusal = subst (λ (k : ℕ). IsRefusal holdings a b k x y why e) same
          (subst (λ (z : Desk L). IsRefusal holdings z b m x y why e) is refusal);
    }

    module _ (b : Desk L) (why : Refusal) (n : ℕ) (e : Noted) (is : IsTurnedDown holdings a b log x y why n e) where
      pub down_legal : IsHistory gr (log ++ (n, e) ∷ [])
      down_legal = subst (λ (z : Ground). IsHistory z (log ++ (n, e) ∷ [])) at.told (refusal_legal holdings a b log x y why n e is)

      pub down_covered : (fills : List (ℕ × ℕ)) → (m p w : ℕ) → pinned gr (log ++ (n, e) ∷ []) m p ≡ Some w → ((k : ℕ) × (pinned gr log k p ≡ Some w)) ⊎ (last_fill p fills ≡ Some w)
      down_covered fills = subst (λ (z : Ground). (m p w : ℕ) → pinned z (log ++ (n, e) ∷ []) m p ≡ Some w → ((k : ℕ) × (pinned z log k p ≡ Some w)) ⊎ (last_fill p fills ≡ Some w)) at.told
          (refusal_covered holdings a b log x y why n e is fills)

      pub down_reply : IsReply gr.setting log x y (replies.Refused why)
      down_reply = subst (λ (z : Ground). IsReply z.setting log x y (replies.Refused why)) at.told
          (refusal_answered holdings a b log x y why n e is)

      pub down_entry : IsOpening n x y (replies.Refused why) e
      down_entry = subst (λ (z : Ground). IsOpening n x y (replies.Refused why) e) at.told is.refusal.entry

      -- It publishes nothing.
      pub down_published : (k : Known) → k ≡ a.cache → k ≡ published gr.setting.first.graph (log ++ (n, e) ∷ [])
      down_published k same = published_at k same ∙ sym (published_still gr.setting.first.graph log n e (ap (λ (v : Entry). pair_in v.event) is.refusal.entry))

    module _ (b : Desk L) (o : Begun) (is : IsBegun holdings a b log x y o) where
      -- It can be prepared.
      pub can_at : (v : Desk L) → v ≡ b → CanPrepare v.graph v.counts.pages v.counts.journal v.layouts.items o.opening
      can_at v e = subst (λ (z : Desk L). CanPrepare z.graph z.counts.pages z.counts.journal z.layouts.items o.opening) (sym e) (can_prepare holdings a b log x y o is)

      -- Its chain can be published.
      pub least_at : (v : Desk L) → v ≡ b → IsLeastFor v.cache.graph o.from o.to o.opening.chain
      least_at v e = subst (λ (z : Desk L). IsLeastFor z.cache.graph o.from o.to o.opening.chain) (sym e) (can_publish holdings a b log x y o is)

      pub prepared_at : (v c : Desk L) (r : Ready) → v ≡ b → LaysOut v c (loaded_modules (loads_of o.opening)) → IsReady v c o r → IsPrepared holdings a b c log x y o r
      prepared_at v c r e laid ready = record {
        first = is;
        laid = subst (λ (z : Desk L). LaysOut z c (loaded_modules (loads_of o.opening))) e laid;
        ready = subst (λ (z : Desk L). IsReady z c o r) e ready;
      }

      module _ (c : Desk L) (r : Ready) (p : IsPrepared holdings a b c log x y o r) where
        next_books : IsNextIn c.counts x y (answers.reply_of o.opening)
        next_books = record {
          setting = (ground_at holdings a).setting;
          of = record {
            graph_is = sym (ap (λ k. k.graph) p.laid.counts ∙ (is.begun.stays.graph ∙ at.stands.graph));
            pages_is = sym (ap (λ k. k.pages) p.laid.counts ∙ is.begun.stays.pages);
          };
          answered = subst (λ (j : List Entry). IsAnswered (ground_at holdings a).setting a.graph (deeds j) x y (answers.reply_of o.opening))
              (sym (ap (λ k. k.journal) p.laid.counts ∙ (is.begun.stays.journal ∙ at.stands.journal))) (answered holdings a b log x y o is);
        }

        from_is : r.from ≡ x
        from_is = p.ready.from ∙ is.begun.names.0

        to_is : r.to ≡ y
        to_is = p.ready.to ∙ is.begun.names.1

        -- It is legal next in the books of the desk.
        pub next_at : (v : Desk L) → v ≡ c → IsNextIn v.counts r.from r.to (answers.reply_of r.opening)
        next_at v e = subst (λ (z : Desk L). IsNextIn z.counts r.from r.to (answers.reply_of r.opening)) (sym e)
            (subst (λ z. IsNextIn c.counts r.from r.to (answers.reply_of z)) (sym p.ready.opening)
            (subst (λ (z : Asked). IsNextIn c.counts z r.to (answers.reply_of o.opening)) (sym from_is)
            (subst (λ (z : Asked). IsNextIn c.counts x z (answers.reply_of o.opening)) (sym to_is) next_books)))

        -- It was entered.
        pub entered_at : (v d : Desk L) (m n : ℕ) (e : Noted) → v ≡ c → m ≡ n → EntersOn v d e → e.entry.value ≡ entry_of m r.from r.to (answers.reply_of r.opening)
            → IsEntered holdings a b c d log x y o r n e
        entered_at v d m n e is_c same enters entry = record {
          prepared = p;
          enters = subst (λ (z : Desk L). EntersOn z d e) is_c enters;
          entry = entry ∙ (λ i. entry_of (same i) (from_is i) (to_is i) (answers.reply_of (p.ready.opening i)));
        }

        -- Its position is the length of the history.
        pub position_at : (v : Desk L) (position : ℕ) → v ≡ c → position ≡ length v.counts.journal → position ≡ length log
        position_at v position e q = q ∙ (ap (λ (z : Desk L). length z.counts.journal) e ∙ (ap (λ k. length k.journal) p.laid.counts ∙ (ap length is.begun.stays.journal ∙ journal_long)))

        -- Its pages are free ones, as many as its tables need.
        pub new_at : AreNew gr.setting.pages (places gr.setting.pages (deeds_of log)) (joined (lists r.opening.places.items))
        new_at = subst (λ (z : Ground). AreNew z.setting.pages (places z.setting.pages (deeds_of log)) (joined (lists r.opening.places.items))) at.told
            (subst (λ z. AreNew a.counts.pages (places a.counts.pages (deeds_of log)) (joined (lists z.places.items))) (sym p.ready.opening)
            (put_new holdings a b c log x y o r p))

        pub fit_at : Fit r.opening.tables.items (lists r.opening.places.items)
        fit_at = subst (λ z. Fit z.tables.items (lists z.places.items)) (sym p.ready.opening) (put_fit holdings a b c log x y o r p)

        module _ (d : Desk L) (n : ℕ) (e : Noted) (k : IsEntered holdings a b c d log x y o r n e) where
          pub made_legal : (seen : History Noted) → seen ≡ log → IsHistory gr (seen ++ (n, e) ∷ [])
          made_legal seen same = subst (λ (z : History Noted). IsHistory gr (z ++ (n, e) ∷ [])) (sym same)
              (subst (λ (z : Ground). IsHistory z (log ++ (n, e) ∷ [])) at.told (opening_legal holdings a b c d log x y o r n e k))

          pub made_covered : (seen : History Noted) → seen ≡ log → (fills : List (ℕ × ℕ)) → AllByRecursion (IsPut fills) (all_parts r.opening.tables.items (lists r.opening.places.items))
              → (m p w : ℕ) → pinned gr (seen ++ (n, e) ∷ []) m p ≡ Some w → ((j : ℕ) × (pinned gr seen j p ≡ Some w)) ⊎ (last_fill p fills ≡ Some w)
          made_covered seen same fills put = subst (λ (s : History Noted). (m p w : ℕ) → pinned gr (s ++ (n, e) ∷ []) m p ≡ Some w → ((j : ℕ) × (pinned gr s j p ≡ Some w)) ⊎ (last_fill p fills ≡ Some w)) (sym same)
              (subst (λ (z : Ground). (m p w : ℕ) → pinned z (log ++ (n, e) ∷ []) m p ≡ Some w → ((j : ℕ) × (pinned z log j p ≡ Some w)) ⊎ (last_fill p fills ≡ Some w)) at.told
              (opening_covered holdings a b c d log x y o r n e k fills
              (subst (λ z. AllByRecursion (IsPut fills) (all_parts z.tables.items (lists z.places.items))) p.ready.opening put)))

          pub made_stands : (seen : History Noted) → seen ≡ log → IsDeskOf holdings d (seen ++ (n, e) ∷ [])
          made_stands seen same = subst (λ (z : History Noted). IsDeskOf holdings d (z ++ (n, e) ∷ [])) (sym same) (opening_stands holdings a b c d log x y o r n e k)

          -- What is published then was so when it was prepared.
          pub made_published : (m : Known) → m ≡ c.cache → m ≡ published gr.setting.first.graph (log ++ (n, e) ∷ [])
          made_published m same =
              let graph_is : d.graph ≡ gr.setting.first.graph = k.enters.graph ∙ (p.laid.graph ∙ (is.keeps.graph ∙ graph_told)) in
              same ∙ (sym k.enters.cache ∙ ((made_stands log refl).cache ∙ ap (λ (z : Shape). published z (log ++ (n, e) ∷ [])) graph_is))

          pub made_closes : (j : ℕ) → closed j (deeds_of (log ++ (n, e) ∷ [])) ≡ closed j (deeds_of log)
          made_closes = opening_closes holdings a b c d log x y o r n e k

          pub made_count : length (live_of n (deeds_of (log ++ (n, e) ∷ []))) ≡ length (live_of n (deeds_of log)) + 1
          made_count = opening_count holdings a b c d log x y o r n e k

          pub made_has : 0 < n → (position : ℕ) → position ≡ length log → HasOpened gr (log ++ (n, e) ∷ []) n position o.opening.modules r.pins.items r.recipe
          made_has some position is_long = subst (λ (z : Ground). HasOpened z (log ++ (n, e) ∷ []) n position o.opening.modules r.pins.items r.recipe) at.told
              (has_opened holdings a b c d log x y o r n e k some position is_long)

          pub made_reply : IsReply gr.setting log x y (answers.reply_of o.opening)
          made_reply = subst (λ (z : Ground). IsReply z.setting log x y (answers.reply_of o.opening)) at.told
              (answered holdings a b log x y o is)

          pub made_entry : IsOpening n x y (answers.reply_of o.opening) e
          made_entry = subst (λ (z : Ground). IsOpening n x y (answers.reply_of o.opening) e) at.told k.entry

          pub made_recipe : recipe_for gr.setting.first.graph o.opening.chain.ordinals ≡ Some r.recipe
          made_recipe = subst (λ (z : Ground). recipe_for z.setting.first.graph o.opening.chain.ordinals ≡ Some r.recipe) at.told
              (ap (λ (z : Shape). recipe_for z o.opening.chain.ordinals) (sym is.keeps.graph) ∙ p.ready.recipe)

module _ {S V E T : Type 0} {g : Ghosts S V E T} where
  -- New pages can be filled.
  pub can_fill : (h : Hall S V E T) (pass : Pass S V E T g) (pages : ℕ) (held new : List ℕ) → Once new → AllByRecursion (λ (k : ℕ). k < pages) new → Share new held → hall.words_of h ≡ 256 * pages
      → ((k place n : ℕ) → place < 256 → among k held ≡ false → g.pinned (hall.setting_of g.setting h) (hall.front pass) n (256 * k + place) ≡ None) → CanPut h pass new
  can_fill h pass pages held new once below free wide none = record { once = once; free = all new below free }
    where
      all : (ks : List ℕ) → AllByRecursion (λ (k : ℕ). k < pages) ks → Share ks held → AllByRecursion (IsFreePage h pass) ks
      all [] below free = tt
      all (k ∷ ks) below free = (record { inside = (let lt = below.0 in omega arith); free = λ place lt n. none k place n lt free.0 }, all ks below.1 free.1)

module _ {L : Type 0} {g : Ghosts (Room L) (Desk L) Noted Ground} where
  -- What a caller knows after a turn in which it added at most one entry.
  pub knows_after : (gconv : Gconv L) (before after : Caller L (Desk L) Noted Ground g) (log more : History Noted) (k : ℕ) → Knows gconv before → hall.IsPassOf gconv.hall after.pass
      → number after ≡ number before → IsHistory (ground gconv before) log → Grows (number before) (front before) log → front after ≡ log ++ more → after.live ≡ before.live + k
      → length (live_of (number before) (deeds_of (log ++ more))) ≡ length (live_of (number before) (deeds_of log)) + k
      → after.view ≡ published (ground gconv before).setting.first.graph (log ++ more) → after.told ≡ published (ground gconv before).setting.first.graph (log ++ more) → Knows gconv after
  knows_after gconv before after log more k knows own same legal grows ends live_is count view told =
      let later = live_later (ground gconv before) (number before) (front before) log legal grows in
      record {
        own = own;
        some = subst (λ (m : ℕ). 0 < m) (sym same) knows.some;
        count = live_is ∙ (ap (λ (j : ℕ). j + k) (knows.count ∙ sym (ap length later)) ∙ (sym count ∙ sym (λ i. length (live_of (same i) (deeds_of (ends i))))));
        room = knows.room;
        aliases = knows.aliases;
        view = view ∙ ap (published (ground gconv before).setting.first.graph) (sym ends);
        told = told ∙ ap (published (ground gconv before).setting.first.graph) (sym ends);
      }

  -- What it owned it owns, where nothing is closed.
  pub others_after : (gconv : Gconv L) (before after : Caller L (Desk L) Noted Ground g) (log more : History Noted) → Knows gconv before → number after ≡ number before
      → IsHistory (ground gconv before) log → Grows (number before) (front before) log → front after ≡ log ++ more → IsHistory (ground gconv before) (front after)
      → ((k : ℕ) → closed k (deeds_of (log ++ more)) ≡ closed k (deeds_of log)) → (d : Descriptor) → Owns gconv before d → Owns gconv after d
  others_after gconv before after log more knows same legal grows ends legal_after unclosing d owned =
      let rest = grows.0 in
      let s = still_live (ground gconv before) (number before) d.number (front before) log owned.desc legal grows owned.live owned.found in
      owns_kept gconv before after d (rest ++ more) same knows.some (ends ∙ (ap (λ (z : History Noted). z ++ more) grows.1 ∙ append_assoc (front before) rest more)) legal_after
      (ap (λ (z : History Noted). closed d.number (deeds_of z)) ends ∙ (unclosing d.number ∙ (live_is (number before) d.number (deeds_of log) owned.desc s.live s.found).unclosed)) owned

  -- What was opened is owned.
  pub owns_new : (gconv : Gconv L) (before after : Caller L (Desk L) Noted Ground g) (d : Descriptor) (log : History Noted) (modules : List ℕ) → number after ≡ number before → front after ≡ log
      → HasOpened (ground gconv before) log (number before) d.number modules d.pins.items d.runner.recipe → Owns gconv after d
  owns_new gconv before after d log modules same ends has =
      let h = subst (λ (z : History Noted). HasOpened (ground gconv before) z (number before) d.number modules d.pins.items d.runner.recipe) (sym ends) has in
      let held : List Placed = places (ground gconv before).setting.pages (deeds_of (front after)) in
      record {
        desc = h.desc;
        live = subst (λ (m : ℕ). IsIn h.desc (live_of m (deeds_of (front after)))) (sym same) h.live;
        found = h.found;
        there = subst (AreThere held) (sym h.modules_is) h.there;
        pins = subst (λ (ms : List ℕ). ArePinsOf (parts_for held ms) d.pins.items) (sym h.modules_is) h.pins;
        range = subst (λ (ts : Tables). CanRun ts d.runner.recipe) (ap (tables_for held) (sym h.modules_is) ∙ sym (ap (tables_by held) h.found)) h.range;
      }

  -- Its tables are those of its chain's charmaps.
  pub read_new : (gconv : Gconv L) (before : Caller L (Desk L) Noted Ground g) (d : Descriptor) (log seen : History Noted) (modules : List ℕ) → seen ≡ log
      → HasOpened (ground gconv before) log (number before) d.number modules d.pins.items d.runner.recipe
      → AreTablesOf (ground gconv before).setting.source (flat_map (charmaps_at (ground gconv before).setting.first.graph) modules) (desc_tables (ground gconv before).setting.pages (deeds_of seen) d.number)
  read_new gconv before d log seen modules ends has =
      let h = subst (λ (z : History Noted). HasOpened (ground gconv before) z (number before) d.number modules d.pins.items d.runner.recipe) (sym ends) has in
      let held : List Placed = places (ground gconv before).setting.pages (deeds_of seen) in
      subst (AreTablesOf (ground gconv before).setting.source (flat_map (charmaps_at (ground gconv before).setting.first.graph) modules))
      (ap (tables_for held) (sym h.modules_is) ∙ sym (ap (tables_by held) h.found)) h.read

  -- A refusal that was entered.
  pub as_denied : (gconv : Gconv L) (before after : Caller L (Desk L) Noted Ground g) (from to : Asked) (why : Refusal) → has_entry why ≡ true → Denies gconv before after from to why → Refuses gconv before after from to why
  as_denied gconv before after from to (BadName which f) known d = d
  as_denied gconv before after from to NoConversion known d = d
  as_denied gconv before after from to (LibraryFault m w) known d = d
  as_denied gconv before after from to (NoCharmap m w) known d = d
  as_denied gconv before after from to (BadCharmap m w f) known d = d
  as_denied gconv before after from to (StoreFull n l) known d = d
  as_denied gconv before after from to (JournalFull n) known d = absurd (true≢false (sym known))
  as_denied gconv before after from to Memory known d = absurd (true≢false (sym known))

  -- One that wasn't.
  pub as_lost : (holdings : L → Holdings) (gconv : Gconv L) (a : Desk L) (before after : Caller L (Desk L) Noted Ground g) (log : History Noted) (from to : Asked) (why : Refusal)
      → AtTurn holdings (ground gconv before) a log → front after ≡ log → Grows (number before) (front before) log → counting.RefusesRoom a.counts why → Refuses gconv before after from to why
  as_lost holdings gconv a before after log from to (BadName which f) at ends grows r = absurd r
  as_lost holdings gconv a before after log from to NoConversion at ends grows r = absurd r
  as_lost holdings gconv a before after log from to (LibraryFault m w) at ends grows r = absurd r
  as_lost holdings gconv a before after log from to (NoCharmap m w) at ends grows r = absurd r
  as_lost holdings gconv a before after log from to (BadCharmap m w f) at ends grows r = absurd r
  as_lost holdings gconv a before after log from to (StoreFull n l) at ends grows r = absurd r
  as_lost holdings gconv a before after log from to (JournalFull n) at ends grows r = (
    subst (Grows (number before) (front before)) (sym ends) grows,
    r.0 ∙ (journal_long holdings (ground gconv before) a log at ∙ ap length (sym ends)),
    subst (LacksRoom (ground gconv before)) (sym ends) (lacks_at holdings (ground gconv before) a log at r.1),
  )
  as_lost holdings gconv a before after log from to Memory at ends grows r =
      (subst (Grows (number before) (front before)) (sym ends) grows, subst (HasRoom (ground gconv before)) (sym ends) (room_at holdings (ground gconv before) a log at r))
