-- What a closing does to what its caller knows and owns.
use Rattle.std.proofs.Common.{◌≡◌, ◌≢◌, ◌⊎◌, ℕ, ◌+◌, ◌<◌, eqb, Bool, true, false, ◌||◌, List, [], ◌∷◌, ◌++◌, length, map, Some, sym, refl, ap, ◌∙◌, subst, arith, true≢false, ne_eqb, string_bytes}
use mathlib.Core.Logic.{dite}
use native.Mathlib.Decide.{ℕ_discrete}
use Rattle.std.specs.List.{AllByRecursion}
use Rattle.chain_steps.specs.Chains.{CanRun}
use Rattle.derivation_cache.specs.Known.{Known, Extends}
use Rattle.history_core.specs.History.{History, EachNumber, Grows}
use Rattle.history_core.specs.Rule.{last_fill}
use Rattle.history_core.specs.Tokens.{IsPassOf}
use Rattle.history_core.specs.declared.story.Story.{Ghosts}
use Rattle.history_core.specs.declared.tokens.Hall.{Hall}
use Rattle.history_core.specs.declared.tokens.Pass.{Pass}
use Rattle.module_graph.specs.Graph.{Shape}
use Rattle.outside.specs.Faults.{RoseBy}
use Rattle.outside.specs.Moments.{Holdings}
use Rattle.runtime_histories.specs.declared.entries.Entry.{Entry}
use Rattle.runtime_histories.specs.Deeds.{act, closes, Deeds, Desc, openings, closed, names, desc_at, IsIn, IsLive}
use Rattle.runtime_histories.specs.Entries.{deed_of, deeds}
use Rattle.runtime_histories.specs.Fetches.{Asks}
use Rattle.runtime_histories.specs.Legal.{Legal, LegalFrom, Next}
use Rattle.runtime_histories.specs.PinLaw.{NoneOf}
use Rattle.runtime_histories.specs.Pins.{live_of}
use Rattle.runtime_histories.specs.Places.{places}
use Rattle.runtime_histories.proofs.Basics.{closed-append}
use Rattle.runtime_histories.proofs.Legality.{LegalFrom-append, sound_legal}
use Rattle.page_store.specs.Holdings.{Holding}
use Rattle.runtime_room.specs.Apart.{all_split}
use Rattle.runtime_room.specs.Desks.{IsDeskOf, IsLaidOut, ground_of, blame, blamed_in}
use Rattle.runtime_room.specs.Grounds.{Ground}
use Rattle.runtime_room.specs.Held.{entries-append}
use Rattle.runtime_room.specs.Published.{pair_in, published}
use Rattle.runtime_room.specs.Rooms.{IsHistory, IsOwn, LoadsPoints, entries_of, deeds_of, pinned}
use Rattle.runtime_room.specs.declared.desk.Desk.{Desk}
use Rattle.runtime_room.specs.declared.desk.Noted.{Noted}
use Rattle.runtime_room.specs.declared.story.Room.{Room}
use Rattle.runtime_room.proofs.Acts.{entries-snoc, deeds_of-snoc, history_next, covered_entry, LoadsNone, laid_out_next, blame-snoc}
use Rattle.runtime_room.proofs.Asking.{asked_as, asked_next, asked_nothing}
use Rattle.runtime_room.proofs.Covering.{DeedPut}
use Rattle.runtime_room.proofs.Publishing.{published_extends, published_still}
use Rattle.gconv_runtime.specs.Entries.{IsClosing, ClosesOn}
use Rattle.desk_openings.specs.Parts.{ArePinsOf}
use Rattle.gconv_runtime.specs.Owning.{Owns, tables_by}
use Rattle.gconv_runtime.specs.Tokens.{number, front, ground}
use Rattle.gconv_runtime.specs.declared.tokens.Gconv.{Gconv}
use Rattle.gconv_runtime.specs.declared.tokens.Caller.{Caller}
use Rattle.gconv_runtime.specs.declared.tokens.Descriptor.{Descriptor}
use Rattle.gconv_runtime.proofs.Keeping.{open_live, live_all, live_less, Kept, kept_open, at_number, found_open, same_parts, same_there}

none_of : (n : ℕ) (rest : History Noted) → AllByRecursion IsOwn rest → EachNumber (λ m. m ≢ n) rest → NoneOf n (entries_of rest)
none_of n [] own others = tt
none_of n (e ∷ es) own others = ((λ z. others.0 (sym own.0 ∙ z)), none_of n es own.1 others.1)

-- A history that is legal, cut in two.
record Halves (gr : Ground) (log rest : History Noted) : Type 0 where
  pub before : Legal gr.setting (entries_of log)
  pub behind : LegalFrom gr.setting (entries_of log) (entries_of rest)
  pub all : Legal gr.setting (entries_of log ++ entries_of rest)
  pub own : AllByRecursion IsOwn rest

halves : (gr : Ground) (log rest : History Noted) → IsHistory gr (log ++ rest) → Halves gr log rest
halves gr log rest h =
    let all = subst (Legal gr.setting) (entries-append log rest) h.legal in
    let l = LegalFrom-append gr.setting [] (entries_of log) (entries_of rest) all in
    record { before = l.0; behind = l.1; all = all; own = (all_split IsOwn log rest h.own).1 }

deeds_more : (log rest : History Noted) → deeds_of (log ++ rest) ≡ deeds (entries_of log ++ entries_of rest)
deeds_more log rest = ap deeds (entries-append log rest)

-- The live descriptors of a caller are the same while others act.
pub live_later : (gr : Ground) (n : ℕ) (log seen : History Noted) → IsHistory gr seen → Grows n log seen → live_of n (deeds_of seen) ≡ live_of n (deeds_of log)
live_later gr n log seen h grows =
    let rest : History Noted = grows.0 in
    let x = halves gr log rest (subst (IsHistory gr) grows.1 h) in
    ap (λ (z : History Noted). live_of n (deeds_of z)) grows.1
    ∙ (ap (live_of n) (deeds_more log rest)
    ∙ live_all gr.setting (entries_of log) (entries_of rest) n (sound_legal gr.setting (entries_of log) x.before) x.behind (none_of n rest x.own grows.2))

-- A live descriptor stays through what doesn't close it.
pub kept_later : (gr : Ground) (n number : ℕ) (log rest : History Noted) (d : Desc) → 0 < n → IsHistory gr (log ++ rest) → IsIn d (live_of n (deeds_of log)) → desc_at number (openings 0 (deeds_of log)) ≡ Some d
    → closed number (deeds_of (log ++ rest)) ≡ false → Kept gr.setting.pages n number (deeds_of log) (deeds_of (log ++ rest)) d
kept_later gr n number log rest d some h live found e =
    let x = halves gr log rest h in
    subst (λ (z : Deeds). Kept gr.setting.pages n number (deeds_of log) z d) (sym (deeds_more log rest))
    (kept_open gr.setting (entries_of log) (entries_of rest) n number d some x.all live found (ap (closed number) (sym (deeds_more log rest)) ∙ e))

module _ {S V E T : Type 0} {g : Ghosts S V E T} where
  -- A pass of a hall is one of the same hall.
  pub pass_same : (h k : Hall S V E T) (pass : Pass S V E T g) → h ≡ k → IsPassOf h pass → IsPassOf k pass
  pass_same h k pass e own = subst (λ (z : Hall S V E T). IsPassOf z pass) e own

module _ {L : Type 0} {g : Ghosts (Room L) (Desk L) Noted Ground} where
  -- A descriptor stays owned through all entries under which it stays live.
  pub owns_kept : (gconv : Gconv L) (before after : Caller L (Desk L) Noted Ground g) (d : Descriptor) (rest : History Noted) → number after ≡ number before → 0 < number before
      → front after ≡ front before ++ rest → IsHistory (ground gconv before) (front after) → closed d.number (deeds_of (front after)) ≡ false → Owns gconv before d → Owns gconv after d
  owns_kept gconv before after d rest same some ends legal unclosed o =
      let pages : ℕ = (ground gconv before).setting.pages in
      let k : Kept pages (number before) d.number (deeds_of (front before)) (deeds_of (front after)) o.desc = subst (λ (z : History Noted). Kept pages (number before) d.number (deeds_of (front before)) (deeds_of z) o.desc) (sym ends)
      (kept_later (ground gconv before) (number before) d.number (front before) rest o.desc some (subst (IsHistory (ground gconv before)) ends legal) o.live o.found (ap (λ (z : History Noted). closed d.number (deeds_of z)) (sym ends) ∙ unclosed)) in
      let parts = same_parts (places pages (deeds_of (front before))) (places pages (deeds_of (front after))) o.desc.modules k.same in
      record {
        desc = o.desc;
        live = subst (λ (n : ℕ). IsIn o.desc (live_of n (deeds_of (front after)))) (sym same) k.live;
        found = k.found;
        there = same_there (places pages (deeds_of (front before))) (places pages (deeds_of (front after))) o.desc.modules k.same o.there;
        pins = subst (λ hs. ArePinsOf hs d.pins.items) (sym parts) o.pins;
        range = subst (λ ts. CanRun ts d.runner.recipe)
            (ap (tables_by (places pages (deeds_of (front before)))) o.found ∙ (ap (map (λ (h : Holding). h.table)) (sym parts) ∙ sym (ap (tables_by (places pages (deeds_of (front after)))) k.found))) o.range;
      }

eqb_is : (x k : ℕ) → eqb x k ≡ true → x ≡ k
eqb_is x k e = dite (ℕ_discrete x k) (λ z. z) (λ ne. absurd (true≢false (sym e ∙ ne_eqb x k ne)))

-- A live descriptor of a caller is live for the books.
pub live_is : (n number : ℕ) (log : Deeds) (d : Desc) → IsIn d (live_of n log) → desc_at number (openings 0 log) ≡ Some d → IsLive log n number
live_is n number log d live found =
    let o = open_live n log d live in
    let is = at_number number (openings 0 log) d found in
    record { desc = d; there = o.there; number_is = is; caller_is = eqb_is d.caller n o.caller_is; unclosed = ap (λ (k : ℕ). closed k log) (sym is) ∙ o.unclosed }

-- A closing closes its own descriptor alone.
pub closed_after : (log : History Noted) (n j k : ℕ) (e : Noted) → IsClosing n j e → j ≢ k → closed k (deeds_of log) ≡ false → closed k (deeds_of (log ++ (n, e) ∷ [])) ≡ false
closed_after log n j k e is ne unclosed =
    ap (closed k) (deeds_of-snoc log n e)
    ∙ (closed-append k (deeds_of log) (act e.entry.value.caller (deed_of e.entry.value.event) ∷ [])
    ∙ (ap (λ (z : Bool). z || (names k (deed_of e.entry.value.event) || false)) unclosed
    ∙ (ap (λ (v : Entry). names k (deed_of v.event) || false) is ∙ ap (λ (z : Bool). z || false) (ne_eqb j k ne))))

-- After a closing its caller has one live descriptor less.
pub count_after : (log : History Noted) (n j : ℕ) (d : Desc) (e : Noted) → IsClosing n j e → IsIn d (live_of n (deeds_of log)) → desc_at j (openings 0 (deeds_of log)) ≡ Some d
    → length (live_of n (deeds_of log)) ≡ length (live_of n (deeds_of (log ++ (n, e) ∷ []))) + 1
count_after log n j d e is live found =
    live_less (deeds_of log) n d (open_live n (deeds_of log) d live)
    ∙ ap (λ (z : Deeds). length (live_of n z) + 1)
    (ap (λ (k : ℕ). deeds_of log ++ act n (closes k) ∷ []) (at_number j (openings 0 (deeds_of log)) d found)
    ∙ (ap (λ (v : Entry). deeds_of log ++ act v.caller (deed_of v.event) ∷ []) (sym is) ∙ sym (deeds_of-snoc log n e)))

-- A live descriptor is the same while others act.
pub record IsStill (n j : ℕ) (log : Deeds) (d : Desc) : Type 0 where
  pub live : IsIn d (live_of n log)
  pub found : desc_at j (openings 0 log) ≡ Some d

pub still_live : (gr : Ground) (n j : ℕ) (log seen : History Noted) (d : Desc) → IsHistory gr seen → Grows n log seen → IsIn d (live_of n (deeds_of log)) → desc_at j (openings 0 (deeds_of log)) ≡ Some d → IsStill n j (deeds_of seen) d
still_live gr n j log seen d h grows live found =
    let there = subst (IsIn d) (sym (live_later gr n log seen h grows)) live in
    record {
      live = there;
      found = ap (λ (k : ℕ). desc_at k (openings 0 (deeds_of seen))) (sym (at_number j (openings 0 (deeds_of log)) d found)) ∙ found_open n (deeds_of seen) d (open_live n (deeds_of seen) d there);
    }

loads_points : (n j : ℕ) (e : Noted) → IsClosing n j e → LoadsPoints (deed_of e.entry.value.event)
loads_points n j e is = subst (λ (v : Entry). LoadsPoints (deed_of v.event)) (sym is) tt

next_is : (gr : Ground) (log : History Noted) (n j : ℕ) (e : Noted) → IsLive (deeds_of log) n j → IsClosing n j e → Next gr.setting (entries_of log) e.entry.value
next_is gr log n j e live is = subst (Next gr.setting (entries_of log)) (sym is) live

-- A history with the closing of a live descriptor is one.
pub closing_legal : (gr : Ground) (log : History Noted) (n j : ℕ) (e : Noted) → IsHistory gr log → IsLive (deeds_of log) n j → IsClosing n j e → IsHistory gr (log ++ (n, e) ∷ [])
closing_legal gr log n j e h live is = history_next gr log n e h (next_is gr log n j e live is) (ap (λ (v : Entry). v.caller) is) (loads_points n j e is)

-- What is pinned after it was pinned before.
pub closing_covered : (gr : Ground) (log : History Noted) (n j : ℕ) (e : Noted) (fills : List (ℕ × ℕ)) → IsHistory gr log → IsLive (deeds_of log) n j → IsClosing n j e
    → (m p w : ℕ) → pinned gr (log ++ (n, e) ∷ []) m p ≡ Some w → ((k : ℕ) × (pinned gr log k p ≡ Some w)) ⊎ (last_fill p fills ≡ Some w)
closing_covered gr log n j e fills h live is = covered_entry gr log n e fills h (next_is gr log n j e live is) (loads_points n j e is)
    (subst (λ (v : Entry). DeedPut gr.setting.pages (places gr.setting.pages (deeds_of log)) fills (deed_of v.event)) (sym is) tt)

-- A closing publishes nothing.
pub closing_published : (graph : Shape) (log : History Noted) (n j : ℕ) (e : Noted) → IsClosing n j e → published graph (log ++ (n, e) ∷ []) ≡ published graph log
closing_published graph log n j e is = published_still graph log n e (ap (λ (v : Entry). pair_in v.event) is)

-- What is published later begins with what a view has learnt.
pub extends_later : (graph : Shape) (front log : History Noted) (n : ℕ) (now view : Known) → Grows n front log → now ≡ published graph log → view ≡ published graph front → Extends now view
extends_later graph front log n now view grows e is =
    subst (λ (k : Known). Extends k view) (sym (e ∙ ap (published graph) grows.1))
    (subst (λ (k : Known). Extends (published graph (front ++ grows.0)) k) (sym is) (published_extends graph front grows.0))

-- The desk stands for it.
pub closing_stands : {L : Type 0} (holdings : L → Holdings) (old new : Desk L) (log : History Noted) (n j : ℕ) (e : Noted) → IsDeskOf holdings old log → ClosesOn old new e → IsClosing n j e
    → IsDeskOf holdings new (log ++ (n, e) ∷ [])
closing_stands holdings old new log n j e s k is =
    let pages : ℕ = old.counts.pages in
    let none : LoadsNone pages (deed_of e.entry.value.event) = subst (λ (v : Entry). LoadsNone pages (deed_of v.event)) (sym is) (λ held. refl) in
    let all = laid_out_next pages old.layouts.items log n e none s.layouts in
    let same : blame (entries_of (log ++ (n, e) ∷ [])) ≡ blame (entries_of log) = ap blame (entries-snoc log n e) ∙ (blame-snoc (entries_of log) e.entry.value
    ∙ (ap (λ (v : Entry). blame (entries_of log) + blamed_in v.event) is ∙ none_more (blame (entries_of log)))) in
    record {
      journal = k.journal ∙ (ap (λ (z : List Entry). z ++ e.entry.value ∷ []) s.journal ∙ sym (entries-snoc log n e));
      graph = k.books.0 ∙ (s.graph ∙ sym k.graph);
      layouts = subst (λ (p : ℕ). AllByRecursion (IsLaidOut new.layouts.items) (places p (deeds_of (log ++ (n, e) ∷ [])))) (sym k.books.1)
          (subst (λ v. AllByRecursion (IsLaidOut v.items) (places pages (deeds_of (log ++ (n, e) ∷ [])))) (sym k.layouts) all);
      cache = k.cache ∙ (s.cache ∙ (ap (λ (z : Shape). published z log) (sym k.graph) ∙ sym (closing_published new.graph log n j e is)));
      asked = asked_as (ground_of holdings old).setting (ground_of holdings new).setting (entries_of log ++ e.entry.value ∷ []) (entries_of (log ++ (n, e) ∷ []))
          (holdings old.first.value) (holdings old.library) (holdings new.first.value) (holdings new.library)
          (λ i. record {
            first = record { graph = sym k.graph i; aliases = ap (λ f. f.value) (sym k.aliases) i };
            source = record { directory = ap string_bytes (sym k.directory) i; texts = ap (λ l. (holdings l).told) (sym k.library) i };
            pages = sym k.books.1 i;
          })
          (sym (entries-snoc log n e)) (ap (λ f. holdings f.value) (sym k.first)) (ap holdings (sym k.library))
          (asked_next (ground_of holdings old).setting (entries_of log) e.entry.value (holdings old.first.value) (holdings old.library) (holdings old.library) [] s.asked
          (asked_nothing (holdings old.library))
          (subst (λ (v : Entry). Asks (ground_of holdings old).setting (entries_of log) v.event []) (sym is) refl));
      blamed = subst (λ (c : ℕ). RoseBy c (holdings new.first.value).faults (holdings new.library).faults) (sym same)
          (subst (λ v. RoseBy (blame (entries_of log)) (holdings v.value).faults (holdings new.library).faults) (sym k.first)
          (subst (λ l. RoseBy (blame (entries_of log)) (holdings old.first.value).faults (holdings l).faults) (sym k.library) s.blamed));
    }
  where
    none_more : (x : ℕ) → x + 0 ≡ x
    none_more x = omega arith
