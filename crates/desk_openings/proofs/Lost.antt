-- An opening that is refused, or is lost.
use Rattle.std.proofs.Common.{◌≡◌, ◌⊎◌, ℕ, ◌+◌, ◌≤◌, false, List, [], ◌∷◌, ◌++◌, Some, None, sym, refl, ap, ◌∙◌, subst, arith, string_bytes}
use Rattle.std.specs.List.{AllByRecursion}
use Rattle.std.specs.declared.vec.Vec.{Vec}
use Rattle.std.specs.declared.alloc.Global.{Global}
use Rattle.code_table.specs.declared.layout.Layout.{Layout}
use Rattle.module_graph.specs.Graph.{Shape}
use Rattle.history_core.specs.History.{History}
use Rattle.history_core.specs.Rule.{last_fill}
use Rattle.outside.specs.Faults.{RoseBy}
use Rattle.outside.specs.Moments.{Holdings}
use Rattle.runtime_histories.specs.declared.entries.Entry.{Entry}
use Rattle.runtime_histories.specs.declared.entries.Reply.TheVariants as replies
use Rattle.runtime_histories.specs.declared.refusals.Asked.{Asked}
use Rattle.runtime_histories.specs.declared.refusals.Refusal.{Refusal}
use Rattle.runtime_histories.specs.declared.refusals.Refusal.TheVariants.{BadName, NoConversion, LibraryFault, NoCharmap, BadCharmap, StoreFull, JournalFull, Memory}
use Rattle.runtime_histories.specs.Deeds.{act, rests, Deeds, closed}
use Rattle.runtime_histories.specs.Entries.{deeds, deed_of}
use Rattle.runtime_histories.specs.Fetches.{Asks, AsksFor}
use Rattle.runtime_histories.specs.Legal.{IsAnswered, Next, loaded_modules}
use Rattle.runtime_histories.specs.Pins.{live_of}
use Rattle.runtime_histories.specs.Places.{Placed, among, places}
use Rattle.runtime_histories.specs.Settings.{Setting}
use Rattle.pair_openings.specs.Entered.{Stays, entry_of}
use Rattle.pair_openings.specs.Plans.{IsBlamed}
use Rattle.pair_openings.specs.declared.begun.Begun.{Begun}
use Rattle.conversion_book.proofs.Booking.{deed_rests}
use Rattle.runtime_room.specs.Desks.{IsDeskOf, IsLaidOut, HasAsked, blame, blames, blamed_in}
use Rattle.runtime_room.specs.Grounds.{Ground}
use Rattle.runtime_room.specs.Published.{pair_in, published}
use Rattle.runtime_room.specs.Rooms.{IsHistory, LoadsPoints, entries_of, deeds_of, pinned}
use Rattle.runtime_room.specs.declared.desk.Desk.{Desk}
use Rattle.runtime_room.specs.declared.desk.Noted.{Noted}
use Rattle.runtime_room.proofs.Acts.{entries-snoc, deeds_of-snoc, history_next, covered_entry, LoadsNone, laid_out_next, blame-snoc}
use Rattle.runtime_room.proofs.Asking.{asked_as, asked_next}
use Rattle.runtime_room.proofs.Covering.{DeedPut}
use Rattle.runtime_room.proofs.Publishing.{published_still}
use Rattle.desk_openings.specs.Beginnings.{KeepsDesk, IsLost, IsRefusal}
use Rattle.desk_openings.specs.Preparing.{loads_of, LaysOut}
use Rattle.desk_openings.proofs.Answered.{ground_at, IsBegun, are_absent}
use Rattle.desk_openings.proofs.Asked.{asked_all, asked_in_vain, begun_asks}
use Rattle.desk_openings.proofs.Entered.{rose_more, laid_kept}
use Rattle.desk_openings.proofs.LiveOnes.{closed_same, live_rested}

-- A desk stands for a legal history, and an opening was refused over it.
pub record IsTurnedDown {L : Type 0} (holdings : L → Holdings) (a b : Desk L) (log : History Noted) (from to : Asked) (why : Refusal) (n : ℕ) (e : Noted) : Type 0 where
  pub legal : IsHistory (ground_at holdings a) log
  pub stands : IsDeskOf holdings a log
  pub keeps : KeepsDesk holdings a b
  pub refusal : IsRefusal holdings a b n from to why e

-- A refusal blames the library at most as often as it failed.
blamed_more : (n old : ℕ) (x y : Holdings) (why : Refusal) → x.faults ≤ y.faults → IsBlamed why x y → RoseBy n old x.faults → RoseBy (n + blames why) old y.faults
blamed_more n old x y (LibraryFault m w) le blamed h = omega (arith, le, blamed, h)
blamed_more n old x y (BadName which f) le blamed h = omega (arith, le, h)
blamed_more n old x y NoConversion le blamed h = omega (arith, le, h)
blamed_more n old x y (NoCharmap m w) le blamed h = omega (arith, le, h)
blamed_more n old x y (BadCharmap m w f) le blamed h = omega (arith, le, h)
blamed_more n old x y (StoreFull k l) le blamed h = omega (arith, le, h)
blamed_more n old x y (JournalFull k) le blamed h = omega (arith, le, h)
blamed_more n old x y Memory le blamed h = omega (arith, le, h)

module _ {L : Type 0} (holdings : L → Holdings) (a b : Desk L) (log : History Noted) (from to : Asked) (why : Refusal) (n : ℕ) (e : Noted)
    (is : IsTurnedDown holdings a b log from to why n e) where
  abbrev s : Setting
  s = (ground_at holdings a).setting

  abbrev after : History Noted
  after = log ++ (n, e) ∷ []

  deed : deed_of e.entry.value.event ≡ rests
  deed = ap (λ (v : Entry). deed_of v.event) is.refusal.entry ∙ deed_rests from to why

  caller_is : e.entry.value.caller ≡ n
  caller_is = ap (λ (v : Entry). v.caller) is.refusal.entry

  -- The refusal is legal next.
  pub refusal_answered : IsAnswered s s.first.graph (deeds_of log) from to (replies.Refused why)
  refusal_answered = subst (λ (z : Deeds). IsAnswered s a.graph z from to (replies.Refused why)) (ap deeds is.stands.journal)
      (subst (λ (g : Shape). IsAnswered s g (deeds a.counts.journal) from to (replies.Refused why)) is.stands.graph
      ((is.refusal.leaves.replies.legal s (record { pages_is = refl; source_is = refl })).0))

  next_is : Next s (entries_of log) e.entry.value
  next_is = subst (Next s (entries_of log)) (sym is.refusal.entry) refusal_answered

  points_is : LoadsPoints (deed_of e.entry.value.event)
  points_is = subst LoadsPoints (sym deed) tt

  deeds_after : deeds_of after ≡ deeds_of log ++ act n rests ∷ []
  deeds_after = deeds_of-snoc log n e ∙ (λ i. deeds_of log ++ act (caller_is i) (deed i) ∷ [])

  -- The history with its entry is one.
  pub refusal_legal : IsHistory (ground_at holdings a) after
  refusal_legal = history_next (ground_at holdings a) log n e is.legal next_is caller_is points_is

  -- What is pinned after it was pinned before.
  pub refusal_covered : (fills : List (ℕ × ℕ)) → (m p w : ℕ) → pinned (ground_at holdings a) after m p ≡ Some w → ((k : ℕ) × (pinned (ground_at holdings a) log k p ≡ Some w)) ⊎ (last_fill p fills ≡ Some w)
  refusal_covered fills = covered_entry (ground_at holdings a) log n e fills is.legal next_is points_is (subst (DeedPut a.counts.pages (places a.counts.pages (deeds_of log)) fills) (sym deed) tt)

  -- It stands on what it stood on.
  pub refusal_ground : ground_at holdings b ≡ ground_at holdings a
  refusal_ground = λ i. record {
    setting = record {
      first = record { graph = is.keeps.graph i; aliases = ap (λ f. f.value) is.keeps.aliases i };
      source = record { directory = ap string_bytes is.keeps.directory i; texts = is.keeps.told i };
      pages = is.refusal.leaves.enters.pages i;
    };
    limit = is.refusal.leaves.enters.limit i;
    handed = ap (λ f. holdings f.value) is.keeps.first i;
  }

  -- The library was asked for what the refusal asks for.
  asks_is : Asks s (entries_of log) e.entry.value.event is.refusal.leaves.replies.more
  asks_is =
      let more : List (List ℕ) = is.refusal.leaves.replies.more in
      subst (λ (v : Entry). Asks s (entries_of log) v.event more) (sym is.refusal.entry)
      (subst (λ (z : Deeds). AsksFor s a.graph z from to (replies.Refused why) more) (ap deeds is.stands.journal)
      (subst (λ (g : Shape). AsksFor s g (deeds a.counts.journal) from to (replies.Refused why) more) is.stands.graph
      ((is.refusal.leaves.replies.legal s (record { pages_is = refl; source_is = refl })).1)))

  -- It opened nothing.
  none_opened : pair_in e.entry.value.event ≡ None
  none_opened = ap (λ (v : Entry). pair_in v.event) is.refusal.entry

  -- The desk stands for the history with its entry.
  pub refusal_stands : IsDeskOf holdings b after
  refusal_stands =
      let enters = is.refusal.leaves.enters in
      let none : LoadsNone a.counts.pages (deed_of e.entry.value.event) = subst (LoadsNone a.counts.pages) (sym deed) (λ held. refl) in
      let all = laid_out_next a.counts.pages a.layouts.items log n e none is.stands.layouts in
      let more : blame (entries_of after) ≡ blame (entries_of log) + blames why =
      ap blame (entries-snoc log n e) ∙ (blame-snoc (entries_of log) e.entry.value ∙ ap (λ (v : Entry). blame (entries_of log) + blamed_in v.event) is.refusal.entry) in
      record {
        journal = enters.journal ∙ (ap (λ (j : List Entry). j ++ entry_of n from to (replies.Refused why) ∷ []) is.stands.journal
            ∙ (ap (λ (v : Entry). entries_of log ++ v ∷ []) (sym is.refusal.entry) ∙ sym (entries-snoc log n e)));
        graph = enters.graph ∙ (is.stands.graph ∙ sym is.keeps.graph);
        layouts = subst (λ (p : ℕ). AllByRecursion (IsLaidOut b.layouts.items) (places p (deeds_of after))) (sym enters.pages)
            (subst (λ (v : Vec (Vec Layout Global) Global). AllByRecursion (IsLaidOut v.items) (places a.counts.pages (deeds_of after))) (sym is.keeps.layouts) all);
        cache = is.keeps.cache ∙ (is.stands.cache ∙ (ap (λ (g : Shape). published g log) (sym is.keeps.graph) ∙ sym (published_still b.graph log n e none_opened)));
        asked = asked_as s (ground_at holdings b).setting (entries_of log ++ e.entry.value ∷ []) (entries_of after) (holdings a.first.value) (holdings b.library) (holdings b.first.value) (holdings b.library)
            (ap (λ (g : Ground). g.setting) (sym refusal_ground)) (sym (entries-snoc log n e)) (ap (λ f. holdings f.value) (sym is.keeps.first)) refl
            (asked_next s (entries_of log) e.entry.value (holdings a.first.value) (holdings a.library) (holdings b.library) is.refusal.leaves.replies.more is.stands.asked is.refusal.leaves.replies.asked asks_is);
        blamed = subst (λ (k : ℕ). RoseBy k (holdings b.first.value).faults (holdings b.library).faults) (sym more)
            (subst (λ v. RoseBy (blame (entries_of log) + blames why) (holdings v.value).faults (holdings b.library).faults) (sym is.keeps.first)
            (blamed_more (blame (entries_of log)) (holdings a.first.value).faults (holdings a.library) (holdings b.library) why is.keeps.count is.refusal.blamed is.stands.blamed));
      }

  -- It closes nothing.
  pub refusal_closes : (k : ℕ) → closed k (deeds_of after) ≡ closed k (deeds_of log)
  refusal_closes k = ap (closed k) deeds_after ∙ closed_same (deeds_of log) (act n rests) k refl

  -- Its caller's live descriptors stay.
  pub refusal_live : live_of n (deeds_of after) ≡ live_of n (deeds_of log)
  refusal_live = ap (live_of n) deeds_after ∙ live_rested n n (deeds_of log)

module _ {L : Type 0} (holdings : L → Holdings) (a b : Desk L) (log : History Noted) (stands : IsDeskOf holdings a log) (keeps : KeepsDesk holdings a b) (stays : Stays a.counts b.counts) where
  pub lost_ground : ground_at holdings b ≡ ground_at holdings a
  lost_ground = λ i. record {
    setting = record {
      first = record { graph = keeps.graph i; aliases = ap (λ f. f.value) keeps.aliases i };
      source = record { directory = ap string_bytes keeps.directory i; texts = keeps.told i };
      pages = stays.pages i;
    };
    limit = stays.limit i;
    handed = ap (λ f. holdings f.value) keeps.first i;
  }

  -- A desk whose books stay stands for its history, where openings that gave up asked for the rest.
  lost_stands : HasAsked (ground_at holdings a).setting (entries_of log) (holdings a.first.value) (holdings b.library) → IsDeskOf holdings b log
  lost_stands asked = record {
    journal = stays.journal ∙ stands.journal;
    graph = stays.graph ∙ (stands.graph ∙ sym keeps.graph);
    layouts = subst (λ (p : ℕ). AllByRecursion (IsLaidOut b.layouts.items) (places p (deeds_of log))) (sym stays.pages)
        (subst (λ (v : Vec (Vec Layout Global) Global). AllByRecursion (IsLaidOut v.items) (places a.counts.pages (deeds_of log))) (sym keeps.layouts) stands.layouts);
    cache = keeps.cache ∙ (stands.cache ∙ ap (λ (g : Shape). published g log) (sym keeps.graph));
    asked = asked_as (ground_at holdings a).setting (ground_at holdings b).setting (entries_of log) (entries_of log) (holdings a.first.value) (holdings b.library) (holdings b.first.value) (holdings b.library)
        (ap (λ (g : Ground). g.setting) (sym lost_ground)) refl (ap (λ f. holdings f.value) (sym keeps.first)) refl asked;
    blamed = subst (λ v. RoseBy (blame (entries_of log)) (holdings v.value).faults (holdings b.library).faults) (sym keeps.first)
        (rose_more (blame (entries_of log)) (holdings a.first.value).faults (holdings a.library).faults (holdings b.library).faults keeps.count stands.blamed);
  }

  -- So does one over which an opening was lost.
  pub vain_stands : (from to : Asked) (why : Refusal) → IsLost (string_bytes a.directory) a.counts (holdings a.library) (holdings b.library) from to why → IsDeskOf holdings b log
  vain_stands from to why lost = lost_stands (asked_in_vain (ground_at holdings a).setting (string_bytes a.directory) a.counts (entries_of log) (holdings a.first.value) (holdings a.library) (holdings b.library) from to why
      stands.journal stands.graph refl refl stands.asked lost)

module _ {L : Type 0} (holdings : L → Holdings) (a b c : Desk L) (log : History Noted) (from to : Asked) (o : Begun) (is : IsBegun holdings a b log from to o)
    (laid : LaysOut b c (loaded_modules (loads_of o.opening))) where
  abbrev here : Setting
  here = (ground_at holdings a).setting

  asked_here : HasAsked here (entries_of log) (holdings a.first.value) (holdings b.library)
  asked_here = asked_all here (entries_of log) (holdings a.first.value) (holdings a.library) (holdings b.library) from to o.opening is.begun.answers.reply.more is.stands.asked is.begun.answers.reply.asked
      (begun_asks holdings a b log from to o is)

  begun_stands : IsDeskOf holdings b log
  begun_stands = lost_stands holdings a b log is.stands is.keeps is.begun.stays asked_here

  pub late_ground : ground_at holdings c ≡ ground_at holdings a
  late_ground = (λ i. record {
    setting = record {
      first = record { graph = laid.graph i; aliases = ap (λ f. f.value) laid.aliases i };
      source = record { directory = ap string_bytes laid.directory i; texts = ap (λ l. (holdings l).told) laid.library i };
      pages = ap (λ z. z.pages) laid.counts i;
    };
    limit = ap (λ z. z.limit) laid.counts i;
    handed = ap (λ f. holdings f.value) laid.first i;
  }) ∙ lost_ground holdings a b log is.stands is.keeps is.begun.stays

  -- So does one that was prepared in part, where nothing was published.
  pub late_stands : c.cache ≡ b.cache → IsDeskOf holdings c log
  late_stands same =
      let k = begun_stands in
      record {
        journal = ap (λ z. z.journal) laid.counts ∙ k.journal;
        graph = ap (λ z. z.graph) laid.counts ∙ (k.graph ∙ sym laid.graph);
        layouts = subst (λ z. AllByRecursion (IsLaidOut c.layouts.items) (places z.pages (deeds_of log))) (sym laid.counts)
            (laid_kept b.layouts.items c.layouts.items (loaded_modules (loads_of o.opening)) (places b.counts.pages (deeds_of log)) laid.layouts
            (subst (λ (p : ℕ). AllByRecursion (λ (x : Placed). among x.«module» (loaded_modules (loads_of o.opening)) ≡ false) (places p (deeds_of log))) (sym is.begun.stays.pages) (are_absent holdings a b log from to o is)) k.layouts);
        cache = same ∙ (k.cache ∙ ap (λ (g : Shape). published g log) (sym laid.graph));
        asked = asked_as here (ground_at holdings c).setting (entries_of log) (entries_of log) (holdings a.first.value) (holdings b.library) (holdings c.first.value) (holdings c.library)
            (ap (λ (g : Ground). g.setting) (sym late_ground)) refl (ap (λ f. holdings f.value) (sym (laid.first ∙ is.keeps.first))) (ap holdings (sym laid.library)) asked_here;
        blamed = subst (λ v. RoseBy (blame (entries_of log)) (holdings v.value).faults (holdings c.library).faults) (sym laid.first)
            (subst (λ l. RoseBy (blame (entries_of log)) (holdings b.first.value).faults (holdings l).faults) (sym laid.library) k.blamed);
      }
