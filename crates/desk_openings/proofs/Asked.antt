-- What a library was asked for by openings that aren't entered yet, or are lost.
use Rattle.std.proofs.Common.{◌≡◌, ℕ, List, [], sym, refl, ap, subst, append-nil, ⊎_elim}
use Rattle.module_graph.specs.Graph.{Shape}
use Rattle.history_core.specs.History.{History}
use Rattle.outside.specs.Moments.{Holdings}
use Rattle.runtime_histories.specs.declared.entries.Entry.{Entry}
use Rattle.runtime_histories.specs.declared.refusals.Asked.{Asked}
use Rattle.runtime_histories.specs.declared.refusals.Asked.TheVariants.{Good, Bad}
use Rattle.runtime_histories.specs.declared.refusals.Refusal.{Refusal}
use Rattle.runtime_histories.specs.declared.refusals.Refusal.TheVariants.{BadName, NoConversion, LibraryFault, NoCharmap, BadCharmap, StoreFull, JournalFull, Memory}
use Rattle.runtime_histories.specs.Charmaps.{wanted}
use Rattle.runtime_histories.specs.Deeds.{Deeds}
use Rattle.runtime_histories.specs.Entries.{deeds}
use Rattle.runtime_histories.specs.Fetches.{AsksFor}
use Rattle.runtime_histories.specs.Settings.{Setting}
use Rattle.charmap_library.specs.Fetching.{source_of}
use Rattle.module_counts.specs.Counting.{Booked}
use Rattle.pair_openings.specs.Answers.{Loses, reply_of}
use Rattle.pair_openings.specs.Loading.{Ground}
use Rattle.pair_openings.specs.Plans as plans
use Rattle.pair_openings.specs.declared.begun.Begun.{Begun}
use Rattle.pair_openings.specs.declared.planning.Opening.{Opening}
use Rattle.runtime_room.specs.Desks.{HasAsked}
use Rattle.runtime_room.specs.Rooms.{deeds_of}
use Rattle.runtime_room.specs.declared.desk.Desk.{Desk}
use Rattle.runtime_room.specs.declared.desk.Noted.{Noted}
use Rattle.runtime_room.proofs.Asking.{asked_lost, asked_still}
use Rattle.desk_openings.specs.Beginnings.{IsLost}
use Rattle.desk_openings.proofs.Answered.{ground_at, IsBegun}

-- An opening that can be made asked for all that it asks for; it may still give up.
pub asked_all : (s : Setting) (es : List Entry) (a b c : Holdings) (from to : Asked) (o : Opening) (more : List (List ℕ)) → HasAsked s es a b → plans.Asked b c more
    → AsksFor s s.first.graph (deeds es) from to (reply_of o) more → HasAsked s es a c
asked_all s es a b c (Bad f) to o more h x k = asked_still s es a b c h (subst (plans.Asked b c) k x)
asked_all s es a b c (Good from) (Bad f) o more h x k = asked_still s es a b c h (subst (plans.Asked b c) k x)
asked_all s es a b c (Good from) (Good to) o more h x k = asked_lost s es a b c more h x (record {
  from = from;
  to = to;
  route = k.route;
  front = wanted s.first.graph k.route.absent;
  behind = [];
  whole = sym (append-nil (wanted s.first.graph k.route.absent));
  some = k.all;
})

-- What an opening stands on, after entries.
abbrev ground_in : Setting → List ℕ → List Entry → Ground
ground_in s directory es = record { directory = directory; graph = s.first.graph; pages = s.pages; log = deeds es }

asked_front : (s : Setting) (directory : List ℕ) (es : List Entry) (a b c : Holdings) (from to : Asked) → s.source ≡ source_of directory b → HasAsked s es a b → Loses (ground_in s directory es) b c from to → HasAsked s es a c
asked_front s d es a b c (Bad f) to e h l = asked_still s es a b c h l
asked_front s d es a b c (Good from) (Bad f) e h l = asked_still s es a b c h l
asked_front s d es a b c (Good from) (Good to) e h l =
    ⊎_elim (λ none. asked_still s es a b c h (subst (plans.Asked b c) none l.asked))
    (λ k. asked_lost s es a b c l.more h l.asked (record { from = from; to = to; route = k.0; front = k.1; behind = k.2; whole = k.3; some = k.4 }))
    (l.front s (record { pages_is = refl; source_is = e }))

-- An opening that left no entry asked for a front of what it asks for, or for nothing.
pub asked_in_vain : (s : Setting) (directory : List ℕ) (k : Booked) (es : List Entry) (a b c : Holdings) (from to : Asked) (why : Refusal) → k.journal ≡ es → k.graph ≡ s.first.graph → k.pages ≡ s.pages
    → s.source ≡ source_of directory b → HasAsked s es a b → IsLost directory k b c from to why → HasAsked s es a c
asked_in_vain s d k es a b c from to Memory j g p e h l =
    asked_front s d es a b c from to e h (subst (λ (z : Ground). Loses z b c from to) (λ i. record { directory = d; graph = g i; pages = p i; log = deeds (j i) }) l)
asked_in_vain s d k es a b c from to (BadName which f) j g p e h l = subst (HasAsked s es a) (sym l) h
asked_in_vain s d k es a b c from to NoConversion j g p e h l = subst (HasAsked s es a) (sym l) h
asked_in_vain s d k es a b c from to (LibraryFault m w) j g p e h l = subst (HasAsked s es a) (sym l) h
asked_in_vain s d k es a b c from to (NoCharmap m w) j g p e h l = subst (HasAsked s es a) (sym l) h
asked_in_vain s d k es a b c from to (BadCharmap m w f) j g p e h l = subst (HasAsked s es a) (sym l) h
asked_in_vain s d k es a b c from to (StoreFull n m) j g p e h l = subst (HasAsked s es a) (sym l) h
asked_in_vain s d k es a b c from to (JournalFull n) j g p e h l = subst (HasAsked s es a) (sym l) h

module _ {L : Type 0} (holdings : L → Holdings) (a b : Desk L) (log : History Noted) (from to : Asked) (o : Begun) (is : IsBegun holdings a b log from to o) where
  -- An opening that was begun asked for what its reply asks for.
  pub begun_asks : AsksFor (ground_at holdings a).setting a.graph (deeds_of log) from to (reply_of o.opening) is.begun.answers.reply.more
  begun_asks =
      let s : Setting = (ground_at holdings a).setting in
      let more : List (List ℕ) = is.begun.answers.reply.more in
      subst (λ (z : Deeds). AsksFor s a.graph z from to (reply_of o.opening) more) (ap deeds is.stands.journal)
      (subst (λ (g : Shape). AsksFor s g (deeds a.counts.journal) from to (reply_of o.opening) more) is.stands.graph
      ((is.begun.answers.reply.legal s (record { pages_is = refl; source_is = refl })).1))
