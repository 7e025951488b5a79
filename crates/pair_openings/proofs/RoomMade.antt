-- A pair is opened.
use Rattle.std.proofs.Common.{◌≡◌, ℕ, true, false, List, [], ◌∷◌, ◌++◌, refl, sym, ap, ◌∙◌, subst}
use Rattle.std.proofs.lemmas.Bool.{true≢false, false≢true}
use Rattle.names_alias.specs.Aliases.{AliasTable}
use Rattle.outside.specs.Moments.{Holdings}
use Rattle.runtime_histories.specs.declared.entries.Entry.{Entry}
use Rattle.runtime_histories.specs.declared.entries.Reply.{Reply}
use Rattle.runtime_histories.specs.declared.entries.Reply.TheVariants.{Opened, Refused}
use Rattle.runtime_histories.specs.declared.refusals.Asked.{Asked}
use Rattle.runtime_histories.specs.declared.refusals.Refusal.{Refusal}
use Rattle.runtime_histories.specs.declared.refusals.Refusal.TheVariants.{BadName, NoConversion, LibraryFault, NoCharmap, BadCharmap, StoreFull, JournalFull, Memory}
use Rattle.runtime_histories.specs.Entries.{deeds}
use Rattle.runtime_histories.specs.declared.refusals.Asked.TheVariants.{Good, Bad}
use Rattle.runtime_histories.specs.Deeds.{Deeds}
use Rattle.runtime_histories.specs.Legal.{IsAnswered}
use Rattle.module_graph.specs.Graph.{Shape}
use Rattle.runtime_histories.specs.Settings.{Setting}
use Rattle.module_counts.specs.Counting.{Booked, HasRoom, RefusesRoom}
use Rattle.charmap_library.specs.Fetching.{source_of}
use Rattle.pair_openings.specs.Answers.{Replies, Refuses, Loses}
use Rattle.pair_openings.specs.Entered.{Enters, IsNextIn, ground_of, Leaves, Stays, HasRefused, KeepsLimit, entry_of, is_want}
use Rattle.pair_openings.specs.Loading.{Ground}
use Rattle.pair_openings.proofs.Answering.{lost_early}

-- The setting of these books, under these aliases and with this library.
abbrev pub setting_for : AliasTable → List ℕ → Booked → Holdings → Setting
setting_for aliases directory c old = record {
  first = record { graph = c.graph; aliases = aliases };
  source = source_of directory old;
  pages = c.pages;
}

-- A reply is legal next in it.
pub next_in : (aliases : AliasTable) (d : List ℕ) (c : Booked) (old new : Holdings) (from to : Asked) (reply : Reply) → Replies (ground_of d c) old new from to reply → IsNextIn c from to reply
next_in aliases d c old new from to reply r = record {
  setting = setting_for aliases d c old;
  of = record { graph_is = refl; pages_is = refl };
  answered = (r.legal (setting_for aliases d c old) (record { pages_is = refl; source_is = refl })).0;
}

module _ (a m b : Booked) (s : Stays a m) where
  pub ground_same : (d : List ℕ) → ground_of d m ≡ ground_of d a
  ground_same d = λ i. record { directory = d; graph = s.graph i; pages = s.pages i; log = deeds (s.journal i) }

  -- What was entered after room was made.
  pub enters_after : (e : Entry) → Enters m b e → Enters a b e
  enters_after e h = record {
    journal = h.journal ∙ ap (λ (z : List Entry). z ++ e ∷ []) s.journal;
    graph = h.graph ∙ s.graph;
    pages = h.pages ∙ s.pages;
    limit = h.limit ∙ s.limit;
  }

  pub leaves_after : (d : List ℕ) (old new : Holdings) (caller : ℕ) (from to : Asked) (reply : Reply) → Replies (ground_of d m) old new from to reply → Enters m b (entry_of caller from to reply)
      → Leaves d a b old new caller from to reply
  leaves_after d old new caller from to reply r h = record {
    enters = enters_after (entry_of caller from to reply) h;
    replies = subst (λ (z : Ground). Replies z old new from to reply) (ground_same d) r;
  }

abbrev IsBad : Reply → Type 0
IsBad (Opened chain cost loads modules) = ⊥
IsBad (Refused (BadName which f)) = Unit {0}
IsBad (Refused _) = ⊥

-- No legal reply says that the journal is full.
never_full : (s : Setting) (g : Shape) (log : Deeds) (n : ℕ) (from to : Asked) → IsAnswered s g log from to (Refused (JournalFull n)) → ⊥
never_full s g log n (Good from) (Good to) h = h.2
never_full s g log n (Good from) (Bad f) h = subst IsBad (sym h.2) tt
never_full s g log n (Bad f) (Good to) h = subst IsBad (sym h.2) tt
never_full s g log n (Bad f) (Bad e) h = subst IsBad (sym h.2) tt

-- A refusal other than want of memory is legal next.
pub refusal_next : (aliases : AliasTable) (d : List ℕ) (c : Booked) (old new : Holdings) (from to : Asked) (why : Refusal) → is_want why ≡ false → Refuses (ground_of d c) old new from to why → IsNextIn c from to (Refused why)
refusal_next aliases d c old new from to (BadName which f) known h = next_in aliases d c old new from to (Refused (BadName which f)) h.0
refusal_next aliases d c old new from to NoConversion known h = next_in aliases d c old new from to (Refused NoConversion) h.0
refusal_next aliases d c old new from to (LibraryFault m w) known h = next_in aliases d c old new from to (Refused (LibraryFault m w)) h.0
refusal_next aliases d c old new from to (NoCharmap m w) known h = next_in aliases d c old new from to (Refused (NoCharmap m w)) h.0
refusal_next aliases d c old new from to (BadCharmap m w f) known h = next_in aliases d c old new from to (Refused (BadCharmap m w f)) h.0
refusal_next aliases d c old new from to (StoreFull n l) known h = next_in aliases d c old new from to (Refused (StoreFull n l)) h.0
refusal_next aliases d c old new from to (JournalFull n) known h = next_in aliases d c old new from to (Refused (JournalFull n)) h.0
refusal_next aliases d c old new from to Memory known h = absurd (true≢false known)

-- What such a refusal leaves, once it is entered.
pub refusal_left : (aliases : AliasTable) (a m b : Booked) → Stays a m → (d : List ℕ) (old new : Holdings) (caller : ℕ) (from to : Asked) (why : Refusal) → is_want why ≡ false → Refuses (ground_of d m) old new from to why
    → Enters m b (entry_of caller from to (Refused why)) → HasRefused d a b old new caller from to why
refusal_left aliases a m b s d old new caller from to (BadName which f) known h e = (leaves_after a m b s d old new caller from to (Refused (BadName which f)) h.0 e, h.1)
refusal_left aliases a m b s d old new caller from to NoConversion known h e = (leaves_after a m b s d old new caller from to (Refused NoConversion) h.0 e, h.1)
refusal_left aliases a m b s d old new caller from to (LibraryFault n w) known h e = (leaves_after a m b s d old new caller from to (Refused (LibraryFault n w)) h.0 e, h.1)
refusal_left aliases a m b s d old new caller from to (NoCharmap n w) known h e = (leaves_after a m b s d old new caller from to (Refused (NoCharmap n w)) h.0 e, h.1)
refusal_left aliases a m b s d old new caller from to (BadCharmap n w f) known h e = (leaves_after a m b s d old new caller from to (Refused (BadCharmap n w f)) h.0 e, h.1)
refusal_left aliases a m b s d old new caller from to (StoreFull n l) known h e = (leaves_after a m b s d old new caller from to (Refused (StoreFull n l)) h.0 e, h.1)
refusal_left aliases a m b s d old new caller from to (JournalFull n) known h e =
    absurd (never_full (setting_for aliases d m old) m.graph (deeds m.journal) n from to (h.0.legal (setting_for aliases d m old) (record { pages_is = refl; source_is = refl })).0)
refusal_left aliases a m b s d old new caller from to Memory known h e = absurd (true≢false known)

-- What want of memory leaves.
pub want_left : (a m : Booked) → Stays a m → (d : List ℕ) (old new : Holdings) (caller : ℕ) (from to : Asked) (why : Refusal) → is_want why ≡ true → Refuses (ground_of d m) old new from to why → HasRefused d a m old new caller from to why
want_left a m s d old new caller from to (BadName which f) known h = absurd (false≢true known)
want_left a m s d old new caller from to NoConversion known h = absurd (false≢true known)
want_left a m s d old new caller from to (LibraryFault n w) known h = absurd (false≢true known)
want_left a m s d old new caller from to (NoCharmap n w) known h = absurd (false≢true known)
want_left a m s d old new caller from to (BadCharmap n w f) known h = absurd (false≢true known)
want_left a m s d old new caller from to (StoreFull n l) known h = absurd (false≢true known)
want_left a m s d old new caller from to (JournalFull n) known h = absurd (false≢true known)
want_left a m s d old new caller from to Memory known h = (s, subst (λ (z : Ground). Loses z old new from to) (ground_same a m m s d) h)

-- Room was refused before anything was asked for.
pub room_refused : (a m : Booked) → Stays a m → (d : List ℕ) (h : Holdings) (caller : ℕ) (from to : Asked) (why : Refusal) → RefusesRoom a why → HasRefused d a m h h caller from to why
room_refused a m s d h caller from to (BadName which f) r = absurd r
room_refused a m s d h caller from to NoConversion r = absurd r
room_refused a m s d h caller from to (LibraryFault n w) r = absurd r
room_refused a m s d h caller from to (NoCharmap n w) r = absurd r
room_refused a m s d h caller from to (BadCharmap n w f) r = absurd r
room_refused a m s d h caller from to (StoreFull n l) r = absurd r
room_refused a m s d h caller from to (JournalFull n) r = (r, s, refl)
room_refused a m s d h caller from to Memory r = (s, lost_early (ground_of d a) h from to)

-- What room was refused for keeps the limit, or says that it doesn't.
pub room_kept : (a : Booked) (why : Refusal) → RefusesRoom a why → KeepsLimit a why
room_kept a (BadName which f) r = absurd r
room_kept a NoConversion r = absurd r
room_kept a (LibraryFault n w) r = absurd r
room_kept a (NoCharmap n w) r = absurd r
room_kept a (BadCharmap n w f) r = absurd r
room_kept a (StoreFull n l) r = absurd r
room_kept a (JournalFull n) r = tt
room_kept a Memory r = r

-- Where there was room, every refusal keeps the limit.
pub kept_limit : (a : Booked) (why : Refusal) → HasRoom a → KeepsLimit a why
kept_limit a (BadName which f) r = r
kept_limit a NoConversion r = r
kept_limit a (LibraryFault n w) r = r
kept_limit a (NoCharmap n w) r = r
kept_limit a (BadCharmap n w f) r = r
kept_limit a (StoreFull n l) r = r
kept_limit a (JournalFull n) r = tt
kept_limit a Memory r = r
