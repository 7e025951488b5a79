-- What the calls of a caller make of a job.
use Rattle.std.proofs.Common.{◌≡◌, ◌≢◌, ◌⊎◌, ℕ, ◌+◌, ◌*◌, ◌≤◌, ◌<◌, Bool, true, false, List, [], ◌∷◌, ◌++◌, length, map, Option, Some, None, sym, refl, ap, ◌∙◌, subst, arith, append_assoc, append-nil, true≢false}
use Rattle.std.specs.List.{AllByRecursion, flat_map}
use Rattle.code_pairs.specs.Tables.{Tables}
use Rattle.chain_search.specs.declared.chain.Chain.{Chain}
use Rattle.chain_steps.specs.Chains.{initial}
use Rattle.chain_steps.specs.Machine.{Machine}
use Rattle.chain_recipes.specs.Recipes.{recipe_for}
use Rattle.conversion_book.specs.Calls.{ConvertsWhole}
use Rattle.conversion_book.proofs.Booking.{deed_rests}
use Rattle.history_core.specs.History.{History, Grows}
use Rattle.history_core.specs.declared.story.Story.{Ghosts}
use Rattle.pair_openings.specs.Answers.{snapshot}
use Rattle.runtime_histories.specs.declared.entries.Entry.{Entry}
use Rattle.runtime_histories.specs.declared.entries.Reply.TheVariants.{Refused}
use Rattle.runtime_histories.specs.declared.refusals.Asked.{Asked}
use Rattle.runtime_histories.specs.declared.refusals.Refusal.{Refusal}
use Rattle.runtime_histories.specs.declared.refusals.Refusal.TheVariants.{BadName, NoConversion, LibraryFault, NoCharmap, BadCharmap, StoreFull, JournalFull, Memory}
use Rattle.runtime_histories.specs.Charmaps.{AreTablesOf}
use Rattle.runtime_histories.specs.Deeds.{Act, act, opens, rests, Deed, Deeds, IsIn, openings, desc_at}
use Rattle.runtime_histories.specs.Entries.{deed_of, deeds, loaded_of}
use Rattle.runtime_histories.specs.Legal.{Legal}
use Rattle.runtime_histories.specs.Pins.{live_of}
use Rattle.runtime_histories.specs.Settings.{Setting, modules_of, charmaps_at}
use Rattle.runtime_histories.proofs.Legality.{LegalFrom-append, sound_legal}
use Rattle.step_buffers.specs.declared.answers.Finish.{Finish}
use Rattle.step_buffers.specs.declared.answers.Finish.TheVariants.{Done}
use Rattle.runtime_room.specs.Apart.{all_split}
use Rattle.runtime_room.specs.Grounds.{Ground}
use Rattle.runtime_room.specs.Held.{entries-append}
use Rattle.runtime_room.specs.Rooms.{IsHistory, IsOwn, LoadsPoints, deeds_of, entries_of}
use Rattle.runtime_room.specs.declared.desk.Desk.{Desk}
use Rattle.runtime_room.specs.declared.desk.Noted.{Noted}
use Rattle.runtime_room.specs.declared.story.Room.{Room}
use Rattle.runtime_room.proofs.Acts.{deeds_of-snoc}
use Rattle.desk_openings.proofs.Entered.{length-entries}
use Rattle.desk_openings.proofs.LiveOnes.{live_rested, new_count}
use Rattle.gconv_runtime.specs.Entries.{Adds, IsClosing}
use Rattle.gconv_runtime.specs.Openings.{asked, Opens, Denies, Refuses, reply_of}
use Rattle.gconv_runtime.specs.Owning.{Owns, tables_of}
use Rattle.gconv_runtime.specs.Tokens.{Knows, number, front, ground}
use Rattle.gconv_runtime.specs.declared.tokens.Gconv.{Gconv}
use Rattle.gconv_runtime.specs.declared.tokens.Caller.{Caller}
use Rattle.gconv_runtime.specs.declared.tokens.Descriptor.{Descriptor}
use Rattle.gconv_runtime.proofs.Dismissing.{live_later, still_live, count_after}
use Rattle.batch_jobs.specs.Jobs.{Text, JobLine}
use Rattle.batch_runs.specs.declared.misses.Miss.TheVariants.{NoFile}
use Rattle.batch_runs.specs.Histories.{Placed, placed_from, own}
use Rattle.batch_runs.specs.Meanings.{Makes, asked_in, opening, closing, is_entered, is_passing}
use Rattle.batch_runs.specs.Shares.{placed, IsOpenedAndClosed}
use Rattle.batch_runs.specs.Takings.{Got}
use Rattle.batch_runs.specs.Works.{Work, Skipped, Denied, Converted, MayRefuse}
use Rattle.batch_workers.specs.Parts.{Part, Serves, IsCutOff}
use Rattle.batch_book.proofs.Lasting.{lasting}
use Rattle.batch_book.proofs.Working.{IsOpenedBy, good_names, opens_deed}
use Rattle.batch_gconv.specs.Callers.{IsIdle, part_of}
use Rattle.batch_gconv.proofs.Own.{own_grown, own_more}

none_left : {A : Type 0} (xs : List A) → length xs ≡ 0 → xs ≡ []
none_left [] e = refl
none_left (x ∷ xs) e = absurd (omega (arith, e))

fronts_legal : (gr : Ground) (seen after : History Noted) (n : ℕ) (e : Noted) → after ≡ seen ++ (n, e) ∷ [] → IsHistory gr after → Legal gr.setting (entries_of seen)
fronts_legal gr seen after n e ends h =
    (LegalFrom-append gr.setting [] (entries_of seen) (entries_of ((n, e) ∷ [])) (subst (Legal gr.setting) (ap entries_of ends ∙ entries-append seen ((n, e) ∷ [])) h.legal)).0

-- The front of a history is one.
history_front : (gr : Ground) (seen after : History Noted) (n : ℕ) (e : Noted) → after ≡ seen ++ (n, e) ∷ [] → IsHistory gr after → IsHistory gr seen
history_front gr seen after n e ends h = record {
  ground = h.ground;
  legal = fronts_legal gr seen after n e ends h;
  own = (all_split IsOwn seen ((n, e) ∷ []) (subst (AllByRecursion IsOwn) ends h.own)).0;
  points = (all_split (λ (x : Act). LoadsPoints x.deed) (deeds_of seen) (act e.entry.value.caller (deed_of e.entry.value.event) ∷ [])
      (subst (AllByRecursion (λ (x : Act). LoadsPoints x.deed)) (ap deeds_of ends ∙ deeds_of-snoc seen n e) h.points)).0;
}

zero_more : (k : ℕ) → k ≡ 0 + k
zero_more k = omega arith

none_again : (p q r : ℕ) → p ≡ q + 1 → p ≡ r → r ≡ 1 → q ≡ 0
none_again p q r x y z = omega (arith, x, y, z)

one_of : (p q : ℕ) → p ≡ q + 1 → q ≡ 0 → p ≡ 1
one_of p q x y = omega (arith, x, y)

-- what is known of a pair that a caller opened, converted by, and closed
pub record IsServed {L : Type 0} {g : Ghosts (Room L) (Desk L) Noted Ground} (gconv : Gconv L) (a b c d : Caller L (Desk L) Noted Ground g) (job : JobLine) (x y : Descriptor) : Type 0 where
  pub idle : live_of (number a) (deeds_of (front a)) ≡ []
  pub opens_it : Opens gconv a b (asked gconv a job.from) (asked gconv a job.to) x
  pub legal_b : IsHistory (ground gconv a) (front b)
  pub number_b : number b ≡ number a
  pub number_c : number c ≡ number b
  pub front_c : front c ≡ front b
  pub same : y.number ≡ x.number
  pub owns : Owns gconv c y
  pub closes_it : Adds c d (IsClosing (number c) y.number)
  pub legal_d : IsHistory (ground gconv a) (front d)
  pub number_d : number d ≡ number c

module _ {L : Type 0} {g : Ghosts (Room L) (Desk L) Noted Ground} (gconv : Gconv L) (a b c d : Caller L (Desk L) Noted Ground g) (job : JobLine) (x y : Descriptor) (k : IsServed gconv a b c d job x y) where
  abbrev n : ℕ
  n = number a

  abbrev gr : Ground
  gr = ground gconv a

  abbrev s : Setting
  s = (ground gconv a).setting

  abbrev from : Asked
  from = asked gconv a job.from

  abbrev to : Asked
  to = asked gconv a job.to

  abbrev o : Opens gconv a b (asked gconv a job.from) (asked gconv a job.to) x
  o = k.opens_it

  abbrev seen : History Noted
  seen = k.opens_it.adds.seen

  abbrev at : ℕ
  at = 0 + length (entries_of k.opens_it.adds.seen)

  abbrev behind : ℕ
  behind = 0 + length (entries_of k.closes_it.seen)

  legal_seen : IsHistory gr seen
  legal_seen = history_front gr seen (front b) n o.adds.entry o.adds.ends k.legal_b

  abbrev named : IsOpenedBy (ground gconv a).setting (ground gconv a).setting.first.graph (deeds_of k.opens_it.adds.seen) (asked gconv a job.from) (asked gconv a job.to) k.opens_it.answer.chain.ordinals k.opens_it.answer.chain.cost k.opens_it.answer.loads k.opens_it.answer.modules
  named = good_names s s.first.graph (deeds_of seen) from to o.answer.chain.ordinals o.answer.chain.cost o.answer.loads o.answer.modules o.legal

  number_is : number c ≡ n
  number_is = k.number_c ∙ k.number_b

  grows_is : Grows n (front b) k.closes_it.seen
  grows_is = subst (λ (m : ℕ). Grows m (front b) k.closes_it.seen) number_is (subst (λ (f : History Noted). Grows (number c) f k.closes_it.seen) k.front_c k.closes_it.grows)

  ends_is : front d ≡ k.closes_it.seen ++ (n, k.closes_it.entry) ∷ []
  ends_is = k.closes_it.ends ∙ ap (λ (m : ℕ). k.closes_it.seen ++ (m, k.closes_it.entry) ∷ []) number_is

  at_is : y.number ≡ at
  at_is = k.same ∙ (o.number_is ∙ (sym (length-entries seen) ∙ zero_more (length (entries_of seen))))

  closing_is : k.closes_it.entry.entry.value ≡ closing n at
  closing_is = k.closes_it.is ∙ (λ i. closing (number_is i) (at_is i))

  abbrev these : List Placed
  these = placed at (opening s n job.from job.to (reply_of k.opens_it.answer)) ∷ placed behind (closing n at) ∷ []

  abbrev before : List Placed
  before = own (number a) (placed_from 0 (entries_of (front a)))

  entries_b : own n (placed_from 0 (entries_of (front b))) ≡ before ++ placed at o.adds.entry.entry.value ∷ []
  entries_b = own_more n (front a) seen (front b) o.adds.entry o.adds.ends k.legal_b.own o.adds.grows

  more : (part_of d).entries ≡ (part_of a).entries ++ these
  more =
      ap (λ (m : ℕ). own m (placed_from 0 (entries_of (front d)))) (k.number_d ∙ number_is)
      ∙ (own_more n (front b) k.closes_it.seen (front d) k.closes_it.entry ends_is k.legal_d.own grows_is
      ∙ (ap (λ (z : List Placed). z ++ placed behind k.closes_it.entry.entry.value ∷ []) entries_b
      ∙ (append_assoc before (placed at o.adds.entry.entry.value ∷ []) (placed behind k.closes_it.entry.entry.value ∷ [])
      ∙ (λ i. before ++ placed at (o.adds.is i) ∷ placed behind (closing_is i) ∷ []))))

  owned : IsOpenedAndClosed s n job these
  owned = record {
    at = at;
    behind = behind;
    chain = k.opens_it.answer.chain.ordinals;
    cost = k.opens_it.answer.chain.cost;
    loaded = k.opens_it.answer.loads;
    modules = snapshot k.opens_it.answer.modules;
    is = refl;
  }

  -- what the pair makes of an input
  makes : (input bytes : Text) (finish : Finish) (m : Machine) → ConvertsWhole input bytes finish (tables_of gconv b x) x.runner m → Makes s job.from job.to input (record { bytes = bytes; finish = finish })
  makes input bytes finish m w =
      let h = named.4 in
      record {
        source = named.0;
        target = named.1;
        source_is = named.2;
        target_is = named.3;
        way = h.route.chain;
        leads = h.route.leads;
        tables = tables_of gconv b x;
        read = subst (λ (ms : List ℕ). AreTablesOf s.source (flat_map (charmaps_at s.first.graph) ms) (tables_of gconv b x)) (h.modules_is ∙ h.route.steps) o.read;
        recipe = o.recipe;
        recipe_is = ap (λ (z : Chain). recipe_for s.first.graph z.ordinals) (sym h.chain_is) ∙ o.recipe_is;
        means = (subst (λ (r : Machine). ConvertsWhole input bytes finish (tables_of gconv b x) r m) o.runner_is w).means;
      }

  pub job_converted : (input bytes : Text) (finish : Finish) (m : Machine) → ConvertsWhole input bytes finish (tables_of gconv b x) x.runner m
      → Serves s (part_of a) (part_of d) job (Got input) (Converted (record { bytes = bytes; finish = finish }))
  job_converted input bytes finish m w =
      record { works = makes input bytes finish m w; number = k.number_d ∙ number_is; these = these; is_own = owned; more = more }

  -- the job was cut behind its opening
  pub job_cut : IsCutOff s (part_of a) (part_of d) job
  job_cut = record { work = Converted (record { bytes = []; finish = Done }); number = k.number_d ∙ number_is; these = these; is_own = owned; more = more }

  deed_is : deed_of o.adds.entry.entry.value.event ≡ opens (record { generation = 0; from = named.0; to = named.1 }) o.answer.modules (map loaded_of o.answer.loads)
  deed_is = ap (λ (v : Entry). deed_of v.event) o.adds.is ∙ opens_deed named.0 named.1 o.answer.chain.ordinals o.answer.chain.cost o.answer.loads o.answer.modules from to named.2 named.3

  caller_is : o.adds.entry.entry.value.caller ≡ n
  caller_is = ap (λ (v : Entry). v.caller) o.adds.is

  one_live : length (live_of n (deeds_of (front b))) ≡ 1
  one_live = one_of (length (live_of n (deeds_of (front b)))) (length (live_of n (deeds_of seen)))
      (ap (λ (z : History Noted). length (live_of n (deeds_of z))) o.adds.ends
      ∙ (ap (λ (z : Deeds). length (live_of n z)) (deeds_of-snoc seen n o.adds.entry)
      ∙ ((λ i. length (live_of n (deeds_of seen ++ act (caller_is i) (deed_is i) ∷ [])))
      ∙ new_count (deeds_of seen) (sound_legal s (entries_of seen) legal_seen.legal).balanced n (record { generation = 0; from = named.0; to = named.1 }) o.answer.modules (map loaded_of o.answer.loads))))
      (ap length (live_later gr n (front a) seen legal_seen o.adds.grows ∙ k.idle))

  legal_late : IsHistory gr k.closes_it.seen
  legal_late = history_front gr k.closes_it.seen (front d) n k.closes_it.entry ends_is k.legal_d

  -- the caller has no live descriptor again
  pub none_live : live_of (number d) (deeds_of (front d)) ≡ []
  none_live =
      let still = still_live gr n y.number (front b) k.closes_it.seen k.owns.desc legal_late grows_is
      (subst (λ (m : ℕ). IsIn k.owns.desc (live_of m (deeds_of (front b)))) number_is (subst (λ (f : History Noted). IsIn k.owns.desc (live_of (number c) (deeds_of f))) k.front_c k.owns.live))
      (subst (λ (f : History Noted). desc_at y.number (openings 0 (deeds_of f)) ≡ Some k.owns.desc) k.front_c k.owns.found) in
      let closes_one = count_after k.closes_it.seen n y.number k.owns.desc k.closes_it.entry (subst (λ (m : ℕ). IsClosing m y.number k.closes_it.entry) number_is k.closes_it.is) still.live still.found in
      ap (λ (m : ℕ). live_of m (deeds_of (front d))) (k.number_d ∙ number_is)
      ∙ none_left (live_of n (deeds_of (front d)))
      (ap (λ (z : History Noted). length (live_of n (deeds_of z))) ends_is
      ∙ none_again (length (live_of n (deeds_of k.closes_it.seen))) (length (live_of n (deeds_of (k.closes_it.seen ++ (n, k.closes_it.entry) ∷ [])))) (length (live_of n (deeds_of (front b))))
      closes_one (ap length (live_later gr n (front b) k.closes_it.seen legal_late grows_is)) one_live)

-- ---- a job whose pair was refused

module _ {L : Type 0} {g : Ghosts (Room L) (Desk L) Noted Ground} where
  -- the refusals that leave an entry leave this
  denied_as : (gconv : Gconv L) (a b : Caller L (Desk L) Noted Ground g) (from to : Asked) (why : Refusal) → Refuses gconv a b from to why → is_entered why ≡ true → Denies gconv a b from to why
  denied_as gconv a b from to (BadName which f) h e = h
  denied_as gconv a b from to NoConversion h e = h
  denied_as gconv a b from to (LibraryFault m w) h e = h
  denied_as gconv a b from to (NoCharmap m w) h e = h
  denied_as gconv a b from to (BadCharmap m w f) h e = h
  denied_as gconv a b from to (StoreFull n l) h e = h
  denied_as gconv a b from to (JournalFull n) h e = absurd (true≢false (sym e))
  denied_as gconv a b from to Memory h e = absurd (true≢false (sym e))

  -- the others leave none
  grown_as : (gconv : Gconv L) (a b : Caller L (Desk L) Noted Ground g) (from to : Asked) (why : Refusal) → Refuses gconv a b from to why → is_entered why ≡ false → Grows (number a) (front a) (front b)
  grown_as gconv a b from to (BadName which f) h e = absurd (true≢false e)
  grown_as gconv a b from to NoConversion h e = absurd (true≢false e)
  grown_as gconv a b from to (LibraryFault m w) h e = absurd (true≢false e)
  grown_as gconv a b from to (NoCharmap m w) h e = absurd (true≢false e)
  grown_as gconv a b from to (BadCharmap m w f) h e = absurd (true≢false e)
  grown_as gconv a b from to (StoreFull n l) h e = absurd (true≢false e)
  grown_as gconv a b from to (JournalFull n) h e = h.0
  grown_as gconv a b from to Memory h e = h.0

-- what is known of a pair that a caller was refused
pub record IsDenied {L : Type 0} {g : Ghosts (Room L) (Desk L) Noted Ground} (gconv : Gconv L) (a b : Caller L (Desk L) Noted Ground g) (job : JobLine) (why : Refusal) : Type 0 where
  pub idle : live_of (number a) (deeds_of (front a)) ≡ []
  pub refuses : Refuses gconv a b (asked gconv a job.from) (asked gconv a job.to) why
  pub legal : IsHistory (ground gconv a) (front b)
  pub number_is : number b ≡ number a

module _ {L : Type 0} {g : Ghosts (Room L) (Desk L) Noted Ground} (gconv : Gconv L) (a b : Caller L (Desk L) Noted Ground g) (job : JobLine) (why : Refusal) (k : IsDenied gconv a b job why) where
  abbrev num : ℕ
  num = number a

  abbrev set : Setting
  set = (ground gconv a).setting

  abbrev src : Asked
  src = asked gconv a job.from

  abbrev dst : Asked
  dst = asked gconv a job.to

  pub job_denied : (input : Text) → is_entered why ≡ true → Serves set (part_of a) (part_of b) job (Got input) (Denied why)
  job_denied input e =
      let h = denied_as gconv a b src dst why k.refuses e in
      let at : ℕ = 0 + length (entries_of h.adds.seen) in
      let before : List Placed = own num (placed_from 0 (entries_of (front a))) in
      record {
        works = record {
          entered = e;
          cause = λ p. record { lasting = p; answered = lasting set (entries_of h.adds.seen) src dst why (fronts_legal (ground gconv a) h.adds.seen (front b) num h.adds.entry h.adds.ends k.legal) p h.legal };
        };
        number = k.number_is;
        these = placed at (opening set num job.from job.to (Refused why)) ∷ [];
        is_own = (at, refl);
        more = ap (λ (m : ℕ). own m (placed_from 0 (entries_of (front b)))) k.number_is
            ∙ (own_more num (front a) h.adds.seen (front b) h.adds.entry h.adds.ends k.legal.own h.adds.grows ∙ (λ i. before ++ placed at (h.adds.is i) ∷ []));
      }

  pub job_lost : is_entered why ≡ false → IsCutOff set (part_of a) (part_of b) job
  job_lost e = record {
    work = Skipped NoFile;
    number = k.number_is;
    these = [];
    is_own = refl;
    more = ap (λ (m : ℕ). own m (placed_from 0 (entries_of (front b)))) k.number_is
        ∙ (own_grown num (front a) (front b) k.legal.own (grown_as gconv a b src dst why k.refuses e) ∙ sym (append-nil (own num (placed_from 0 (entries_of (front a))))));
  }

  rested : is_entered why ≡ true → live_of num (deeds_of (front b)) ≡ []
  rested e =
      let h = denied_as gconv a b src dst why k.refuses e in
      let there = history_front (ground gconv a) h.adds.seen (front b) num h.adds.entry h.adds.ends k.legal in
      ap (λ (z : History Noted). live_of num (deeds_of z)) h.adds.ends
      ∙ (ap (live_of num) (deeds_of-snoc h.adds.seen num h.adds.entry)
      ∙ (ap (λ (v : Entry). live_of num (deeds_of h.adds.seen ++ act v.caller (deed_of v.event) ∷ [])) h.adds.is
      ∙ (ap (λ (v : Deed). live_of num (deeds_of h.adds.seen ++ act num v ∷ [])) (deed_rests src dst why)
      ∙ (live_rested num num (deeds_of h.adds.seen)
      ∙ (live_later (ground gconv a) num (front a) h.adds.seen there h.adds.grows ∙ k.idle)))))

  -- the caller has no live descriptor still
  pub none_still : live_of (number b) (deeds_of (front b)) ≡ []
  none_still = ap (λ (m : ℕ). live_of m (deeds_of (front b))) k.number_is ∙ go (is_entered why) refl
    where
      go : (z : Bool) → is_entered why ≡ z → live_of num (deeds_of (front b)) ≡ []
      go true e = rested e
      go false e = live_later (ground gconv a) num (front a) (front b) k.legal (grown_as gconv a b src dst why k.refuses e) ∙ k.idle
