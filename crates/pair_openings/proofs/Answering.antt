-- What an opening by two names as asked is answered, by what one by two good names is.
use Rattle.std.proofs.Common.{ℕ, List, Result, Ok, Err, IfOk, IfErr, refl, [], inl, inr, sym, subst, append-nil}
use Rattle.names_alias.specs.CallerNames.{IsGood, IsFault}
use Rattle.names_alias.specs.declared.fault.NameFault.{NameFault}
use Rattle.outside.specs.Moments.{Holdings}
use Rattle.runtime_histories.specs.declared.entries.Reply.TheVariants.{Refused}
use Rattle.runtime_histories.specs.declared.refusals.Asked as names
use Rattle.runtime_histories.specs.declared.refusals.Asked.TheVariants.{Good, Bad}
use Rattle.runtime_histories.specs.declared.refusals.End.TheVariants.{From, To}
use Rattle.runtime_histories.specs.declared.refusals.Refusal.{Refusal}
use Rattle.runtime_histories.specs.declared.refusals.Refusal.TheVariants.{BadName, NoConversion, LibraryFault, NoCharmap, BadCharmap, StoreFull, JournalFull, Memory}
use Rattle.pair_openings.specs.Answers.{IsProper, Replies, Answers, Refuses, Loses}
use Rattle.pair_openings.specs.Loading.{Ground}
use Rattle.charmap_library.specs.Fetching.{source_of}
use Rattle.runtime_histories.specs.Charmaps.{wanted}
use Rattle.runtime_histories.specs.Settings.{Setting}
use Rattle.pair_openings.specs.Plans.{IsPlanned, IsDenied, Denies, Asked}
use Rattle.pair_openings.specs.declared.planning.Opening.{Opening}
use Rattle.pair_openings.proofs.Deciding.{asked_none}

-- A bad name of the source.
pub bad_source : (g : Ground) (h : Holdings) (f : NameFault) (to : names.Asked) → IsFault f → IsProper to → Refuses g h h (Bad f) to (BadName From f)
bad_source g h f (Good to) p q = (record { more = []; asked = asked_none h; legal = λ s settled. ((p, q, refl), refl) }, tt)
bad_source g h f (Bad e) p q = (record { more = []; asked = asked_none h; legal = λ s settled. ((p, q, refl), refl) }, tt)

-- A good name of the source, and a bad one of the target.
pub bad_target : (g : Ground) (h : Holdings) (from : List ℕ) (f : NameFault) → IsGood from → IsFault f → Refuses g h h (Good from) (Bad f) (BadName To f)
bad_target g h from f p q = (record { more = []; asked = asked_none h; legal = λ s settled. ((p, q, refl), refl) }, tt)

module _ (g : Ground) (old new : Holdings) (from to : List ℕ) (good : IsGood from) (well : IsGood to) where
  pub answers : (o : Opening) → IsPlanned g old new from to o → Answers g old new (Good from) (Good to) o
  answers o p = record {
    reply = record { more = p.more; asked = p.asked; legal = λ s settled. let l = p.legal s settled in ((good, well, l.0), l.1) };
    placed = p.placed;
    tables = p.tables;
  }

  denied : (why : Refusal) → IsDenied g old new from to why → Replies g old new (Good from) (Good to) (Refused why)
  denied why p = record { more = p.more; asked = p.asked; legal = λ s settled. let l = p.legal s settled in ((good, well, l.0), l.1) }

  pub refuses : (why : Refusal) → Denies g old new from to why → Refuses g old new (Good from) (Good to) why
  refuses (BadName which f) p = (denied (BadName which f) p, p.blamed)
  refuses NoConversion p = (denied NoConversion p, p.blamed)
  refuses (LibraryFault m w) p = (denied (LibraryFault m w) p, p.blamed)
  refuses (NoCharmap m w) p = (denied (NoCharmap m w) p, p.blamed)
  refuses (BadCharmap m w f) p = (denied (BadCharmap m w f) p, p.blamed)
  refuses (StoreFull n l) p = (denied (StoreFull n l) p, p.blamed)
  refuses (JournalFull n) p = (denied (JournalFull n) p, p.blamed)
  refuses Memory p = p

  pub answers_result : (r : Result Opening Refusal) → IfOk r (IsPlanned g old new from to) → IfOk r (Answers g old new (Good from) (Good to))
  answers_result (Ok o) h = answers o h
  answers_result (Err why) h = tt

  pub refuses_result : (r : Result Opening Refusal) → IfErr r (Denies g old new from to) → IfErr r (Refuses g old new (Good from) (Good to))
  refuses_result (Ok o) h = tt
  refuses_result (Err why) h = refuses why h

-- Memory was wanting before anything was asked for.
pub lost_early : (g : Ground) (h : Holdings) (from to : names.Asked) → Loses g h h from to
lost_early g h (Good from) (Good to) = record { more = []; asked = asked_none h; front = (λ s settled. inl refl) }
lost_early g h (Good from) (Bad f) = asked_none h
lost_early g h (Bad f) to = asked_none h

-- Some setting of a ground.
abbrev settled_in : Ground → Holdings → Setting
settled_in g old = record {
  first = record { graph = g.graph; aliases = record { fixed = []; pairs = [] } };
  source = source_of g.directory old;
  pages = g.pages;
}

-- Memory was wanting when the opening was decided.
pub lost_late : (g : Ground) (old new : Holdings) (from to : names.Asked) (o : Opening) → Answers g old new from to o → Loses g old new from to
lost_late g old new (Good from) (Good to) o a = record {
  more = a.reply.more;
  asked = a.reply.asked;
  front = λ s settled. let all = (a.reply.legal s settled).1 in
      inr (all.route, wanted g.graph all.route.absent, [], sym (append-nil (wanted g.graph all.route.absent)), all.all);
}
lost_late g old new (Good from) (Bad f) o a =
    subst (Asked old new) (a.reply.legal (settled_in g old) (record { pages_is = refl; source_is = refl })).1 a.reply.asked
lost_late g old new (Bad f) to o a =
    subst (Asked old new) (a.reply.legal (settled_in g old) (record { pages_is = refl; source_is = refl })).1 a.reply.asked
