-- What legal histories keep.
use Rattle.std.proofs.Common.{◌≡◌, ℕ, ◌+◌, List, [], ◌∷◌, ◌++◌, length, map, sym, refl, ap, ◌∙◌, subst, append_assoc, append-nil, ⊎_elim, arith}
use Rattle.std.proofs.lemmas.List.{map-append}
use Rattle.module_graph.specs.Graph.{Shape}
use Rattle.runtime_histories.specs.declared.refusals.Asked.{Asked}
use Rattle.runtime_histories.specs.declared.refusals.Asked.TheVariants.{Good, Bad}
use Rattle.runtime_histories.specs.declared.entries.Reply.{Reply}
use Rattle.runtime_histories.specs.declared.entries.Reply.TheVariants.{Opened, Refused}
use Rattle.runtime_histories.specs.declared.entries.Event.{Event}
use Rattle.runtime_histories.specs.declared.entries.Event.TheVariants.{Opening, Closing}
use Rattle.runtime_histories.specs.declared.entries.Entry.{Entry}
use Rattle.chain_search.specs.declared.chain.Chain.{Chain}
use Rattle.runtime_histories.specs.Deeds.{Pair, Act, act, opens, closes, rests, Deeds, Desc, openings, closed, IsIn, IsLive, Loaded}
use Rattle.runtime_histories.specs.Fair.{Agrees}
use Rattle.runtime_histories.specs.Entries.{deed_of, opening_of, deeds, loaded_of}
use Rattle.runtime_histories.specs.Settings.{Setting, Leads, modules_of}
use Rattle.runtime_histories.specs.Sound.{IsRouted, IsSound}
use Rattle.runtime_histories.specs.Legal.{IsAnswered, IsNext, Next, LegalFrom, Legal}
use Rattle.runtime_histories.proofs.Basics.{In-append, openings-append}
use Rattle.runtime_histories.proofs.Balance.{balanced_opens, balanced_rests, balanced_closes, balanced_first}
use Rattle.runtime_histories.proofs.LeastChains.{Leads-unique}

pub deeds-snoc : (js : List Entry) (e : Entry) → deeds (js ++ e ∷ []) ≡ deeds js ++ act e.caller (deed_of e.event) ∷ []
deeds-snoc js e = map-append (λ (x : Entry). act x.caller (deed_of x.event)) js (e ∷ [])

pub deeds-append : (js ks : List Entry) → deeds (js ++ ks) ≡ deeds js ++ deeds ks
deeds-append js ks = map-append (λ (x : Entry). act x.caller (deed_of x.event)) js ks

legal_more : (s : Setting) (before es : List Entry) (e : Entry) → LegalFrom s before es → Next s (before ++ es) e → LegalFrom s before (es ++ e ∷ [])
legal_more s before [] e h n = (subst (λ (z : List Entry). Next s z e) (append-nil before) n, tt)
legal_more s before (x ∷ es) e h n = (h.0, legal_more s (before ++ x ∷ []) es e h.1 (subst (λ (z : List Entry). Next s z e) (sym (append_assoc before (x ∷ []) es)) n))

-- A legal history with an entry that is legal next is legal.
pub Legal-snoc : (s : Setting) (b : List Entry) (e : Entry) → Legal s b → Next s b e → Legal s (b ++ e ∷ [])
Legal-snoc s b e h n = legal_more s [] b e h n

-- A legal history in two parts.
pub LegalFrom-append : (s : Setting) (before es fs : List Entry) → LegalFrom s before (es ++ fs) → LegalFrom s before es × LegalFrom s (before ++ es) fs
LegalFrom-append s before [] fs h = (tt, subst (λ (z : List Entry). LegalFrom s z fs) (sym (append-nil before)) h)
LegalFrom-append s before (x ∷ es) fs h = let r = LegalFrom-append s (before ++ x ∷ []) es fs h.1 in
    ((h.0, r.0), subst (λ (z : List Entry). LegalFrom s z fs) (append_assoc before (x ∷ []) es) r.1)

pub sound_first : (g : Shape) → IsSound g []
sound_first g = record { balanced = balanced_first; routed = λ d h. absurd h }

-- one opening more among the descriptors
routed_more : (g : Shape) (log : Deeds) (e : Act) → ((d : Desc) → IsIn d (openings 0 log) → IsRouted g d)
    → ((d : Desc) → IsIn d (openings (0 + length log) (e ∷ [])) → IsRouted g d) → (d : Desc) → IsIn d (openings 0 (log ++ e ∷ [])) → IsRouted g d
routed_more g log e old new d h = ⊎_elim (λ z. old d z) (λ z. new d z)
    (In-append d (openings 0 log) (openings (0 + length log) (e ∷ [])) (subst (λ (z : List Desc). IsIn d z) (openings-append 0 log (e ∷ [])) h))

pub sound_rests : (g : Shape) (log : Deeds) (c : ℕ) → IsSound g log → IsSound g (log ++ act c rests ∷ [])
sound_rests g log c h = record {
  balanced = balanced_rests log h.balanced c;
  routed = routed_more g log (act c rests) h.routed (λ d z. absurd z);
}

pub sound_closes : (g : Shape) (log : Deeds) (c n : ℕ) → IsSound g log → IsLive log c n → IsSound g (log ++ act c (closes n) ∷ [])
sound_closes g log c n h k = subst (λ (z : ℕ). IsSound g (log ++ act c (closes z) ∷ [])) k.number_is (record {
  balanced = balanced_closes log h.balanced c k.desc k.there (ap (λ (z : ℕ). closed z log) k.number_is ∙ k.unclosed);
  routed = routed_more g log (act c (closes k.desc.number)) h.routed (λ d z. absurd z);
})

pub sound_opens : (g : Shape) (log : Deeds) (c : ℕ) (p : Pair) (ms : List ℕ) (l : List Loaded) (chain : Chain) → IsSound g log
    → Leads g p.from p.to chain → ms ≡ modules_of g.edges chain.ordinals → IsSound g (log ++ act c (opens p ms l) ∷ [])
sound_opens g log c p ms l chain h leads is = record {
  balanced = balanced_opens log h.balanced c p ms l (agreed g log p ms chain h.routed leads is);
  routed = routed_more g log (act c (opens p ms l)) h.routed (λ d z. ⊎_elim (λ (e : record { number = 0 + length log; caller = c; pair = p; modules = ms } ≡ d). subst (IsRouted g) e (record { chain = chain; leads = leads; modules_is = is })) (λ y. absurd y) z);
}
  where
    agreed : (g : Shape) (log : Deeds) (p : Pair) (ms : List ℕ) (chain : Chain) → ((d : Desc) → IsIn d (openings 0 log) → IsRouted g d)
        → Leads g p.from p.to chain → ms ≡ modules_of g.edges chain.ordinals → Agrees log p ms
    agreed g log p ms chain routed leads is d h e =
        let r = routed d h in
        let l : Leads g p.from p.to r.chain = subst (λ (z : Pair). Leads g z.from z.to r.chain) e r.leads in
        r.modules_is ∙ (ap (modules_of g.edges) (Leads-unique g p.from p.to r.chain chain l leads) ∙ sym is)

sound_replied : (s : Setting) (log : Deeds) (c : ℕ) (from to : Asked) (reply : Reply) → IsSound s.first.graph log → IsAnswered s s.first.graph log from to reply
    → IsSound s.first.graph (log ++ act c (opening_of 0 from to reply) ∷ [])
sound_replied s log c (Bad f) (Bad g) reply h k = sound_rests s.first.graph log c h
sound_replied s log c (Bad f) (Good to) reply h k = sound_rests s.first.graph log c h
sound_replied s log c (Good from) (Bad f) reply h k = sound_rests s.first.graph log c h
sound_replied s log c (Good from) (Good to) (Refused why) h k = sound_rests s.first.graph log c h
sound_replied s log c (Good from) (Good to) (Opened chain cost loads modules) h k =
    let o = k.2 in sound_opens s.first.graph log c (record { generation = 0; from = from; to = to }) modules.value (map loaded_of loads) o.route.chain h o.route.leads (o.modules_is ∙ o.route.steps)

sound_event : (s : Setting) (b : List Entry) (c : ℕ) (v : Event) → IsSound s.first.graph (deeds b) → IsNext s b c v → IsSound s.first.graph (deeds b ++ act c (deed_of v) ∷ [])
sound_event s b c (Opening from to reply) h k = sound_replied s (deeds b) c from to reply h k
sound_event s b c (Closing n) h k = sound_closes s.first.graph (deeds b) c n h k

pub sound_next : (s : Setting) (b : List Entry) (e : Entry) → IsSound s.first.graph (deeds b) → Next s b e → IsSound s.first.graph (deeds (b ++ e ∷ []))
sound_next s b e h k = subst (IsSound s.first.graph) (sym (deeds-snoc b e)) (sound_event s b e.caller e.event h k)

sound_from : (s : Setting) (b es : List Entry) → IsSound s.first.graph (deeds b) → LegalFrom s b es → IsSound s.first.graph (deeds (b ++ es))
sound_from s b [] h k = subst (λ (z : List Entry). IsSound s.first.graph (deeds z)) (sym (append-nil b)) h
sound_from s b (e ∷ es) h k = subst (λ (z : List Entry). IsSound s.first.graph (deeds z)) (append_assoc b (e ∷ []) es) (sound_from s (b ++ e ∷ []) es (sound_next s b e h k.0) k.1)

-- The deeds of a legal history meet it.
pub sound_legal : (s : Setting) (es : List Entry) → Legal s es → IsSound s.first.graph (deeds es)
sound_legal s es h = sound_from s [] es (sound_first s.first.graph) h

pub length-deeds : (es : List Entry) → length (deeds es) ≡ length es
length-deeds [] = refl
length-deeds (e ∷ es) = let h = length-deeds es in omega arith
