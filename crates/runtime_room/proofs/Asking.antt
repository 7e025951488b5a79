-- What a library was asked for.
use Rattle.std.proofs.Common.{◌≡◌, ℕ, ◌≤◌, List, [], ◌∷◌, ◌++◌, Option, Some, None, sym, refl, ap, ◌∙◌, subst, arith, append-nil, append_assoc}
use Rattle.std.specs.Option.{option_map}
use Rattle.outside.specs.Moments.{Holdings}
use Rattle.runtime_histories.specs.declared.entries.Entry.{Entry}
use Rattle.runtime_histories.specs.Fetches.{Asks, CouldAsk, GaveUp, LooseFrom, joined}
use Rattle.runtime_histories.specs.Settings.{Setting}
use Rattle.pair_openings.specs.Plans.{Asked}
use Rattle.runtime_room.specs.Desks.{HasAsked}

abbrev Paths : Type 0
Paths = List (List ℕ)

more_twice : (o : Option Paths) (m n : Paths) → option_map (λ (z : Paths). z ++ n) (option_map (λ (z : Paths). z ++ m) o) ≡ option_map (λ (z : Paths). z ++ (m ++ n)) o
more_twice None m n = refl
more_twice (Some p) m n = ap (λ (z : Paths). Some z) (append_assoc p m n)

at_most : (a b c : ℕ) → a ≤ b → b ≤ c → a ≤ c
at_most a b c x y = omega arith

-- A library was asked twice.
pub asked_twice : (a b c : Holdings) (m n : Paths) → Asked a b m → Asked b c n → Asked a c (m ++ n)
asked_twice a b c m n x y = record {
  told = y.told ∙ x.told;
  paths = y.paths ∙ (ap (option_map (λ (z : Paths). z ++ n)) x.paths ∙ more_twice a.paths m n);
  count = at_most a.faults b.faults c.faults x.count y.count;
}

joined-snoc : (xs : List Paths) (a : Paths) → joined (xs ++ a ∷ []) ≡ joined xs ++ a
joined-snoc [] a = append-nil a
joined-snoc (x ∷ xs) a = ap (λ (z : Paths). x ++ z) (joined-snoc xs a) ∙ sym (append_assoc x (joined xs) a)

gave_up_more : (s : Setting) (es : List Entry) (xs : List Paths) (a : Paths) → GaveUp s es xs → CouldAsk s es a → GaveUp s es (xs ++ a ∷ [])
gave_up_more s es [] a g c = (c, tt)
gave_up_more s es (x ∷ xs) a g c = (g.0, gave_up_more s es xs a g.1 c)

-- One opening more gave up.
loose_lost : (s : Setting) (before es : List Entry) (m a : Paths) → LooseFrom s before es m → CouldAsk s (before ++ es) a → LooseFrom s before es (m ++ a)
loose_lost s before [] m a h c =
    (h.0 ++ a ∷ [], gave_up_more s before h.0 a h.1 (subst (λ (z : List Entry). CouldAsk s z a) (append-nil before) c), ap (λ (z : Paths). z ++ a) h.2 ∙ sym (joined-snoc h.0 a))
loose_lost s before (e ∷ es) m a h c = (
  h.0,
  h.1,
  h.2,
  h.3 ++ a,
  ap (λ (z : Paths). z ++ a) h.4 ∙ append_assoc (joined h.0 ++ h.2) h.3 a,
  h.5,
  loose_lost s (before ++ e ∷ []) es h.3 a h.6 (subst (λ (z : List Entry). CouldAsk s z a) (sym (append_assoc before (e ∷ []) es)) c),
)

-- One entry more was asked for.
loose_next : (s : Setting) (before es : List Entry) (e : Entry) (m a : Paths) → LooseFrom s before es m → Asks s (before ++ es) e.event a → LooseFrom s before (es ++ e ∷ []) (m ++ a)
loose_next s before [] e m a h c = (
  h.0,
  h.1,
  a,
  [],
  ap (λ (z : Paths). z ++ a) h.2 ∙ sym (append-nil (joined h.0 ++ a)),
  subst (λ (z : List Entry). Asks s z e.event a) (append-nil before) c,
  ([], tt, refl),
)
loose_next s before (x ∷ es) e m a h c = (
  h.0,
  h.1,
  h.2,
  h.3 ++ a,
  ap (λ (z : Paths). z ++ a) h.4 ∙ append_assoc (joined h.0 ++ h.2) h.3 a,
  h.5,
  loose_next s (before ++ x ∷ []) es e h.3 a h.6 (subst (λ (z : List Entry). Asks s z e.event a) (sym (append_assoc before (x ∷ []) es)) c),
)

asked_none : (o : Option Paths) → o ≡ option_map (λ (z : Paths). z ++ []) o
asked_none None = refl
asked_none (Some p) = ap (λ (z : Paths). Some z) (sym (append-nil p))

-- A library that was asked for nothing.
pub asked_nothing : (h : Holdings) → Asked h h []
asked_nothing h = record { told = refl; paths = asked_none h.paths; count = omega arith }

-- So was one that was handed in.
pub asked_first : (s : Setting) (h : Holdings) → HasAsked s [] h h
asked_first s h = record {
  more = [];
  asked = asked_nothing h;
  fetched = ([], tt, refl);
}

-- It was asked for one entry more.
pub asked_next : (s : Setting) (es : List Entry) (e : Entry) (a b c : Holdings) (n : Paths) → HasAsked s es a b → Asked b c n → Asks s es e.event n → HasAsked s (es ++ e ∷ []) a c
asked_next s es e a b c n h x asks = record {
  more = h.more ++ n;
  asked = asked_twice a b c h.more n h.asked x;
  fetched = loose_next s [] es e h.more n h.fetched asks;
}

-- It was asked by an opening that gave up.
pub asked_lost : (s : Setting) (es : List Entry) (a b c : Holdings) (n : Paths) → HasAsked s es a b → Asked b c n → CouldAsk s es n → HasAsked s es a c
asked_lost s es a b c n h x could = record {
  more = h.more ++ n;
  asked = asked_twice a b c h.more n h.asked x;
  fetched = loose_lost s [] es h.more n h.fetched could;
}

-- It was asked for nothing.
pub asked_still : (s : Setting) (es : List Entry) (a b c : Holdings) → HasAsked s es a b → Asked b c [] → HasAsked s es a c
asked_still s es a b c h x = record {
  more = h.more;
  asked = subst (Asked a c) (append-nil h.more) (asked_twice a b c h.more [] h.asked x);
  fetched = h.fetched;
}

-- The same of what is equal.
pub asked_as : (s t : Setting) (es fs : List Entry) (a b c d : Holdings) → s ≡ t → es ≡ fs → a ≡ c → b ≡ d → HasAsked s es a b → HasAsked t fs c d
asked_as s t es fs a b c d x y z w h =
    subst (λ (u : Setting). HasAsked u fs c d) x (subst (λ (u : List Entry). HasAsked s u c d) y (subst (λ (u : Holdings). HasAsked s es u d) z (subst (λ (u : Holdings). HasAsked s es a u) w h)))
