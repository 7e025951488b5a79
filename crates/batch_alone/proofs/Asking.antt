-- What a library was asked for, one list of entries behind another.
use Rattle.std.proofs.Common.{◌≡◌, ◌∙◌, ℕ, suc, zero, List, [], ◌∷◌, ◌++◌, Option, Some, None, ap, sym, subst, refl, append_assoc, append-nil}
use Rattle.runtime_histories.specs.declared.entries.Entry.{Entry}
use Rattle.runtime_histories.specs.Settings.{Setting}
use Rattle.runtime_histories.specs.Fetches.{FetchesFrom, LooseFrom, Fetches, FetchesLoose}
use Rattle.batch_jobs.specs.Jobs.{Text}
use Rattle.batch_runs.specs.Meanings.{AskedSince, HasFetched}

-- What entries ask for, and others behind them.
pub fetches-append : (s : Setting) (before xs ys : List Entry) (a b : List Text)
    → FetchesFrom s before xs a → FetchesFrom s (before ++ xs) ys b → FetchesFrom s before (xs ++ ys) (a ++ b)
fetches-append s before [] ys a b h k =
    let P : List Text → Type 0 = λ z. FetchesFrom s before ys (z ++ b) in
    let Q : List Entry → Type 0 = λ z. FetchesFrom s z ys b in
    subst P (sym h) (subst Q (append-nil before) k)
fetches-append s before (x ∷ xs) ys a b h k =
    let Q : List Entry → Type 0 = λ z. FetchesFrom s z ys b in (
      h.0,
      h.1 ++ b,
      ap (λ z. z ++ b) h.2 ∙ append_assoc h.0 h.1 b,
      h.3,
      fetches-append s (before ++ x ∷ []) xs ys h.1 b h.4 (subst Q (sym (append_assoc before (x ∷ []) xs)) k),
    )

-- The same, where it is told.
pub asked_on : (s : Setting) (before xs ys : List Entry) (p q r : Option (List Text))
    → AskedSince (FetchesFrom s before xs) p q → AskedSince (FetchesFrom s (before ++ xs) ys) q r
    → AskedSince (FetchesFrom s before (xs ++ ys)) p r
asked_on s before xs ys p q None h k = tt
asked_on s before xs ys p None (Some r) h k = absurd k
asked_on s before xs ys None (Some q) (Some r) h k = absurd h
asked_on s before xs ys (Some p) (Some q) (Some r) h k = (
  h.0 ++ k.0,
  k.1 ∙ ap (λ z. z ++ k.0) h.1 ∙ append_assoc p h.0 k.0,
  fetches-append s before xs ys h.0 k.0 h.2 k.2,
)

-- What was asked for exactly is one of the ways in which openings may have wanted memory besides.
loose : (s : Setting) (before xs : List Entry) (a : List Text) → FetchesFrom s before xs a → LooseFrom s before xs a
loose s before [] a h = ([], tt, h)
loose s before (x ∷ xs) a h = ([], tt, h.0, h.1, h.2, h.3, loose s (before ++ x ∷ []) xs h.1 h.4)

fetched_by : (s : Setting) (workers : ℕ) (h : List Entry) (a : List Text) → Fetches s h a → HasFetched s workers h a
fetched_by s zero h a f = f
fetched_by s (suc n) h a f = loose s [] h a f

-- What one thread asked for suits any number of workers.
pub asked_by : (s : Setting) (workers : ℕ) (h : List Entry) (p q : Option (List Text))
    → AskedSince (FetchesFrom s [] h) p q → AskedSince (HasFetched s workers h) p q
asked_by s workers h p None a = tt
asked_by s workers h None (Some q) a = absurd a
asked_by s workers h (Some p) (Some q) a = (a.0, a.1, fetched_by s workers h a.0 a.2)

-- Nothing was asked for by no entry.
pub asked_none : (s : Setting) (before : List Entry) (p : Option (List Text)) → AskedSince (FetchesFrom s before []) p p
asked_none s before None = tt
asked_none s before (Some p) = ([], sym (append-nil p), refl)
