-- Histories: lists of entries, each with the number of the pass that committed it, the newest last.
use Rattle.std.specs.Prelude.{◌≡◌, ◌≢◌, ◌⊎◌, ℕ, ◌+◌, ◌==◌, nat_lt, if◌then◌else◌}
use Rattle.std.specs.Prelude.{List, [], ◌∷◌, ◌++◌, length}

-- A list of entries with their numbers.
abbrev pub History : Type 0 → Type 0
History E = List (ℕ × E)

-- The number of each entry meets P.
abbrev pub EachNumber : {E : Type 0} → (ℕ → Type 0) → History E → Type 0
EachNumber P [] = Unit {0}
EachNumber P (e ∷ es) = P e.0 × EachNumber P es

-- The history goes on from the front, and the numbers of what came since meet P.
abbrev pub Since : {E : Type 0} → (ℕ → Type 0) → History E → History E → Type 0
Since {E} P front log = (rest : History E) × (log ≡ front ++ rest) × EachNumber P rest

-- The history goes on from the front, with no entry of the number n.
abbrev pub Grows : {E : Type 0} → ℕ → History E → History E → Type 0
Grows n front log = Since (λ m. m ≢ n) front log

-- The number stands in the list.
abbrev pub Has : List ℕ → ℕ → Type 0
Has [] n = ⊥
Has (x ∷ xs) n = (x ≡ n) ⊎ Has xs n

-- The list without its first n.
abbrev pub without : ℕ → List ℕ → List ℕ
without n [] = []
without n (x ∷ xs) = if x == n then xs else x ∷ without n xs

-- The longer of two lists; the first where they are as long.
abbrev pub longer : {A : Type 0} → List A → List A → List A
longer xs ys = if nat_lt (length xs) (length ys) then ys else xs

-- No number stands twice.
abbrev pub Distinct : List ℕ → Type 0
Distinct [] = Unit {0}
Distinct (x ∷ xs) = ¬ (Has xs x) × Distinct xs

-- The positions of the entries with the number n, where the first entry is at the position k.
abbrev pub mine_from : {E : Type 0} → ℕ → ℕ → History E → List ℕ
mine_from n k [] = []
mine_from n k (e ∷ es) =
    if e.0 == n then k ∷ mine_from n (k + 1) es else mine_from n (k + 1) es

-- The positions of the entries with the number n.
abbrev pub mine_of : {E : Type 0} → ℕ → History E → List ℕ
mine_of n log = mine_from n 0 log

-- Passes that were joined: the number of each, and the front that it then had, the last first.
abbrev pub Ends : Type 0 → Type 0
Ends E = List (ℕ × History E)

-- Each number with its front meets P.
abbrev pub EachEnd : {E : Type 0} → (ℕ → History E → Type 0) → Ends E → Type 0
EachEnd P [] = Unit {0}
EachEnd P (x ∷ xs) = P x.0 x.1 × EachEnd P xs

-- A pass of the number was joined.
abbrev pub HasEnd : {E : Type 0} → Ends E → ℕ → Type 0
HasEnd [] n = ⊥
HasEnd (x ∷ xs) n = (x.0 ≡ n) ⊎ HasEnd xs n

-- The history begins with the front of each joined pass, and has no entry of its number since.
abbrev pub AreEnded : {E : Type 0} → Ends E → History E → Type 0
AreEnded ends log = EachEnd (λ n front. Grows n front log) ends
