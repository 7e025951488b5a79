-- What a look-up's answer says of the leaves.
use Rattle.std.proofs.Common.{◌≡◌, ◌<◌, ◌≤◌, ℕ, Bool, true, false, cond, List, length, take, Option, Some, None, refl, sym, subst, arith}
use Rattle.std.specs.Prelude.{slice_get, unwrap_or}
use Rattle.std.specs.List.{filter_map, range_with_len}
use Rattle.std.specs.Option.{option_map}
use Rattle.trie.specs.Leaf.{Leaf}
use Rattle.trie.specs.Fronts.{word_at, is_front}
use Rattle.trie.specs.Look.{found, look_of}
use Rattle.trie.specs.declared.walk.Walk.{Walk}
use Rattle.trie.specs.declared.walk.Walk.TheVariants.{Word, Inside, Outside}
use Rattle.trie.proofs.Firsts.{first_is, none_is}

-- No front of the bytes is a path.
abbrev pub HasNoPath : List Leaf → List ℕ → Type 0
HasNoPath leaves bytes = (u : ℕ) → 0 < u → u ≤ length bytes → word_at leaves (take u bytes) ≡ None

-- What an answer says of the bytes.
abbrev pub IsWalk : List Leaf → List ℕ → Walk → Type 0
IsWalk leaves bytes (Word word used) =
    (0 < used) × (used ≤ length bytes) × (word_at leaves (take used bytes) ≡ Some word)
IsWalk leaves bytes Inside = HasNoPath leaves bytes
IsWalk leaves bytes Outside = HasNoPath leaves bytes

-- Each answer of a look-up says what it is to say.
pub look_says : (leaves : List Leaf) (bytes : List ℕ) → IsWalk leaves bytes (look_of leaves bytes)
look_says leaves bytes =
    by (slice_get (filter_map (found leaves bytes) (range_with_len 1 (length bytes))) 0) refl
  where
    some_none : {X : Type 0} {x : X} → Some x ≡ None → ⊥
    some_none e = cc

    is_none : (u : ℕ) (o : Option ℕ) → option_map (λ w. Word w u) o ≡ None → o ≡ None
    is_none u None e = refl
    is_none u (Some w) e = absurd (some_none e)

    some_word : (u : ℕ) (o : Option ℕ) (w : Walk) → 0 < u → u ≤ length bytes →
        word_at leaves (take u bytes) ≡ o →
        option_map (λ x. Word x u) o ≡ Some w → IsWalk leaves bytes w
    some_word u None w pos low is e = absurd (some_none (sym e))
    some_word u (Some x) w pos low is e = subst (IsWalk leaves bytes) same (pos, low, is)
      where
        same : Word x u ≡ w
        same = cc

    either : (b : Bool) → HasNoPath leaves bytes → IsWalk leaves bytes (cond b Inside Outside)
    either true h = h
    either false h = h

    by : (o : Option Walk) →
        slice_get (filter_map (found leaves bytes) (range_with_len 1 (length bytes))) 0 ≡ o →
        IsWalk leaves bytes (unwrap_or o (cond (is_front leaves bytes) Inside Outside))
    by (Some w) e =
        let first = first_is (found leaves bytes) 1 (length bytes) w e in
        some_word first.0 (word_at leaves (take first.0 bytes)) w (omega (arith, first.1))
        (omega (arith, first.2)) refl first.3
    by None e = either (is_front leaves bytes)
        (λ u pos low. is_none u (word_at leaves (take u bytes))
        (none_is (found leaves bytes) 1 (length bytes) e u pos (omega arith)))
