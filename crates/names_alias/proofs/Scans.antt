use Rattle.std.proofs.Common.{◌≡◌, ℕ, zero, suc, ◌+◌, ◌<◌, ◌≤◌, true, false, cond, eqb, ltb, List, [], ◌∷◌, ◌++◌, map, length, get_or, take, drop, Result, Ok, Err, refl, sym, ap, subst, ◌∙◌, arith, append_assoc, append-nil, length-append, inl, inr}
use Rattle.std.specs.List.{filter, enumerate_from, slice_split, onto_first}
use Rattle.std.proofs.lemmas.List.{take-append-le, take_all, length-take-le, at_drop_more}
use Rattle.std.proofs.lemmas.Bool.{cases_lt, le-ltb, ne_eqb}
use Rattle.std.proofs.Math.Seq.{drop-length}
use Rattle.names_alias.specs.declared.fault.NameFault.{NameFault}
use Rattle.names_alias.specs.declared.fault.NameFault.TheVariants.{Suffix}
use Rattle.names_alias.specs.NameForm.{to_upper, is_kept, normal_of, checked_name, without_suffix, bytes_of}
use Rattle.names_alias.specs.Scan.{so_far, tail_at}
use Rattle.names_alias.specs.declared.front.Front.{Front}
use Rattle.names_alias.specs.Front.{IsFrontOf}

-- the kept bytes of the bytes from a place on
abbrev pub kept_from : ℕ → List ℕ → List (ℕ × ℕ)
kept_from n bytes = filter (λ p. is_kept p.1) (enumerate_from n (map to_upper bytes))

-- what a scan answers, behind so many slashes, of the kept bytes that are left
abbrev pub finished : ℕ → List ℕ → List ℕ → List (ℕ × ℕ) → Result (List ℕ) NameFault
finished s head tail [] = checked_name head (tail_at s tail)
finished zero head tail (p ∷ ps) = cond (eqb p.1 47) (finished 1 head [] ps) (finished 0 (head ++ p.1 ∷ []) tail ps)
finished (suc zero) head tail (p ∷ ps) = cond (eqb p.1 47) (finished 2 head tail ps) (finished 1 head (tail ++ p.1 ∷ []) ps)
finished (suc (suc n)) head tail (p ∷ ps) = cond (eqb p.1 47) (checked_name head tail) (Err (Suffix p.0))

abbrev parts : List (ℕ × ℕ) → List (List (ℕ × ℕ))
parts ps = slice_split (λ p. eqb p.1 47) ps

abbrev part_at : ℕ → List (ℕ × ℕ) → List (ℕ × ℕ)
part_at i ps = get_or (parts ps) i []

first_more : (p : ℕ × ℕ) (ps : List (List (ℕ × ℕ))) → 0 < length ps → get_or (onto_first p ps) 0 [] ≡ p ∷ get_or ps 0 []
first_more p [] h = absurd (omega arith)
first_more p (q ∷ qs) h = refl

later_more : (p : ℕ × ℕ) (ps : List (List (ℕ × ℕ))) (i : ℕ) → 0 < length ps → get_or (onto_first p ps) (suc i) [] ≡ get_or ps (suc i) []
later_more p [] i h = absurd (omega arith)
later_more p (q ∷ qs) i h = refl

some_onto : (p : ℕ × ℕ) (ps : List (List (ℕ × ℕ))) → 0 < length (onto_first p ps)
some_onto p [] = omega arith
some_onto p (q ∷ qs) = omega arith

some_parts : (ps : List (ℕ × ℕ)) → 0 < length (parts ps)
some_parts [] = omega arith
some_parts (p ∷ ps) = elim (eqb p.1 47) as (λ b. 0 < length (cond b ([] ∷ parts ps) (onto_first p (parts ps)))) [ true ↦ omega arith | false ↦ some_onto p (parts ps) ]

from_two : (head tail : List ℕ) (ps : List (ℕ × ℕ)) → finished 2 head tail ps ≡ without_suffix (part_at 0 ps) head tail
from_two head tail [] = refl
from_two head tail (p ∷ ps) =
    elim (eqb p.1 47) as (λ b. cond b (checked_name head tail) (Err (Suffix p.0)) ≡ without_suffix (get_or (cond b ([] ∷ parts ps) (onto_first p (parts ps))) 0 []) head tail)
    [ true ↦ refl | false ↦ rw (first_more p (parts ps) (some_parts ps)) refl ]

from_one : (head tail : List ℕ) (ps : List (ℕ × ℕ)) → finished 1 head tail ps ≡ without_suffix (part_at 1 ps) head (tail ++ bytes_of (part_at 0 ps))
from_one head tail [] = ap (checked_name head) (sym (append-nil tail))
from_one head tail (p ∷ ps) =
    elim (eqb p.1 47) as (λ b. cond b (finished 2 head tail ps) (finished 1 head (tail ++ p.1 ∷ []) ps) ≡ without_suffix (get_or (cond b ([] ∷ parts ps) (onto_first p (parts ps))) 1 []) head (tail ++ bytes_of (get_or (cond b ([] ∷ parts ps) (onto_first p (parts ps))) 0 []))) [
      | true ↦ from_two head tail ps ∙ ap (without_suffix (part_at 0 ps) head) (sym (append-nil tail))
      | false ↦ from_one head (tail ++ p.1 ∷ []) ps ∙ rw (first_more p (parts ps) (some_parts ps), later_more p (parts ps) 0 (some_parts ps)) (ap (without_suffix (part_at 1 ps) head) (append_assoc tail (p.1 ∷ []) (bytes_of (part_at 0 ps))))
    ]

from_zero : (head : List ℕ) (ps : List (ℕ × ℕ)) → finished 0 head [] ps ≡ without_suffix (part_at 2 ps) (head ++ bytes_of (part_at 0 ps)) (bytes_of (part_at 1 ps))
from_zero head [] = ap (λ h. checked_name h []) (sym (append-nil head))
from_zero head (p ∷ ps) =
    elim (eqb p.1 47) as (λ b. cond b (finished 1 head [] ps) (finished 0 (head ++ p.1 ∷ []) [] ps) ≡ without_suffix (get_or (cond b ([] ∷ parts ps) (onto_first p (parts ps))) 2 []) (head ++ bytes_of (get_or (cond b ([] ∷ parts ps) (onto_first p (parts ps))) 0 [])) (bytes_of (get_or (cond b ([] ∷ parts ps) (onto_first p (parts ps))) 1 []))) [
      | true ↦ from_one head [] ps ∙ ap (λ h. without_suffix (part_at 1 ps) h (bytes_of (part_at 0 ps))) (sym (append-nil head))
      | false ↦ from_zero (head ++ p.1 ∷ []) ps ∙ rw (first_more p (parts ps) (some_parts ps), later_more p (parts ps) 0 (some_parts ps), later_more p (parts ps) 1 (some_parts ps)) (ap (λ h. without_suffix (part_at 2 ps) h (bytes_of (part_at 1 ps))) (append_assoc head (p.1 ∷ []) (bytes_of (part_at 0 ps))))
    ]

-- the whole text, scanned
pub normal_by_scan : (text : List ℕ) → normal_of text ≡ finished 0 [] [] (kept_from 0 text)
normal_by_scan text = sym (from_zero [] (kept_from 0 text))

pub front_push : (old new all : List ℕ) (b : ℕ) → old ≡ take 64 all → (length old < 64 → new ≡ old ++ b ∷ []) → (length old ≡ 64 → new ≡ old) → new ≡ take 64 (all ++ b ∷ [])
front_push old new all b h small large =
    elim (cases_lt (length all) 64) [
      | inl lt ↦ let e : take 64 all ≡ all = take_all 64 all (omega arith) in
          let e2 : length old < 64 = rw (h, e) lt in
          small e2 ∙ ap (λ xs. xs ++ b ∷ []) (h ∙ e) ∙ sym (take_all 64 (all ++ b ∷ []) (rw (length-append) (omega arith)))
      | inr ge ↦ large (rw (h, length-take-le 64 all ge) refl) ∙ h ∙ sym (take-append-le 64 all (b ∷ []) ge)
    ]

-- one more byte of the text
pub kept_yes : (text : List ℕ) (i : ℕ) → i < length text → is_kept (to_upper (get_or text i 0)) ≡ true → kept_from i (drop i text) ≡ (i, to_upper (get_or text i 0)) ∷ kept_from (i + 1) (drop (i + 1) text)
kept_yes text i h k = at_drop_more (kept_from i) text i 0 h ∙ rw k refl

pub kept_no : (text : List ℕ) (i : ℕ) → i < length text → is_kept (to_upper (get_or text i 0)) ≡ false → kept_from i (drop i text) ≡ kept_from (i + 1) (drop (i + 1) text)
kept_no text i h k = at_drop_more (kept_from i) text i 0 h ∙ rw k refl

pub kept_end : (text : List ℕ) → kept_from (length text) (drop (length text) text) ≡ []
kept_end text = rw (drop-length text) refl

-- what one byte more does to a scan
pub record Scanned (text : List ℕ) (first slashes at : ℕ) (front : Front) : Type 0 where
  pub head : List ℕ
  pub tail : List ℕ
  pub written : IsFrontOf front (so_far slashes head tail)
  pub before : first ≡ length head
  pub few : slashes ≤ 2
  pub short : front.len ≤ at
  pub rest : normal_of text ≡ finished slashes head tail (kept_from at (drop at text))

-- the byte at a place, as a name keeps it
abbrev pub byte_at : List ℕ → ℕ → ℕ
byte_at text i = to_upper (get_or text i 0)

-- what a push ensures
abbrev pub Pushes : Front → ℕ → Front → Type 0
Pushes old b new = (new.len ≡ old.len + 1) × ((all : List ℕ) → IsFrontOf old all → IsFrontOf new (all ++ b ∷ []))

finished_slash : (s : ℕ) (head tail : List ℕ) (p : ℕ × ℕ) (ps : List (ℕ × ℕ)) → s < 2 → p.1 ≡ 47 → finished s head tail (p ∷ ps) ≡ finished (s + 1) head (tail_at s tail) ps
finished_slash zero head tail p ps h e = rw e refl
finished_slash (suc zero) head tail p ps h e = rw e refl
finished_slash (suc (suc n)) head tail p ps h e = absurd (omega arith)

so_far_slash : (s : ℕ) (head tail : List ℕ) → s < 2 → so_far s head tail ++ 47 ∷ [] ≡ so_far (s + 1) head (tail_at s tail)
so_far_slash zero head tail h = refl
so_far_slash (suc zero) head tail h = refl
so_far_slash (suc (suc n)) head tail h = absurd (omega arith)

pub scanned_slash : (text : List ℕ) (first slashes i b : ℕ) (old new : Front) → Scanned text first slashes i old → i < length text → b ≡ byte_at text i → is_kept b ≡ true → b ≡ 47 → slashes < 2 → Pushes old b new → Scanned text first (slashes + 1) (i + 1) new
scanned_slash text first slashes i b old new s lt e k is less p =
    record {
      head = s.head;
      tail = tail_at slashes s.tail;
      written = let w : IsFrontOf new (so_far slashes s.head s.tail ++ b ∷ []) = p.1 _ s.written in
          let at : so_far slashes s.head s.tail ++ b ∷ [] ≡ so_far (slashes + 1) s.head (tail_at slashes s.tail) = ap (λ x. so_far slashes s.head s.tail ++ x ∷ []) is ∙ so_far_slash slashes s.head s.tail less in
          subst (λ all. IsFrontOf new all) at w;
      before = s.before;
      few = omega arith;
      short = omega (arith, s.short, p.0);
      rest = s.rest ∙ ap (finished slashes s.head s.tail) (kept_yes text i lt (ap is_kept (sym e) ∙ k)) ∙ finished_slash slashes s.head s.tail (i, byte_at text i) _ less (sym e ∙ is);
    }

finished_first : (head tail : List ℕ) (p : ℕ × ℕ) (ps : List (ℕ × ℕ)) → (p.1 ≡ 47 → ⊥) → finished 0 head tail (p ∷ ps) ≡ finished 0 (head ++ p.1 ∷ []) tail ps
finished_first head tail p ps n = rw (ne_eqb p.1 47 n) refl

finished_second : (head tail : List ℕ) (p : ℕ × ℕ) (ps : List (ℕ × ℕ)) → (p.1 ≡ 47 → ⊥) → finished 1 head tail (p ∷ ps) ≡ finished 1 head (tail ++ p.1 ∷ []) ps
finished_second head tail p ps n = rw (ne_eqb p.1 47 n) refl

pub scanned_first : (text : List ℕ) (first i b : ℕ) (old new : Front) → Scanned text first 0 i old → i < length text → b ≡ byte_at text i → is_kept b ≡ true → (b ≡ 47 → ⊥) → Pushes old b new → Scanned text (first + 1) 0 (i + 1) new
scanned_first text first i b old new s lt e k not p =
    record {
      head = s.head ++ byte_at text i ∷ [];
      tail = s.tail;
      written = subst (λ x. IsFrontOf new (s.head ++ x ∷ [])) e (p.1 _ s.written);
      before = simp length-append (ap (λ n. n + 1) s.before);
      few = omega arith;
      short = omega (arith, s.short, p.0);
      rest = s.rest ∙ ap (finished 0 s.head s.tail) (kept_yes text i lt (ap is_kept (sym e) ∙ k)) ∙ finished_first s.head s.tail (i, byte_at text i) (kept_from (i + 1) (drop (i + 1) text)) (λ x. not (e ∙ x));
    }

pub scanned_second : (text : List ℕ) (first i b : ℕ) (old new : Front) → Scanned text first 1 i old → i < length text → b ≡ byte_at text i → is_kept b ≡ true → (b ≡ 47 → ⊥) → Pushes old b new → Scanned text first 1 (i + 1) new
scanned_second text first i b old new s lt e k not p =
    record {
      head = s.head;
      tail = s.tail ++ byte_at text i ∷ [];
      written = let w : IsFrontOf new ((s.head ++ 47 ∷ s.tail) ++ byte_at text i ∷ []) = subst (λ x. IsFrontOf new ((s.head ++ 47 ∷ s.tail) ++ x ∷ [])) e (p.1 _ s.written) in
          subst (λ all. IsFrontOf new all) (append_assoc s.head (47 ∷ s.tail) (byte_at text i ∷ [])) w;
      before = s.before;
      few = omega arith;
      short = omega (arith, s.short, p.0);
      rest = s.rest ∙ ap (finished 1 s.head s.tail) (kept_yes text i lt (ap is_kept (sym e) ∙ k)) ∙ finished_second s.head s.tail (i, byte_at text i) (kept_from (i + 1) (drop (i + 1) text)) (λ x. not (e ∙ x));
    }

pub scanned_skip : (text : List ℕ) (first slashes i b : ℕ) (front : Front) → Scanned text first slashes i front → i < length text → b ≡ byte_at text i → is_kept b ≡ false → Scanned text first slashes (i + 1) front
scanned_skip text first slashes i b front s lt e k =
    record {
      head = s.head;
      tail = s.tail;
      written = s.written;
      before = s.before;
      few = s.few;
      short = omega (arith, s.short);
      rest = s.rest ∙ ap (finished slashes s.head s.tail) (kept_no text i lt (ap is_kept (sym e) ∙ k));
    }

pub finish_ok : (head tail : List ℕ) (front : Front) → IsFrontOf front (so_far 2 head tail) → (first : ℕ) → first ≡ length head → (first ≡ 0 → ⊥) → front.len ≤ 64 → Ok front.bytes.items ≡ checked_name head tail
finish_ok [] tail front f first e n le = absurd (n e)
finish_ok (b ∷ bs) tail front f first e n le =
    let short : ltb 64 (length (so_far 2 (b ∷ bs) tail)) ≡ false = le-ltb 64 _ (omega (arith, f.len)) in
    rw short (ap Ok (f.bytes ∙ take_all 64 (so_far 2 (b ∷ bs) tail) (omega (arith, f.len))))

pub scanned_head : (text : List ℕ) (first slashes i b : ℕ) (old new : Front) → Scanned text first slashes i old → i < length text → b ≡ byte_at text i → is_kept b ≡ true → (b ≡ 47 → ⊥) → slashes ≡ 0 → Pushes old b new → Scanned text (first + 1) slashes (i + 1) new
scanned_head text first zero i b old new s lt e k n z p = scanned_first text first i b old new s lt e k n p
scanned_head text first (suc m) i b old new s lt e k n z p = absurd (omega arith)

pub scanned_tail : (text : List ℕ) (first slashes i b : ℕ) (old new : Front) → Scanned text first slashes i old → i < length text → b ≡ byte_at text i → is_kept b ≡ true → (b ≡ 47 → ⊥) → (slashes ≡ 0 → ⊥) → (slashes ≡ 2 → ⊥) → Pushes old b new → Scanned text first slashes (i + 1) new
scanned_tail text first zero i b old new s lt e k n z t p = absurd (z refl)
scanned_tail text first (suc zero) i b old new s lt e k n z t p = scanned_second text first i b old new s lt e k n p
scanned_tail text first (suc (suc m)) i b old new s lt e k n z t p = absurd (omega (arith, s.few))
