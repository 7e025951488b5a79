use Rattle.std.proofs.Common.{◌≡◌, ◌+◌, ◌*◌, ◌<◌, ◌≤◌, ◌^◌, ◌∙◌, ℕ, suc, arith, sym, ap, length, cond, ltb, Ok, Err}
use Rattle.std.proofs.lemmas.List.{length-drop}
use Rattle.std.proofs.lemmas.Bool.{lt-ltb, le-ltb, eqb-true, eqb-false, ne_eqb}
use Rattle.std.proofs.Math.Nat.{pow-suc, pow-le-pow_right}
use Rattle.code_pairs.specs.Bytes.{big_endian}
use Rattle.charmap_words.specs.declared.codes.CodeFault.TheVariants.{BadCode, CodeLength}
use Rattle.charmap_words.proofs.BytePlaces.{byte_places}
use Rattle.charmap_words.proofs.Spellings.{code_step, coded, coded_at_end, coded_at_fault}
use Rattle.charmap_words.proofs.codes.read_code.Goals as goal

pub returns-in_default : goal.returns-in_default
returns-in_default c =
    let none = eqb-false (length c.loop-rest.rest.now) 0 (sym c.is_empty.ensures
    ∙ c.loop-rest-test.true) in
    let some : 0 < length c.loop-rest.rest.now = pos_from_ne (length c.loop-rest.rest.now) none in
    coded_at_fault c.args.escape c.loop-rest.count c.loop-rest.value c.loop-rest.rest.now
    c.args.word.now some
    (sym (byte_places c.args.escape c.loop-rest.rest.now) ∙ sym c.byte_in.ensures.value
    ∙ c.in_default.is) c.loop-rest.invariant.told
  where
    pos_from_ne : (n : ℕ) → (n ≡ 0 → ⊥) → 0 < n
    pos_from_ne n ne = omega (arith, ne)

pub value_with-value-requires : goal.value_with-value-requires
value_with-value-requires c =
    λ less. omega (arith, c.loop-rest.invariant.fits (omega arith), pow_up c.loop-rest.count less)
  where
    pow_up : (n : ℕ) → n < 4 → 256 ^ n ≤ 256 ^ 3
    pow_up n less = let le : n ≤ 3 = omega arith in pow-le-pow_right (omega arith) le

pub loop-rest-preserved : goal.loop-rest-preserved
loop-rest-preserved c =
    let text = c.loop-rest.rest.now in
    let count = c.loop-rest.count in
    let value = c.loop-rest.value in
    let byte = c.in-Some.byte in
    let next : count < 4 → c.value_with-value.result ≡ 256 * value + byte =
    λ h. c.value_with-value.ensures
    ∙ ap (λ b. cond b (256 * value + byte) value) (lt-ltb count 4 h) in
    record {
      told = code_step c.args.escape text c.behind-rest.result.now count value byte
          c.value_with-value.result c.in-Some.taken
          (sym (byte_places c.args.escape text) ∙ sym c.in-Some.ensures.value)
          c.behind-rest.ensures next ∙ c.loop-rest.invariant.told;
      fits = λ h. (let power : 256 ^ suc count ≡ 256 ^ count * 256 = pow-suc 256 count in
          omega (
            arith,
            next (omega arith),
            c.loop-rest.invariant.fits (omega arith),
            c.in-Some.ensures.small,
            ap (λ n. 256 ^ n) (more count),
          ));
      room = omega (
        arith,
        ap length c.behind-rest.ensures,
        length-drop c.in-Some.taken text,
        c.in-Some.ensures.taken.0,
        c.in-Some.ensures.taken.1,
      );
    }
  where
    more : (n : ℕ) → n + 1 ≡ suc n
    more n = omega arith

pub new-requires-clause-fits : goal.new-requires-clause-fits
new-requires-clause-fits c = c.loop-rest.invariant.fits (omega arith)

pub returns-then-count-eq0 : goal.returns-then-count-eq0
returns-then-count-eq0 c =
    ap (λ n. coded (cond (ltb 4 n) (Err CodeLength) (Ok (n, c.loop-rest.value))))
    (sym c.if-count-eq0.true)
    ∙ coded_at_end c.args.escape c.loop-rest.count c.loop-rest.value c.loop-rest.rest.now
    c.args.word.now
    (eqb-true (length c.loop-rest.rest.now) 0 (sym c.is_empty.ensures ∙ c.loop-rest-test.false))
    c.loop-rest.invariant.told

pub returns-then-count-gt4 : goal.returns-then-count-gt4
returns-then-count-gt4 c =
    ap (λ t. coded (cond t (Err CodeLength) (Ok (c.loop-rest.count, c.loop-rest.value))))
    (sym (lt-ltb 4 c.loop-rest.count c.if-count-gt4.true))
    ∙ coded_at_end c.args.escape c.loop-rest.count c.loop-rest.value c.loop-rest.rest.now
    c.args.word.now
    (eqb-true (length c.loop-rest.rest.now) 0 (sym c.is_empty.ensures ∙ c.loop-rest-test.false))
    c.loop-rest.invariant.told

pub returns : goal.returns
returns c =
    ap Ok c.new.ensures
    ∙ ap (λ t. cond t (Err BadCode) (Ok (big_endian c.loop-rest.count c.loop-rest.value)))
    (sym (ne_eqb c.loop-rest.count 0 c.if-count-eq0.false))
    ∙ ap (λ t. coded (cond t (Err CodeLength) (Ok (c.loop-rest.count, c.loop-rest.value))))
    (sym (le-ltb 4 c.loop-rest.count c.if-count-gt4.false))
    ∙ coded_at_end c.args.escape c.loop-rest.count c.loop-rest.value c.loop-rest.rest.now
    c.args.word.now
    (eqb-true (length c.loop-rest.rest.now) 0 (sym c.is_empty.ensures ∙ c.loop-rest-test.false))
    c.loop-rest.invariant.told
