use Rattle.std.proofs.Common.{◌≡◌, ◌+◌, ◌^◌, ◌<◌, ◌≤◌, ◌∙◌, ℕ, List, arith, sym, ap, subst, length}
use Rattle.std.proofs.Math.Nat.{pow-le-pow_right}
use Rattle.code_pairs.specs.Bytes.{value_of, big_endian}
use Rattle.code_pairs.proofs.Codes.{counted, valued}
use Rattle.code_pairs.proofs.code.Code.plus.Goals as goal

room : (count value more : ℕ) (now : List ℕ) → big_endian count value ≡ now → value < 256 ^ count → value_of now + more < 256 ^ length now → value + more < 256 ^ count
room count value more now e h r =
    subst (λ n. value + more < 256 ^ n) (sym (counted count value now e)) (subst (λ v. v + more < 256 ^ length now) (sym (valued count value now h e)) r)

small : (n : ℕ) → n ≤ 4 → 256 ^ n ≤ 256 ^ 4
small n h = pow-le-pow_right (omega arith) h

pub overflow_add-result : goal.overflow_add-result
overflow_add-result c =
    omega (
      arith,
      room c.self.inside.count c.self.inside.value c.args.more c.args.self.now c.self.view_is c.self.invariant.2 c.requires,
      small c.self.inside.count c.self.invariant.1,
    )

pub invariant_of-result : goal.invariant_of-result
invariant_of-result c =
    (c.self.invariant.0, c.self.invariant.1, room c.self.inside.count c.self.inside.value c.args.more c.args.self.now c.self.view_is c.self.invariant.2 c.requires)

pub returns : goal.returns
returns c =
    ap (λ n. big_endian n (c.self.inside.value + c.args.more)) (counted c.self.inside.count c.self.inside.value c.args.self.now c.self.view_is)
    ∙ ap (λ v. big_endian (length c.args.self.now) (v + c.args.more))
    (valued c.self.inside.count c.self.inside.value c.args.self.now c.self.invariant.2 c.self.view_is)
