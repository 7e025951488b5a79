use Rattle.std.proofs.Common.{◌≡◌, ◌+◌, ◌*◌, ◌≤◌, ◌++◌, ℕ, List, take, drop}
use Rattle.std.specs.List.{flat_map}
use Rattle.step_table.proofs.many.put_codes.Given as goal

abbrev pub invariant-loop-code : goal.invariant-loop-code
invariant-loop-code l = record {
  most : l.end ≤ l.at + 4 * l.code-index;
  least : l.at ≤ l.end;
  front : take l.end l.output ≡ take l.at l.initial.output ++ flat_map (λ (c : List ℕ). c) (take l.code-index l.codes);
  rest : drop l.end l.output ≡ drop l.end l.initial.output;
}
