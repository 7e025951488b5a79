use Rattle.std.proofs.Common.{◌≡◌, true, take, min}
use Rattle.std.specs.List.{list_all}
use Rattle.modules_conf.specs.Cost.{decimal, is_digit}
use Rattle.modules_conf.proofs.cost.cost_number.Given as goal

abbrev pub invariant-loop-byte : goal.invariant-loop-byte
invariant-loop-byte l = (list_all is_digit (take l.byte-index l.word) ≡ true) × (l.value ≡ min (decimal (take l.byte-index l.word)) 2147483648)
