use Rattle.std.proofs.Common.{◌≡◌, ◌+◌, length, take, drop, map}
use Rattle.std.specs.Vec.Iter.{into_iter_items, into_iter_len}
use Rattle.runtime_histories.specs.Entries.{loaded_of}
use Rattle.conversion_book.specs.Descriptors.{kept_as}
use Rattle.conversion_book.proofs.kept.keep_loads.Given as goal

abbrev pub invariant-loop-load : goal.invariant-loop-load
invariant-loop-load l = record {
  kept : map kept_as l.kept.items ≡ map loaded_of (take l.load-index l.loads);
  left : into_iter_items l.rest ≡ drop l.load-index (into_iter_items l.initial.rest);
  rest : into_iter_len l.rest + l.load-index ≡ length l.loads;
}
