use Rattle.std.proofs.Common.{◌≡◌, All}
use Rattle.derivation_cache.specs.Known.{Known}
use Rattle.gconv_runtime.proofs.making.views_of.Given as goal

abbrev pub invariant-loop : goal.invariant-loop
invariant-loop l = record {
  same : l.cache ≡ l.initial.cache;
  views : All (λ (k : Known). k ≡ l.initial.cache) l.views.items;
}
