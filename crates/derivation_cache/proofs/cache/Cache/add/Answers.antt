use Rattle.std.proofs.Common.{subst, sym}
use Rattle.derivation_cache.specs.Known.{Known, Extends}
use Rattle.derivation_cache.proofs.Keeps.{extends_same}
use Rattle.derivation_cache.proofs.cache.Cache.add.Goals as goal

pub returns-in_err-published-clause-kept : goal.returns-in_err-published-clause-kept
returns-in_err-published-clause-kept g c =
    let k = c.args.self.now in
    subst (λ (x : Known). Extends x k) (sym c.self.view_is) (extends_same k)
