use Rattle.std.proofs.Common.{◌≡◌, ℕ, Option, MatchOption, sym, subst}
use Rattle.std.proofs.Math.ListN.{set}
use Rattle.std.proofs.lemmas.List.{map-set}
use Rattle.std.specs.declared.vec.Vec.{Vec}
use Rattle.std.specs.declared.alloc.Global.{Global}
use Rattle.module_counts.specs.Stocks.{lists}
use Rattle.module_counts.proofs.homes.Homes.place_one.Goals as goal

pub returns-in-Some-clause-rows : goal.returns-in-Some-clause-rows
returns-in-Some-clause-rows c =
    let old = c.args.self.now.rows.items in
    subst (λ (o : Option (Vec ℕ Global)). MatchOption o (lists (set old c.args.«module» c.in-Some.pages) ≡ lists old) (λ v. lists (set old c.args.«module» c.in-Some.pages) ≡ set (lists old) c.args.«module» v.items))
    (sym c.in-Some.is) (map-set (λ (v : Vec ℕ Global). v.items) old c.args.«module» c.in-Some.pages)
