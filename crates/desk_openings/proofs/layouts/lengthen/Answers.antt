use Rattle.std.proofs.Common.{◌≡◌, ◌∙◌, ◌++◌, ◌∷◌, [], ap, List, arith}
use Rattle.std.specs.declared.vec.Vec.{Vec}
use Rattle.std.specs.declared.alloc.Global.{Global}
use Rattle.std.proofs.lemmas.Grind.{common_steps}
use Rattle.code_table.specs.declared.layout.Layout.{Layout}
use Rattle.runtime_room.specs.Desks.{layouts_at}
use Rattle.desk_openings.proofs.Keeping.{lengthened}
use Rattle.desk_openings.proofs.layouts.lengthen.Goals as goal

pub loop-alloc-preserved : goal.loop-alloc-preserved
loop-alloc-preserved c m =
    let made : c.push.new.self.items ≡ c.loop-alloc.layouts.items ++ c.new.result ∷ [] = grind (arith, common_steps) in
    ap (λ (z : List (Vec Layout Global)). layouts_at z m) made ∙ (lengthened c.loop-alloc.layouts.items c.new.result m c.new.ensures.items ∙ c.loop-alloc.invariant m)
