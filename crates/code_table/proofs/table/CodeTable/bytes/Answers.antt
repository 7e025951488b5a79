use Rattle.std.proofs.Common.{sym, ap, subst}
use Rattle.code_table.specs.Images.{IsImageOf}
use Rattle.code_table.specs.declared.layout.Layout.{Layout}
use Rattle.code_table.proofs.PlaneLaws.{plane_is}
use Rattle.code_table.proofs.table.CodeTable.bytes.Goals as goal

pub bytes_in-requires-clause-plane : goal.bytes_in-requires-clause-plane
bytes_in-requires-clause-plane c =
    let layout = c.self.inside.layout in
    plane_is c.self.inside.pairs.value.items layout.root layout.pages layout.plane c.as_slice.result.now
    (subst (λ ws. IsImageOf c.self.inside.pairs.value.items layout.root layout.pages ws) (sym c.as_slice.ensures.value)
    c.self.invariant.0)
    (ap (λ (l : Layout). l.plane) c.self.invariant.1)
