use Rattle.std.specs.Option.{option_copied}
use Rattle.module_graph.proofs.Drafting.{added}
use Rattle.module_graph.proofs.draft.Draft.add.Goals as goal

pub returns : goal.returns
returns c = λ before is. added before c.args.self.now
    (record { names = c.number_of_name-2.new.names; edges = c.push.new.self; kinds = c.number_of_kind.new.kinds })
    c.number_of_name.new.names.keys
    (record { ordinal = c.args.ordinal; source = c.args.source.now; target = c.args.target.now; cost = c.args.cost; kind = option_copied c.args.kind })
    c.in_ok-source.source c.in_ok-target.target c.in_ok-module.«module» is
    c.in_ok-source.ensures.names c.in_ok-source.ensures.number c.in_ok-target.ensures.names c.in_ok-target.ensures.number c.in_ok-module.ensures c.in_ok-push.ensures.items
