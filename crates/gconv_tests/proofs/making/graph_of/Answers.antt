use Rattle.std.proofs.Common.{◌≡◌, sym, subst, true}
use Rattle.std.specs.List.{All}
use Rattle.modules_conf.specs.Charmaps.{names_charmaps}
use Rattle.modules_conf.specs.declared.kind.Kind.{Kind}
use Rattle.module_graph.specs.Graph.{Shape}
use Rattle.conversion_book.proofs.Booking.{modules_known}
use Rattle.conversion_book.proofs.Texts.{graph_text}
use Rattle.gconv_tests.proofs.making.graph_of.Goals as goal

pub returns-in-Ok-clause-known : goal.returns-in-Ok-clause-known
returns-in-Ok-clause-known c = modules_known c.in-Ok.graph c.edges-edges.ensures.graph

pub returns-in-Ok-clause-text : goal.returns-in-Ok-clause-text
returns-in-Ok-clause-text c = graph_text c.in-Ok.graph (subst (λ (g : Shape). All (λ (k : Kind). names_charmaps k ≡ true) g.kinds) (sym c.in-Ok.ensures.value)
    (c.modules_name_charmaps.ensures c.args.conf.now.edges c.args.bindings.now c.requires.bindings.charmaps))
