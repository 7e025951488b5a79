use Rattle.std.proofs.Common.{◌≡◌, sym, subst, true, rules}
use Rattle.std.specs.List.{All}
use Rattle.modules_conf.specs.Charmaps.{names_charmaps}
use Rattle.modules_conf.specs.declared.kind.Kind.{Kind}
use Rattle.module_graph.specs.Graph.{Shape}
use Rattle.conversion_book.proofs.Booking.{modules_known}
use Rattle.conversion_book.proofs.Texts.{graph_text}
use Rattle.batch_gconv.proofs.starting.parts_of.Goals as goal

pub returns : goal.returns
returns c = record {
  graph_is = c.in_ok-graph.ensures.value;
  known = modules_known c.in_ok-graph.graph c.edges-edges.ensures.graph;
  text = graph_text c.in_ok-graph.graph (subst (λ (g : Shape). All (λ (k : Kind). names_charmaps k ≡ true) g.kinds) (sym c.in_ok-graph.ensures.value)
      (c.modules_name_charmaps.ensures c.args.conf.now.edges c.args.bindings.now c.requires.bindings.charmaps));
  names = c.in_ok-aliases.ensures.callers;
  folder_is = search rules;
}
