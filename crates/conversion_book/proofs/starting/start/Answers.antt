use Rattle.std.proofs.Common.{◌≡◌, ap, sym, subst, true, rules}
use Rattle.std.specs.List.{All}
use Rattle.modules_conf.specs.Charmaps.{names_charmaps}
use Rattle.modules_conf.specs.declared.kind.Kind.{Kind}
use Rattle.module_graph.specs.Graph.{Shape}
use Rattle.derivation_cache.specs.Known.{Known}
use Rattle.conversion_book.proofs.Booking.{modules_known}
use Rattle.conversion_book.proofs.Texts.{graph_text}
use Rattle.conversion_book.proofs.starting.start.Goals as goal

pub new-requires : goal.new-requires
new-requires c = record { known = modules_known c.in_ok-graph.graph c.edges-edges.ensures.graph }

pub returns : goal.returns
returns c = record {
  graph_is = c.in_ok-graph.ensures.value;
  whole = c.edges-edges.ensures.graph;
  text = graph_text c.in_ok-graph.graph (subst (λ (g : Shape). All (λ (k : Kind). names_charmaps k ≡ true) g.kinds) (sym c.in_ok-graph.ensures.value)
      (c.modules_name_charmaps.ensures c.args.conf.now.edges c.args.bindings.now c.requires.bindings.charmaps));
  names = c.in_ok-aliases.ensures.callers;
  directory_is = search rules;
  books = c.in_ok-counts.ensures.graph;
  pages_is = c.in_ok-counts.ensures.pages;
  limit_is = c.in_ok-counts.ensures.limit;
  journal = c.in_ok-counts.ensures.empty;
  told = ap (λ (k : Known). k.graph) c.in_ok-told.ensures;
}
