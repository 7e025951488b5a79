use Rattle.std.proofs.Common.{drop, sym, subst, [], ◌∙◌, rules}
use Rattle.std.proofs.lemmas.List.Elements.{All-same, All-nil}
use Rattle.left_right.specs.Sides.{view as seat_view}
use Rattle.derivation_cache.specs.Known.{Known}
use Rattle.derivation_cache.specs.Views.{IsOf, Publishes}
use Rattle.derivation_cache.proofs.Keeps.{shows, empty_of}
use Rattle.derivation_cache.proofs.cache.Cache.new.Goals as goal

pub publish_as-writer-requires : goal.publish_as-writer-requires
publish_as-writer-requires g c =
    let w = c.in_ok-writer.writer in let s = c.args.graph.now in
    shows s w.desk.place.id (seat_view w.desk.place) w.desk.shown.value (drop w.behind w.log.items)
    (subst (λ (k : Known). IsOf s k) (sym (c.in_ok-writer.ensures.0 ∙ c.in_ok-first.ensures)) (empty_of s))
    (All-same (IsOf s) (drop w.behind w.log.items) [] c.in_ok-writer.ensures.1 (All-nil (IsOf s)))

pub invariant_of-result : goal.invariant_of-result
invariant_of-result g c =
    let s = c.in_ok-told.told.graph in
    subst (λ z. Publishes s (seat_view z.desk.place) z.desk.shown.value (drop z.behind z.log.items)) (sym c.kept.ensures) (search rules)
