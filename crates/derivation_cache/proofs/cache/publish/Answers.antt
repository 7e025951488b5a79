use Rattle.std.proofs.Common.{◌≡◌, drop, refl, sym, subst, Some}
use Rattle.left_right.specs.Sides.{view as seat_view}
use Rattle.derivation_cache.specs.Views.{IsOf}
use Rattle.derivation_cache.proofs.Keeps.{shows, appended, shown}
use Rattle.derivation_cache.proofs.cache.publish.Goals as goal

pub publish_as-requires : goal.publish_as-requires
publish_as-requires g c =
    let w = c.append.new.self in let k = c.args.list in
    shows k.graph w.desk.place.id (seat_view w.desk.place) w.desk.shown.value (drop w.behind w.log.items)
    (subst (λ d. IsOf k.graph d.shown.value) (sym c.append.ensures.desk) c.requires.knows.1)
    (appended k.graph c.append.result (drop c.args.writer.behind c.args.writer.log.items) (drop w.behind w.log.items) k (record { same = refl; least = c.requires.least }) c.requires.knows.2 c.append.ensures.pending)

pub returns : goal.returns
returns g c =
    let w = c.append.new.self in let k = c.args.list in let r = c.publish_as.result in
    shown k.graph r.1 (seat_view w.desk.place) (seat_view r.0.desk.place) w.desk.shown.value r.0.desk.shown.value (drop w.behind w.log.items) (drop r.0.behind r.0.log.items)
    (subst (λ d. seat_view d.place ≡ Some k.graph) (sym c.append.ensures.desk) c.requires.knows.0)
    (subst (λ d. IsOf k.graph d.shown.value) (sym c.append.ensures.desk) c.requires.knows.1)
    (appended k.graph c.append.result (drop c.args.writer.behind c.args.writer.log.items) (drop w.behind w.log.items) k (record { same = refl; least = c.requires.least }) c.requires.knows.2 c.append.ensures.pending)
    c.publish_as.ensures.values c.publish_as.ensures.rule
