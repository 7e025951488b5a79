use Rattle.std.proofs.Common.{◌≡◌, ◌<◌, ◌++◌, ◌∷◌, [], length, map, get_or, ap, sym, ◌∙◌, subst, arith}
use Rattle.std.proofs.lemmas.Grind.{common_steps}
use Rattle.std.proofs.lemmas.List.{get_or_default}
use Rattle.runtime_histories.specs.Entries.{loaded_of}
use Rattle.runtime_histories.specs.Places.{pages_for}
use Rattle.runtime_histories.specs.Legal.{AreCounted}
use Rattle.pair_openings.proofs.Loading.{need_within, loads_more, counted_more}
use Rattle.pair_openings.proofs.loads.loads_of.Goals as goal

pub load_of-requires : goal.load_of-requires
load_of-requires c =
    let lt : c.loop-place.place < length c.args.all.now = omega arith in
    let all = need_within c.args.all.now c.loop-place.place c.index-all-place.result lt in
    let few = c.requires.few in
    let is : pages_for c.index-all-place.result ≡ pages_for (get_or c.args.all.now c.loop-place.place c.index-all-place.result) = ap pages_for c.index-all-place.is in
    omega (arith, all, few, is)

pub loop-place-preserved : goal.loop-place-preserved
loop-place-preserved c =
    let ms = c.args.modules.now in
    let ts = c.args.all.now in
    let lt : c.loop-place.place < length ms = omega arith in
    let m_is = get_or_default ms c.loop-place.place 0 (get_or ms c.loop-place.place 0) lt in
    let put : c.push.new.self.items ≡ c.loop-place.loads.items ++ c.in_ok-load_of.field-0 ∷ [] = grind (arith, common_steps) in
    let more = loads_more ms ts c.loop-place.place (get_or ms c.loop-place.place 0) c.index-all-place.result lt c.requires.same m_is c.index-all-place.is c.loop-place.loads.items c.in_ok-load_of.field-0 c.in_ok-load_of.ensures.load c.loop-place.invariant.loads in
    let counted = counted_more ms ts c.loop-place.place (get_or ms c.loop-place.place 0) c.index-all-place.result lt c.requires.same m_is c.index-all-place.is c.loop-place.loads.items c.in_ok-load_of.field-0 c.in_ok-load_of.ensures.load c.loop-place.invariant.counted c.in_ok-load_of.ensures.pages in
    record {
      loads = ap (map loaded_of) put ∙ more;
      counted = subst AreCounted (sym put) counted;
    }
