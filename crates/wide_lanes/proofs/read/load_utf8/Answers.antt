use Rattle.std.proofs.Common.{◌≡◌, ◌≤◌, ℕ, List, [], ◌∷◌, ◌++◌, take, refl, sym, ap, ◌∙◌, subst, arith}
use Rattle.std.specs.List.{AllByRecursion}
use Rattle.std.proofs.lemmas.List.{append-nil}
use Rattle.wide_lanes.specs.Read.{shifted, Shows}
use Rattle.wide_lanes.proofs.ReadLemmas.{gathered, read_on, joined}
use Rattle.wide_lanes.proofs.read.load_utf8.Goals as goal

pub returns-clause-value : goal.returns-clause-value
returns-clause-value c =
    let x = c.args.input.now in
    let q = c.decoded-points.result in
    let ends : List ℕ = c.next-a.result ∷ c.next-b.result ∷ c.next-c.result ∷ c.next-d.result ∷ c.next-e.result ∷ c.next-f.result ∷ c.next-g.result ∷ c.next-h.result ∷ [] in
    let f1 = c.four_at.result in
    let f2 = c.four_at-2.result in
    let f3 = c.four_at-3.result in
    let f4 = c.four_at-4.result in
    let f5 = c.four_at-5.result in
    let f6 = c.four_at-6.result in
    let f7 = c.four_at-7.result in
    let f8 = c.four_at-8.result in
    let fours = c.join_sixteens-fours.result in
    let high = c.join_eights-high.result in
    let low_is : c.join_eights-low.result ≡ (f1 ++ f2) ++ (f3 ++ f4) =
    c.join_eights-low.ensures.value ∙ ap (λ z. z ++ c.join_fours-2.result) c.join_fours.ensures.value ∙ ap (λ z. (f1 ++ f2) ++ z) c.join_fours-2.ensures.value in
    let high_is : high ≡ (f5 ++ f6) ++ (f7 ++ f8) =
    c.join_eights-high.ensures.value ∙ ap (λ z. z ++ c.join_fours-4.result) c.join_fours-3.ensures.value ∙ ap (λ z. (f5 ++ f6) ++ z) c.join_fours-4.ensures.value in
    let rest : high ≡ f5 ++ (f6 ++ (f7 ++ (f8 ++ []))) = sym (append-nil high) ∙ ap (λ z. z ++ []) high_is ∙ joined f5 f6 f7 f8 [] in
    let all : fours ≡ f1 ++ (f2 ++ (f3 ++ (f4 ++ (f5 ++ (f6 ++ (f7 ++ (f8 ++ []))))))) =
    c.join_sixteens-fours.ensures.value ∙ ap (λ z. z ++ high) low_is ∙ joined f1 f2 f3 f4 high ∙ ap (λ z. f1 ++ (f2 ++ (f3 ++ (f4 ++ z)))) rest in
    let places : f1 ++ (f2 ++ (f3 ++ (f4 ++ (f5 ++ (f6 ++ (f7 ++ (f8 ++ []))))))) ≡ gathered x (shifted 0 ends) =
    λ i. c.four_at.ensures.value i ++ (c.four_at-2.ensures.value i ++ (c.four_at-3.ensures.value i ++ (c.four_at-4.ensures.value i
    ++ (c.four_at-5.ensures.value i ++ (c.four_at-6.ensures.value i ++ (c.four_at-7.ensures.value i ++ (c.four_at-8.ensures.value i ++ []))))))) in
    let small : AllByRecursion (λ e. e ≤ 64) ends = (c.next-a.ensures, (c.next-b.ensures, (c.next-c.ensures, (c.next-d.ensures, (c.next-e.ensures, (c.next-f.ensures, (c.next-g.ensures, (c.next-h.ensures, tt)))))))) in
    let r = read_on x 0 ends q c.requires (omega arith) small (c.if-not-are_wide.ensures refl) (c.if-not-follow.ensures refl) (subst (λ v. Shows q v) (all ∙ places) (c.if-not-show.ensures refl)) in
    let same : c.next-h.result ≡ r.size = omega (arith, r.end) in
    ap (λ k. take k x) same ∙ r.bytes
