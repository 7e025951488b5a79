use Rattle.std.proofs.Common.{◌≡◌, ◌∙◌, rules, nat_lt, ap}
use Rattle.std.specs.List.{list_any}
use Rattle.runtime_histories.specs.Deeds.{same_pair}
use Rattle.module_counts.specs.Lives.{Living, counts_of, pair_of, pair_shown, somes}
use Rattle.module_counts.specs.declared.lives.Live.{Live}
use Rattle.module_counts.specs.declared.lives.Key.{Key}
use Rattle.module_counts.proofs.Slots.{any_count}
use Rattle.module_counts.proofs.lives.Lives.has_pair.Goals as goal

pub returns : goal.returns
returns c =
    let key = c.key_of.result in
    let count : c.unwrap_or-count.result ≡ counts_of c.self.inside.pairs key = search rules in
    ap (nat_lt 0) (count ∙ c.self.invariant.counted key) ∙ (any_count key (somes c.self.inside.slots.items)
    ∙ (ap (λ (k : Key). list_any (λ (x : Live). same_pair (pair_shown x) (pair_of k)) (somes c.self.inside.slots.items)) c.key_of.ensures
    ∙ ap (λ (z : Living). list_any (λ (x : Live). same_pair (pair_shown x) (record { generation = 0; from = c.args.from.now; to = c.args.to.now })) z.items) c.self.view_is))
