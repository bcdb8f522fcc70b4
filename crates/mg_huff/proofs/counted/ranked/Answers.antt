use Rattle.std.proofs.Common.{rules, ◌≡◌, length, arith, subst}
use Rattle.std.proofs.lemmas.List.Sorted.{IsNonDecreasingBy-from_sort_by_key}
use Rattle.mg_huff.specs.Ranking.{IsListing}
use Rattle.mg_huff.specs.declared.counted.Counted.{Counted}
use Rattle.mg_huff.proofs.Listing.{listed, rising_counts}
use Rattle.mg_huff.proofs.counted.ranked.Goals as goal

pub returns-clause-listed : goal.returns-clause-listed
returns-clause-listed c =
    let e : c.loop-place.place ≡ length c.args.counts.now = omega arith in
    listed c.args.counts.now c.loop-place.order.items c.sort_unstable_by_key.new.self.items
    (subst (λ n. IsListing c.args.counts.now c.loop-place.order.items n) e c.loop-place.invariant) (search rules)

pub returns-clause-rising : goal.returns-clause-rising
returns-clause-rising c =
    rising_counts c.sort_unstable_by_key.new.self.items (IsNonDecreasingBy-from_sort_by_key (λ (p : Counted). p.count) c.sort_unstable_by_key.new.self.items
    c.sort_unstable_by_key.ensures.sorted (λ a r q k. search rules))
