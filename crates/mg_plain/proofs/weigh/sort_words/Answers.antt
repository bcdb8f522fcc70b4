use Rattle.std.proofs.Common.{rules, ◌≡◌}
use Rattle.std.specs.Ordering.{is_lt}
use Rattle.std.proofs.lemmas.Cmp.{nat_list_cmp_total}
use Rattle.std.proofs.lemmas.Fn.{always_returns_same}
use Rattle.std.proofs.lemmas.List.Sorted.{ranks_by}
use Rattle.mg_defs.specs.Terms.{folded}
use Rattle.mg_plain.proofs.WordLaws.{by_term, ascends}
use Rattle.mg_plain.proofs.weigh.sort_words.Goals as goal

pub returns-clause-sorted : goal.returns-clause-sorted
returns-clause-sorted c = ascends _ (c.sort_unstable_by.ensures.sorted by_term (ranks_by nat_list_cmp_total (λ x. folded x.now))
    (always_returns_same _ (λ a r. is_lt r ≡ by_term a.0.now a.1.0.now) _ (λ a r f' k. search rules)))
