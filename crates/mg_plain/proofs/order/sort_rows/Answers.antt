use Rattle.std.proofs.Common.{rules, ◌≡◌}
use Rattle.std.specs.Ordering.{is_lt}
use Rattle.std.proofs.lemmas.Fn.{always_returns_same}
use Rattle.std.proofs.lemmas.List.Sorted.{ranks_by}
use Rattle.mg_plain.proofs.RowOrderLaws.{is_above, row_total, ranking_from}
use Rattle.mg_plain.proofs.order.sort_rows.Goals as goal

pub returns-clause-sorted : goal.returns-clause-sorted
returns-clause-sorted c = ranking_from _ _ c.requires c.sort_unstable_by.ensures.permutation
    (c.sort_unstable_by.ensures.sorted is_above (ranks_by row_total (λ r. r))
    (always_returns_same _ (λ a r. is_lt r ≡ is_above a.0.now a.1.0.now) _ (λ a r f' k. search rules)))
