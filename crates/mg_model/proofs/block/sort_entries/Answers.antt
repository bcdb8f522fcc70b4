use Rattle.std.proofs.Common.{rules, ◌≡◌}
use Rattle.std.specs.Ordering.{is_lt}
use Rattle.std.proofs.lemmas.Fn.{always_returns_same}
use Rattle.mg_model.proofs.SortedBlocks.{lies_below, below-weak, sorted-pieces_of}
use Rattle.mg_model.proofs.block.sort_entries.Goals as goal

pub returns-clause-sorted : goal.returns-clause-sorted
returns-clause-sorted c = sorted-pieces_of c.args.long.now c.sort_unstable_by.new.self.items
    (c.sort_unstable_by.ensures.sorted (lies_below c.args.long.now) (below-weak c.args.long.now)
    (always_returns_same _ (λ a r. is_lt r ≡ lies_below c.args.long.now a.0.now a.1.0.now) _ (λ a r f' k. search rules)))
