use Rattle.std.proofs.Common.{◌-◌}
use Rattle.mg_defs.specs.declared.Stream.TheVariants.{Words}
use Rattle.mg_count.specs.Whole.{GoesOnTo}
use Rattle.mg_count.proofs.whole.word_end.Given as goal

abbrev pub invariant-loop-at : goal.invariant-loop-at
invariant-loop-at l = GoesOnTo Words l.bytes l.from l.at

abbrev pub decreases-loop-at : goal.decreases-loop-at
decreases-loop-at l = l.most - l.at
