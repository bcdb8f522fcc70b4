use Rattle.mg_check_index.proofs.DocumentSums.{IsCounting}
use Rattle.mg_check_index.proofs.tally.count_terms.Given as goal

abbrev pub invariant-loop-term : goal.invariant-loop-term
invariant-loop-term l = IsCounting l.term-index l.counted l.initial.docs l.docs
