use Rattle.mg_canon.specs.Refusals.{HaveLengths}
use Rattle.mg_canon.proofs.check.check.Given as goal

abbrev pub invariant-loop-symbol : goal.invariant-loop-symbol
invariant-loop-symbol l = HaveLengths l.symbol l.lengths
