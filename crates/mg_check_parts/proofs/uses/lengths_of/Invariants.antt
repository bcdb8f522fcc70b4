use Rattle.std.proofs.Common.{◌≡◌, take}
use Rattle.mg_check_parts.proofs.uses.lengths_of.Given as goal

abbrev pub invariant-loop-symbol : goal.invariant-loop-symbol
invariant-loop-symbol l = l.lengths.items ≡ take l.symbol l.canon
