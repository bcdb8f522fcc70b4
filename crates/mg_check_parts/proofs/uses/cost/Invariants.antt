use Rattle.std.proofs.Common.{◌≡◌, ◌+◌, drop}
use Rattle.mg_defs.specs.Cost.{cost_of}
use Rattle.mg_check_parts.proofs.uses.cost.Given as goal

abbrev pub invariant-loop-i : goal.invariant-loop-i
invariant-loop-i l = l.bits + cost_of (drop l.i l.counts) (drop l.i l.lengths) ≡ cost_of l.counts l.lengths
