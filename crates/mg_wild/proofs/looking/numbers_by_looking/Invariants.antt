use Rattle.std.proofs.Common.{◌≡◌, take}
use Rattle.mg_defs.specs.Rotations.{matching_numbers}
use Rattle.mg_wild.specs.Patterns.{sides_of}
use Rattle.mg_wild.proofs.looking.numbers_by_looking.Given as goal

abbrev pub invariant-loop-number : goal.invariant-loop-number
invariant-loop-number l = l.numbers.items ≡ matching_numbers (sides_of l.pattern) 0 (take l.number l.terms.terms)
