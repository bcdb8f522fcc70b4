use Rattle.std.proofs.Common.{◌≡◌, ◌++◌, take, drop}
use Rattle.mg_defs.specs.Terms.{folded}
use Rattle.mg_parse.proofs.bytes.fold.Given as goal

abbrev pub invariant-loop-i : goal.invariant-loop-i
invariant-loop-i l = l.out ≡ folded (take l.i l.word) ++ drop l.i l.initial.out
