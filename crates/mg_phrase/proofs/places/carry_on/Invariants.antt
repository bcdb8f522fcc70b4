use Rattle.std.proofs.Common.{◌≡◌, ◌++◌, true, take, drop}
use Rattle.mg_defs.specs.Terms.{folded}
use Rattle.mg_phrase.proofs.PlaceLaws.{stepped}
use Rattle.mg_phrase.proofs.places.carry_on.Given as goal

abbrev pub invariant-loop-i : goal.invariant-loop-i
invariant-loop-i l = stepped true l.phrase l.initial.begun (folded l.word) ≡ take l.i l.begun ++ stepped l.before (drop l.i l.phrase) (drop l.i l.begun) (folded l.word)
