use Rattle.std.proofs.Common.{◌≡◌, ◌+◌, drop}
use Rattle.mg_defs.specs.Terms.{folded}
use Rattle.mg_phrase.specs.Marks.{place_in}
use Rattle.mg_phrase.proofs.marks.place_in.Given as goal

abbrev pub invariant-loop-i : goal.invariant-loop-i
invariant-loop-i l = l.i + place_in (drop l.i l.phrase) (folded l.word) ≡ place_in l.phrase (folded l.word)
