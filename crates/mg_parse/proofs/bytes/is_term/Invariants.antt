use Rattle.std.proofs.Common.{◌≡◌, drop}
use Rattle.mg_defs.specs.Terms.{same_term, folded}
use Rattle.mg_parse.proofs.bytes.is_term.Given as goal

abbrev pub invariant-loop-i : goal.invariant-loop-i
invariant-loop-i l = same_term (drop l.i l.term) (folded (drop l.i l.word)) ≡ same_term l.term (folded l.word)
