use Rattle.std.proofs.Common.{◌≡◌, take}
use Rattle.mg_defs.specs.Terms.{folded}
use Rattle.mg_query.proofs.term.Term.of_word.Given as goal

abbrev pub invariant-loop-byte : goal.invariant-loop-byte
invariant-loop-byte l = l.bytes.items ≡ folded (take l.byte-index l.word)
