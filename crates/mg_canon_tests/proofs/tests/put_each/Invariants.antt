use Rattle.mg_bits.specs.BitWriting.{Holds}
use Rattle.mg_canon_tests.proofs.tests.put_each.Given as goal

abbrev pub invariant-loop-symbol : goal.invariant-loop-symbol
invariant-loop-symbol g l = Holds l.writer (g.S.Store.files l.store)
