use Rattle.mg_bits.specs.BitWriting.{Holds}
use Rattle.mg_codes_tests.proofs.tests.put_all.Given as goal

abbrev pub invariant-loop-number : goal.invariant-loop-number
invariant-loop-number g l = Holds l.w (g.S.Store.files l.store)
