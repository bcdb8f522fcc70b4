use Rattle.std.specs.Prelude.{codes}
use Rattle.mg_bool.specs.Matches.{MatchesFit}
use Rattle.mg_bool_tests.proofs.tests.count_left.Given as goal

abbrev pub invariant-loop-call : goal.invariant-loop-call
invariant-loop-call g l = MatchesFit (codes "set") (g.S.Store.files l.store) l.matches
