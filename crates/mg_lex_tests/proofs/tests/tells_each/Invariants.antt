use Rattle.mg_front.specs.Reading.{FrontFits}
use Rattle.mg_lex_tests.proofs.tests.tells_each.Given as goal

abbrev pub invariant-loop-term : goal.invariant-loop-term
invariant-loop-term g l = FrontFits l.lex (g.S.Store.files l.store)
