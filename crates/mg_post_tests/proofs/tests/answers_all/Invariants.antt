use Rattle.mg_post.specs.Cursor.{CursorFits}
use Rattle.mg_post_tests.proofs.tests.answers_all.Given as goal

abbrev pub invariant-loop-step : goal.invariant-loop-step
invariant-loop-step g l = CursorFits l.cursor (g.S.Store.files l.store)
