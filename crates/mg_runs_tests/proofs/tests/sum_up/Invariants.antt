use Rattle.std.proofs.Common.{List}
use Rattle.mg_defs.specs.declared.TermPosting.{TermPosting}
use Rattle.mg_runs.specs.Left.{IsMerging}
use Rattle.mg_runs_tests.proofs.tests.sum_up.Given as goal

abbrev pub invariant-loop-count : goal.invariant-loop-count
invariant-loop-count g l = (left : List TermPosting) × IsMerging l.merge (g.S.Store.files l.store) left
