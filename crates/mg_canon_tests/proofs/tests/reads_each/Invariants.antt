use Rattle.mg_canon_tests.proofs.tests.reads_each.Given as goal

abbrev pub invariant-loop-symbol : goal.invariant-loop-symbol
invariant-loop-symbol g l = g.F.Feed.fits l.reader.feed (g.F.Feed.device l.dev).files
