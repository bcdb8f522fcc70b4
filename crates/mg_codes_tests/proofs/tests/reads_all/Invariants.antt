use Rattle.mg_codes_tests.proofs.tests.reads_all.Given as goal

abbrev pub invariant-loop-number : goal.invariant-loop-number
invariant-loop-number g l = g.F.Feed.fits l.r.feed (g.F.Feed.device l.dev).files
