use Rattle.mg_bool_tests.proofs.tests.count_all.Goals as goal

pub count_left-requires : goal.count_left-requires
count_left-requires g c = c.in_ok-matches.ensures.fits _
