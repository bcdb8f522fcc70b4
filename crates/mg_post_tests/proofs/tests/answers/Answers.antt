use Rattle.mg_post_tests.proofs.tests.answers.Goals as goal

pub answers_all-requires : goal.answers_all-requires
answers_all-requires g c = c.in_ok-cursor.ensures.fits (g.S.Store.files c.args.store.now)
