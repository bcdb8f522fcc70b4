use Rattle.mg_defs.specs.Postings.{term_postings}
use Rattle.mg_runs_tests.proofs.tests.told.Goals as goal

pub sum_up-requires : goal.sum_up-requires
sum_up-requires g c =
    let fed = c.in-Ok.ensures in
    (term_postings fed.0, c.in-Ok-merge.ensures.left fed.0 fed.1)
