use Rattle.std.proofs.Common.{◌+◌, Err, ap, refl, subst}
use Rattle.mg_dev.specs.Names.{full_name}
use Rattle.mg_check_parts.proofs.CallerLemmas.{looks_err, looks_ok}
use Rattle.mg_check_parts.specs.Refusals.{WhereBad}
use Rattle.mg_check_index.specs.Counting.{Comparing, GoesOnOtherwise, run_of_pool}
use Rattle.mg_check_index.proofs.Comparing.{begun_more, goes_on_refuted}
use Rattle.mg_check_index.proofs.comparison.Comparison.expect_run.Goals as goal

pub returns-in-Err-clause-begun : goal.returns-in-Err-clause-begun
returns-in-Err-clause-begun g c = record {
  done = tt;
  bad = λ told.
      let there : Comparing = record { name = full_name c.self.inside.base.now c.self.inside.part; at = c.self.inside.at } in
      subst (λ (k : Comparing). WhereBad {T = Unit {0}} (GoesOnOtherwise k (g.S.Store.files c.args.store.now) (run_of_pool c.args.pool.now)) (Err c.in-Err.refusal)) c.self.view_is
      (goes_on_refuted c.in-Err.refusal there (g.S.Store.files c.args.store.now) (run_of_pool c.args.pool.now) (c.in-Err.ensures.other told));
  looks = looks_err c.in-Err.ensures.looks;
}

pub returns-clause-begun : goal.returns-clause-begun
returns-clause-begun g c = record {
  done = rw (← c.self.view_is) (begun_more _ _ _ _ (run_of_pool c.args.pool.now) refl (ap (λ n. c.self.inside.at + n) c.in-Ok.ensures.size.count) c.expect_run.ensures.looks.files
      c.in-Ok.ensures.stand);
  bad = λ told. tt;
  looks = looks_ok c.in-Ok.ensures.looks;
}
