use Rattle.std.proofs.Common.{Err, refl, subst}
use Rattle.mg_dev.specs.Names.{full_name}
use Rattle.mg_check_parts.proofs.CallerLemmas.{looks_bytes}
use Rattle.mg_check_parts.specs.Refusals.{WhereBad}
use Rattle.mg_check_index.specs.Counting.{Comparing, GoesOnOtherwise}
use Rattle.mg_check_index.proofs.Comparing.{begun_more, goes_on_otherwise}
use Rattle.mg_check_index.proofs.comparison.Comparison.expect.Goals as goal

pub returns-in-Err-clause-begun : goal.returns-in-Err-clause-begun
returns-in-Err-clause-begun g c = record {
  done = tt;
  bad = λ told.
      let there : Comparing = record { name = full_name c.self.inside.base.now c.self.inside.part; at = c.self.inside.at } in
      subst (λ (k : Comparing). WhereBad {T = Unit {0}} (GoesOnOtherwise k (g.S.Store.files c.args.store.now) c.args.wanted.now) (Err c.in-Err.refusal)) c.self.view_is
      (goes_on_otherwise c.in-Err.refusal there (g.S.Store.files c.args.store.now) c.args.wanted.now (c.in-Err.ensures.answer told));
  looks = looks_bytes c.self.inside.part c.self.invariant c.expect_bytes.ensures.files c.expect_bytes.ensures.reads c.in-Err.ensures.cause;
}

pub returns-clause-begun : goal.returns-clause-begun
returns-clause-begun g c = record {
  done = rw (← c.self.view_is) (begun_more _ _ _ _ c.args.wanted.now refl refl c.expect_bytes.ensures.files c.in-Ok.ensures.answer);
  bad = λ told. tt;
  looks = looks_bytes c.self.inside.part c.self.invariant c.expect_bytes.ensures.files c.expect_bytes.ensures.reads c.in-Ok.ensures.cause;
}
