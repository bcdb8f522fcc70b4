use Rattle.std.proofs.Common.{Err, sym, subst, IsSome}
use Rattle.mg_check_index.specs.Counting.{HasTallied, HaveTallied, NotTallied, Tallying}
use Rattle.mg_check_parts.specs.Refusals.{WhereBad}
use Rattle.mg_check_index.proofs.TallyAdds.{have_tallied, runs_other, weights_other}
use Rattle.mg_check_parts.proofs.CallerLemmas.{looks_then}
use Rattle.mg_check_index.proofs.tally.Tally.finish.Goals as goal

pub returns-in-Err-clause-ended : goal.returns-in-Err-clause-ended
returns-in-Err-clause-ended g c = record {
  done = λ told. tt;
  bad = λ told.
      let old : Tallying = record { docs = c.self.inside.docs.items; weights = c.self.inside.weights; runs = c.self.inside.runs; occurrences = c.self.inside.occurrences } in
      subst (λ (t : Tallying). WhereBad {T = Unit {0}} (NotTallied t (g.S.Store.files c.args.store.now)) (Err c.in-Err.refusal)) c.self.view_is
      (weights_other {T = Unit {0}} (Err c.in-Err.refusal) old (g.S.Store.files c.args.store.now) (c.in-Err.ensures.ended.bad told));
  looks = c.in-Err.ensures.ended.looks;
}

pub returns-in-Err-finish-clause-ended : goal.returns-in-Err-finish-clause-ended
returns-in-Err-finish-clause-ended g c = record {
  done = λ told. tt;
  bad = λ told.
      let old : Tallying = record { docs = c.self.inside.docs.items; weights = c.self.inside.weights; runs = c.self.inside.runs; occurrences = c.self.inside.occurrences } in
      let files = c.in-Ok.ensures.ended.looks.files in
      subst (λ (t : Tallying). WhereBad {T = Unit {0}} (NotTallied t (g.S.Store.files c.args.store.now)) (Err c.in-Err-finish.refusal)) c.self.view_is
      (runs_other {T = Unit {0}} (Err c.in-Err-finish.refusal) old (g.S.Store.files c.args.store.now) (g.S.Store.files c.finish.new.store) files
      (c.in-Err-finish.ensures.ended.bad (subst (λ f. IsSome f) (sym files) told)));
  looks = looks_then c.in-Ok.ensures.ended.looks c.in-Err-finish.ensures.ended.looks;
}

pub returns-clause-ended : goal.returns-clause-ended
returns-clause-ended g c = record {
  done = λ told words docs is.
      let old : Tallying = record { docs = c.self.inside.docs.items; weights = c.self.inside.weights; runs = c.self.inside.runs; occurrences = c.self.inside.occurrences } in
      subst (λ (t : Tallying). HasTallied t (g.S.Store.files c.args.store.now) words docs → HaveTallied t (g.S.Store.files c.args.store.now) words docs) c.self.view_is
      (have_tallied old (g.S.Store.files c.args.store.now) (g.S.Store.files c.finish.new.store) c.in-Ok.ensures.ended.looks.files (c.in-Ok.ensures.ended.done told)
      (c.in-Ok-finish.ensures.ended.done (subst (λ f. IsSome f) (sym c.in-Ok.ensures.ended.looks.files) told)) words docs)
      is;
  bad = λ told. tt;
  looks = looks_then c.in-Ok.ensures.ended.looks c.in-Ok-finish.ensures.ended.looks;
}
