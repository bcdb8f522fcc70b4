use Rattle.std.proofs.Common.{Err, ◌++◌, ℕ, List, subst}
use Rattle.mg_check_parts.specs.Refusals.{WhereBad}
use Rattle.mg_check_index.specs.Counting.{GoesOnOtherwise, HasBegun, Weighing, WeighsOtherwise}
use Rattle.mg_check_index.proofs.Comparing.{compared_all, held_bad}
use Rattle.mg_check_index.proofs.weights.Weights.compare.Goals as goal

pub returns-in-Err-clause-compared : goal.returns-in-Err-clause-compared
returns-in-Err-clause-compared g c = record {
  done = tt;
  bad = λ told.
      let old : Weighing = record { part = c.self.inside.part; held = c.self.inside.held.items } in
      let files = g.S.Store.files c.args.store.now in
      subst (λ (w : Weighing). WhereBad {T = Unit {0}} (WeighsOtherwise w files) (Err c.in-Err.refusal)) c.self.view_is
      (held_bad c.in-Err.refusal old files
      (subst (λ (b : List ℕ). WhereBad {T = Unit {0}} (GoesOnOtherwise c.self.inside.part files b) (Err c.in-Err.refusal)) c.deref.ensures.value (c.in-Err.ensures.begun.bad told)));
  looks = c.in-Err.ensures.begun.looks;
}

pub returns-clause-compared : goal.returns-clause-compared
returns-clause-compared g c =
    let old : Weighing = record { part = c.self.inside.part; held = c.self.inside.held.items } in
    let new : Weighing = record { part = c.expect.new.self; held = c.clear.new.self.items } in
    let now = g.S.Store.files c.expect.new.store in
    record {
      done = rw (← c.self.view_is)
          (compared_all old new (g.S.Store.files c.args.store.now) now c.clear.ensures.items
          (λ done begun. subst (λ (b : List ℕ). HasBegun c.expect.new.self now (done ++ b)) c.deref.ensures.value (c.in-Ok.ensures.begun.done done begun)));
      bad = λ told. tt;
      looks = c.in-Ok.ensures.begun.looks;
    }
