use Rattle.std.proofs.Common.{rules, ◌∙◌, subst, sym, length, arith}
use Rattle.mg_dev.proofs.CallerLemmas.{cause_err, cause_ok}
use Rattle.mg_runs.specs.Joins.{IsRunPart}
use Rattle.mg_runs.proofs.Naming.{names_its}
use Rattle.mg_runs.proofs.RoundsLoop.{peak_round}
use Rattle.mg_runs.specs.declared.round.Round.{Round}
use Rattle.mg_runs.proofs.Steps.{tells_err}
use Rattle.mg_runs.proofs.Working.{other_is, passed_run, worked_passed, worked_more, some_next}
use Rattle.mg_runs.proofs.round.Round.rounds.Goals as goal

pub loop-alloc-preserved : goal.loop-alloc-preserved
loop-alloc-preserved g c =
    let inv = c.loop-alloc.invariant in
    let passed = rw inv.base at c.joined.ensures.joined.step.passed in
    let n = length c.loop-alloc.round.places.items in
    record {
      entries = c.in-Ok.ensures.joined.next.pool.entries;
      limit = c.in-Ok.ensures.joined.next.pool.limit ∙ inv.limit;
      count = λ none. absurd (some_next c.args.width n _ (omega arith) (omega (arith, c.loop-alloc-test.true, c.len.ensures)) c.in-Ok.ensures.joined.next.count none);
      peak = peak_round c.args.width (length c.args.self.places.items) n _ c.args.self.pool.peak c.loop-alloc.round.pool.peak _ inv.peak
          (omega (arith, c.loop-alloc-test.true, c.len.ensures)) c.in-Ok.ensures.joined.next.pool.peak;
      base = c.in-Ok.ensures.joined.next.base ∙ inv.base;
      part = subst (λ p. IsRunPart p) (sym c.in-Ok.ensures.joined.next.part) (other_is c.loop-alloc.round.file.part);
      told = λ told whole is. c.in-Ok.ensures.joined.told (inv.worked.told ∙ told) whole (inv.told told whole is);
      run = passed_run _ c.loop-alloc.round.file.part passed ∙ inv.run;
      worked = worked_more inv.worked (worked_passed c.loop-alloc.round.file.part inv.part passed);
    }

pub returns-in-Err : goal.returns-in-Err
returns-in-Err g c = record {
  done =
      let inv = c.loop-alloc.invariant in
      let passed = rw inv.base at c.joined.ensures.joined.step.passed in
      record {
        told = λ told whole is. tells_err Round Round _ _ c.in-Err.refusal (c.in-Err.ensures.joined.told (inv.worked.told ∙ told) whole (inv.told told whole is));
        last = tt;
        run = passed_run _ c.loop-alloc.round.file.part passed ∙ inv.run;
        step = record {
          worked = worked_more inv.worked (worked_passed c.loop-alloc.round.file.part inv.part passed);
          cause = cause_err {T = Round} inv.worked.faults c.in-Err.ensures.joined.step.cause;
          names = names_its c.loop-alloc.round.file.part c.in-Err.refusal inv.part c.in-Err.ensures.joined.step.names;
        };
      };
}

pub returns : goal.returns
returns g c = record {
  done =
      let inv = c.loop-alloc.invariant in
      record {
        told = inv.told;
        last = record { few = omega (arith, c.loop-alloc-test.false, c.len.ensures); count = inv.count; entries = inv.entries; limit = inv.limit; peak = inv.peak; base = inv.base; part = inv.part };
        run = inv.run;
        step = record { worked = inv.worked; cause = cause_ok inv.worked.faults; names = tt };
      };
}

pub joined-requires-clause-more : goal.joined-requires-clause-more
joined-requires-clause-more g c = record {
  slots = record { some = search rules; room = search rules; limit = search rules; entries = search rules };
  more = omega (arith, c.loop-alloc-test.true, c.len.ensures);
}
