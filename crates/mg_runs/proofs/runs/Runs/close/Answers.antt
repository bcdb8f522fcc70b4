use Rattle.std.proofs.Common.{sym, ◌∙◌, ap, arith, refl}
use Rattle.mg_dev.specs.Files.{bytes_at}
use Rattle.mg_defs.specs.Bits.{bits_of}
use Rattle.mg_runs.specs.Fed.{Inverting}
use Rattle.mg_runs.proofs.Feeding.{fed_entries, fed_may_end}
use Rattle.mg_runs.proofs.Finishing.{AllPut, put_last, put_none, wrote_more}
use Rattle.mg_runs.proofs.LastRun.{run_is_bytes}
use Rattle.mg_runs.proofs.Puts.{cause_more}
use Rattle.mg_runs.proofs.runs.Runs.close.Goals as goal
use Rattle.mg_runs.proofs.runs.Runs.close.Goals.{then-used-gt0+in-Ok, else-used-gt0}

pub end_run-requires-clause-entries : goal.end_run-requires-clause-entries
end_run-requires-clause-entries g c =
    let was = rw (← c.self.view_is) at c.requires.fed.1 in
    fed_entries _ _ c.requires.fed.0 was

pub end_run-requires-clause-writer : goal.end_run-requires-clause-writer
end_run-requires-clause-writer g c =
    let was = rw (← c.self.view_is) at c.requires.fed.1 in
    fed_may_end _ _ c.requires.fed.0 was

pub returns-in-Err : goal.returns-in-Err
returns-in-Err g c = record {
  closed =
      let fed_is = rw (← c.self.view_is) at c.requires.fed.1 in
      rw (← c.self.view_is)
      (record {
        run = λ told fed was. tt;
        bytes = λ told. tt;
        places = λ fed was. tt;
        entries = tt;
        limit = c.end_run.ensures.spilled.limit;
        peak = c.end_run.ensures.spilled.peak;
        base = refl;
        wrote = rw fed_is.name at c.end_run.ensures.spilled.wrote;
        cause = c.in-Err.ensures.spilled.cause;
      });
}

pub returns-in-Err-finish : goal.returns-in-Err-finish
returns-in-Err-finish g c = record {
  closed =
      let fed = rw (← c.self.view_is) at c.requires.fed.1 in
      let now = c.if-used-gt0.self-inside in
      let was : Inverting = record { pool = c.self.inside.pool; writer = c.self.inside.writer; places = c.self.inside.places.items; base = c.self.inside.base.now } in
      let is : Inverting = record { pool = now.pool; writer = now.writer; places = now.places.items; base = now.base.now } in
      let put
      = elim c.if-used-gt0.branch as
      (λ _. AllPut was is (g.S.Store.files c.args.store.now) (g.S.Store.files c.if-used-gt0.store) (g.S.Store.reads c.args.store.now) (g.S.Store.reads c.if-used-gt0.store)
      (g.S.Store.faults c.args.store.now) (g.S.Store.faults c.if-used-gt0.store)) [
        | then-used-gt0+in-Ok w ↦ rw (w.self-inside-is, w.store-is) (put_last c.requires.fed.0 fed (omega (arith, w.if-used-gt0.true)) c.used.ensures.value refl w.in-Ok.ensures)
        | else-used-gt0 w ↦ rw (w.self-inside-is, w.store-is) (put_none c.requires.fed.0 fed (omega (arith, w.if-used-gt0.false)) c.used.ensures.value)
      ] in
      rw (← c.self.view_is)
      (record {
        run = λ told fed was. tt;
        bytes = λ told. tt;
        places = λ fed was. tt;
        entries = tt;
        limit = put.limit;
        peak = put.peak;
        base = put.base;
        wrote = wrote_more put.wrote put.name c.finish.ensures.wrote;
        cause = cause_more _ put.later c.in-Err-finish.ensures.cause;
      });
}

pub returns : goal.returns
returns g c = record {
  closed =
      let fed = rw (← c.self.view_is) at c.requires.fed.1 in
      let now = c.if-used-gt0.self-inside in
      let was : Inverting = record { pool = c.self.inside.pool; writer = c.self.inside.writer; places = c.self.inside.places.items; base = c.self.inside.base.now } in
      let is : Inverting = record { pool = now.pool; writer = now.writer; places = now.places.items; base = now.base.now } in
      let put
      = elim c.if-used-gt0.branch as
      (λ _. AllPut was is (g.S.Store.files c.args.store.now) (g.S.Store.files c.if-used-gt0.store) (g.S.Store.reads c.args.store.now) (g.S.Store.reads c.if-used-gt0.store)
      (g.S.Store.faults c.args.store.now) (g.S.Store.faults c.if-used-gt0.store)) [
        | then-used-gt0+in-Ok w ↦ rw (w.self-inside-is, w.store-is) (put_last c.requires.fed.0 fed (omega (arith, w.if-used-gt0.true)) c.used.ensures.value refl w.in-Ok.ensures)
        | else-used-gt0 w ↦ rw (w.self-inside-is, w.store-is) (put_none c.requires.fed.0 fed (omega (arith, w.if-used-gt0.false)) c.used.ensures.value)
      ] in
      rw (← c.self.view_is)
      (record {
        run = λ told fed was.
            put.bits fed was told _ (ap (λ n. bits_of (bytes_at (g.S.Store.files c.finish.new.store) n)) (sym put.name) ∙ c.in-Ok-finish.ensures.file (put.wrote.told ∙ told));
        bytes = λ told. run_is_bytes _ _ _ (c.finish.ensures.wrote.told ∙ (put.wrote.told ∙ told)) (c.finish.ensures.name ∙ put.name) c.in-Ok-finish.ensures.holds;
        places = put.places;
        entries = put.entries;
        limit = put.limit;
        peak = put.peak;
        base = put.base;
        wrote = wrote_more put.wrote put.name c.finish.ensures.wrote;
        cause = record { later = omega (arith, put.later, c.finish.ensures.cause.later); failed = λ e. absurd cc };
      });
}
