use Rattle.std.proofs.Common.{length, sym, ◌∙◌, ap, subst}
use Rattle.mg_dev.specs.Names.{full_name}
use Rattle.mg_defs.specs.Postings.{merged}
use Rattle.mg_runs.specs.Steps.{PoolBack}
use Rattle.mg_runs.specs.declared.group.Group.{Group}
use Rattle.mg_runs.specs.declared.pool.Pool.{Pool}
use Rattle.mg_runs.proofs.Joins.{merged_left, merged_room}
use Rattle.mg_runs.proofs.StepLaws.{back_same, run_err, writer_err, writer_look, writer_look_err, writer_of, writer_ok, writer_then}
use Rattle.mg_runs.proofs.Steps.{tells_err}
use Rattle.mg_runs.proofs.join.join_counted.Goals as goal

pub returns-in-Err : goal.returns-in-Err
returns-in-Err g c = record {
  told = λ told runs at is count. tells_err Group Pool _ _ c.in-Err.refusal (c.in-Err.ensures.group.told told runs at);
  pool = tt;
  step = run_err (writer_look_err c.in-Err.ensures.group.read);
}

pub load-requires : goal.load-requires
load-requires g c = record { slots = c.requires.ready.slots }

pub put_run-requires-clause-whole : goal.put_run-requires-clause-whole
put_run-requires-clause-whole g c = c.requires.ready.whole

pub put_run-requires-clause-ready : goal.put_run-requires-clause-ready
put_run-requires-clause-ready g c = record {
  shape = c.in-Ok.ensures.group.loaded.shape;
  apart = record {
    holds = rw c.load.ensures.group.read.looked.files c.requires.ready.writer.holds;
    apart = λ e. c.requires.ready.writer.apart (ap (λ d. full_name d.base.now d.part) (sym c.in-Ok.ensures.group.loaded.file) ∙ e);
  };
}

pub returns-in-Ok-put_run : goal.returns-in-Ok-put_run
returns-in-Ok-put_run g c = record {
  told = λ told runs at is count.
      let next = rw (c.in-Ok.ensures.group.loaded.file, c.load.ensures.group.read.looked.files) at c.in-Ok-put_run.ensures.told in
      next told (merged runs) (merged_left (c.in-Ok.ensures.group.told told runs at) is.are) is.run (merged_room is) count;
  pool = subst (λ p. PoolBack (length c.args.places.now) c.args.counted.pool p) (sym c.into_pool.ensures) (back_same c.in-Ok.ensures.group.loaded.pool c.put_run.ensures.step.pool);
  step = record {
    place = c.in-Ok-put_run.ensures.place;
    whole = c.in-Ok-put_run.ensures.whole;
    writer = writer_ok (writer_then (writer_look c.requires.ready.writer.holds c.in-Ok.ensures.group.read) (writer_of c.in-Ok.ensures.group.loaded.file c.in-Ok-put_run.ensures.step));
  };
}

pub returns-in-Err-put_run : goal.returns-in-Err-put_run
returns-in-Err-put_run g c = record {
  told = λ told runs at is count.
      let next = rw (c.in-Ok.ensures.group.loaded.file, c.load.ensures.group.read.looked.files) at c.in-Err-put_run.ensures.told in
      tells_err (Unit {0}) Pool _ _ c.in-Err-put_run.refusal (next told (merged runs) (merged_left (c.in-Ok.ensures.group.told told runs at) is.are) is.run (merged_room is) count);
  pool = tt;
  step = run_err (writer_err (writer_then (writer_look c.requires.ready.writer.holds c.in-Ok.ensures.group.read) (writer_of c.in-Ok.ensures.group.loaded.file c.in-Err-put_run.ensures.step)));
}
