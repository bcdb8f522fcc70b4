use Rattle.std.proofs.Common.{◌∙◌, ap, sym}
use Rattle.std.specs.declared.option.Option.{Option}
use Rattle.mg_dev.specs.Names.{full_name}
use Rattle.mg_defs.specs.declared.TermPosting.{TermPosting}
use Rattle.mg_runs.proofs.Joins.{put_start, passed_bytes}
use Rattle.mg_runs.proofs.StepLaws.{write_err, write_none, write_ok, write_then}
use Rattle.mg_runs.proofs.Steps.{tells_err}
use Rattle.mg_runs.proofs.join.put_postings.Goals as goal

pub loop-posting-init : goal.loop-posting-init
loop-posting-init g c = record {
  shape = c.requires.ready.shape;
  place = c.requires.place;
  step = write_none {T = Unit {0}} c.args.group.now _ _ _ c.requires.ready.apart.holds;
  told = λ told left has run room. put_start _ _ _ _ _ left has run room;
}

pub put_next-requires : goal.put_next-requires
put_next-requires g c =
    let inv = c.loop-posting.invariant in
    record {
      ready = record {
        shape = inv.shape;
        apart = record {
          holds = inv.step.writer.holds;
          apart = λ e. c.requires.ready.apart.apart (ap (λ d. full_name d.base.now d.part) (sym inv.step.file) ∙ e ∙ inv.step.writer.name);
        };
      };
    }

pub loop-posting-preserved : goal.loop-posting-preserved
loop-posting-preserved g c =
    let inv = c.loop-posting.invariant in
    let passed = inv.step.writer.pass.passed in
    record {
      shape = c.in-Ok-Some.ensures.shape;
      place = c.in-Ok-Some.ensures.place inv.place;
      step = write_ok (write_then inv.step c.in-Ok-Some.ensures.step);
      told = λ told left has run room.
          let same = passed_bytes passed c.requires.ready.apart.apart in
          let next = rw (inv.step.file, same) at c.in-Ok-Some.ensures.told in
          rw c.in-Ok-Some.field-0-is at (next (passed.told ∙ told) _ _ _ (inv.told told left has run room));
    }

pub returns-in-Ok-None : goal.returns-in-Ok-None
returns-in-Ok-None g c =
    let inv = c.loop-posting.invariant in
    let passed = inv.step.writer.pass.passed in
    record {
      told = λ told left has run room.
          let next = rw (inv.step.file, passed_bytes passed c.requires.ready.apart.apart) at c.in-Ok-None.ensures.told in
          rw c.in-Ok-None.field-0-is at (next (passed.told ∙ told) _ _ _ (inv.told told left has run room));
      place = c.in-Ok-None.ensures.place inv.place;
      step = write_ok (write_then inv.step c.in-Ok-None.ensures.step);
    }

pub returns-in-Err : goal.returns-in-Err
returns-in-Err g c =
    let inv = c.loop-posting.invariant in
    let passed = inv.step.writer.pass.passed in
    record {
      told = λ told left has run room.
          let next = rw (inv.step.file, passed_bytes passed c.requires.ready.apart.apart) at c.in-Err.ensures.told in
          tells_err (Option TermPosting) (Unit {0}) _ _ c.in-Err.refusal (next (passed.told ∙ told) _ _ _ (inv.told told left has run room));
      place = tt;
      step = write_err (write_then inv.step c.in-Err.ensures.step);
    }
