use Rattle.std.proofs.Common.{◌≤◌, ◌+◌, ◌*◌, ◌^◌, ℕ, length, ◌∙◌, arith}
use Rattle.mg_runs.proofs.Joins.{run_written, wrote_bytes}
use Rattle.mg_runs.proofs.Puts.{aligned_place}
use Rattle.mg_runs.proofs.StepLaws.{write_more, write_none, write_then, writer_refused, writer_wrote}
use Rattle.mg_runs.proofs.Steps.{put_as, tells_err, tells_none}
use Rattle.mg_runs.proofs.join.put_run.Goals as goal

pub returns-in-Err : goal.returns-in-Err
returns-in-Err g c = record {
  told = λ told left has run room count. tells_none ℕ (Unit {0}) _ c.refused.result c.refused.ensures.undamaged;
  place = tt;
  whole = tt;
  step = write_more (write_none {T = Unit {0}} {x = tt} c.args.group.now _ _ _ c.requires.ready.apart.holds)
      (writer_refused {T = ℕ} c.put_number.ensures.puts.name c.put_number.ensures.puts.wrote
      (c.refused.ensures.cause _ _ (put_as (Unit {0}) ℕ _ _ _ c.in-Err.ensures.puts.cause)) c.refused.ensures.names);
}

pub put_postings-requires-clause-ready : goal.put_postings-requires-clause-ready
put_postings-requires-clause-ready g c = record {
  shape = c.requires.ready.shape;
  apart = record {
    holds = c.in-Ok.ensures.puts.holds;
    apart = λ e. c.requires.ready.apart.apart (e ∙ c.put_number.ensures.puts.name);
  };
}

pub returns-in-Err-put_postings : goal.returns-in-Err-put_postings
returns-in-Err-put_postings g c =
    let wrote = c.put_number.ensures.puts.wrote in
    let number = writer_wrote {T = Unit {0}} {x = tt} c.in-Ok.ensures.puts.holds c.put_number.ensures.puts.name wrote c.put_number.ensures.puts.cause.later in
    record {
      told = λ told left has run room count.
          let next = rw (wrote_bytes wrote c.requires.ready.apart.apart) at c.in-Err-put_postings.ensures.told in
          let p = c.in-Ok.ensures.place in
          let after : c.put_number.new.w.place + 256 * length left ≤ 2 ^ 61 = omega arith in
          tells_err (Unit {0}) (Unit {0}) _ _ c.in-Err-put_postings.refusal (next (wrote.told ∙ told) left has run after);
      place = tt;
      whole = tt;
      step = write_then (write_more (write_none {T = Unit {0}} {x = tt} c.args.group.now _ _ _ c.requires.ready.apart.holds) number) c.in-Err-put_postings.ensures.step;
    }

pub returns-in-Ok-align : goal.returns-in-Ok-align
returns-in-Ok-align g c =
    let wrote = c.put_number.ensures.puts.wrote in
    let number = writer_wrote {T = Unit {0}} {x = tt} c.in-Ok.ensures.puts.holds c.put_number.ensures.puts.name wrote c.put_number.ensures.puts.cause.later in
    let aligned = writer_wrote {T = Unit {0}} {x = tt} c.in-Ok-align.ensures.holds c.align.ensures.name c.align.ensures.wrote c.align.ensures.cause.later in
    record {
      told = λ told left has run room count.
          let next = rw (wrote_bytes wrote c.requires.ready.apart.apart) at c.in-Ok-put_postings.ensures.told in
          let p = c.in-Ok.ensures.place in
          let after : c.put_number.new.w.place + 256 * length left ≤ 2 ^ 61 = omega arith in
          let postings = next (wrote.told ∙ told) left has run after in
          run_written left c.requires.whole count wrote.told c.put_postings.ensures.step.writer.pass.passed.told c.in-Ok.ensures.puts.bits postings c.in-Ok-align.ensures.bits;
      place = let h = aligned_place _ _ _ _ c.in-Ok-align.ensures.bits in let p = c.in-Ok-put_postings.ensures.place in omega arith;
      whole = c.in-Ok-align.ensures.whole;
      step = write_more (write_then (write_more (write_none {T = Unit {0}} {x = tt} c.args.group.now _ _ _ c.requires.ready.apart.holds) number) c.in-Ok-put_postings.ensures.step) aligned;
    }

pub returns-in-Err-align : goal.returns-in-Err-align
returns-in-Err-align g c =
    let number = writer_wrote {T = Unit {0}} {x = tt} c.in-Ok.ensures.puts.holds c.put_number.ensures.puts.name c.put_number.ensures.puts.wrote c.put_number.ensures.puts.cause.later in
    let r = c.refused-in-Err-align in
    let stopped = writer_refused {T = ℕ} c.align.ensures.name c.align.ensures.wrote
    (r.ensures.cause _ _ (put_as (Unit {0}) ℕ _ _ _ c.in-Err-align.ensures.cause)) r.ensures.names in
    record {
      told = λ told left has run room count. tells_none ℕ (Unit {0}) _ r.result r.ensures.undamaged;
      place = tt;
      whole = tt;
      step = write_more (write_then (write_more (write_none {T = Unit {0}} {x = tt} c.args.group.now _ _ _ c.requires.ready.apart.holds) number) c.in-Ok-put_postings.ensures.step) stopped;
    }
