use Rattle.std.proofs.Common.{ℕ, arith}
use Rattle.std.proofs.lemmas.Result.{IfOk-weaker}
use Rattle.mg_defs.specs.RunBits.{before_first}
use Rattle.mg_runs.specs.Cursors.{HasMoved, IsBegun}
use Rattle.mg_runs.specs.declared.cursor.Cursor.{Cursor}
use Rattle.mg_runs.proofs.StepLaws.{slot_err, slot_refuses, slot_then}
use Rattle.mg_runs.proofs.Steps.{tells_none}
use Rattle.mg_runs.proofs.walk.opened.Goals as goal

pub returns-in-Ok-read_header : goal.returns-in-Ok-read_header
returns-in-Ok-read_header g c =
    let filled = c.in-Ok.ensures.filled in
    let header = c.in-Ok-read_header.ensures in
    record {
      told = λ told xs at.
          let next = rw c.in-Ok.ensures.step.look.looked.files at c.advanced.ensures.told in
          next told before_first xs (header.told _ xs at filled.within (filled.told told));
      begun = IfOk-weaker c.advanced.result (HasMoved c.in-Ok-read_header.cursor) IsBegun
          (λ next moved. record { few = omega (arith, moved.left, header.few); posting = moved.posting }) c.advanced.ensures.moved;
      step = slot_then c.in-Ok.ensures.step c.advanced.ensures.step;
    }

pub returns-in-Err-read_header : goal.returns-in-Err-read_header
returns-in-Err-read_header g c =
    let filled = c.in-Ok.ensures.filled in
    record {
      told = λ told xs at. absurd (c.in-Err-read_header.ensures.told _ xs at filled.within (filled.told told));
      begun = tt;
      step = slot_refuses c.in-Ok.ensures.step c.in-Err-read_header.ensures.refuses;
    }

pub returns-in-Err : goal.returns-in-Err
returns-in-Err g c = record {
  told = λ told xs at. tells_none ℕ Cursor _ c.in-Err.refusal c.in-Err.ensures.undamaged;
  begun = tt;
  step = slot_err c.in-Err.ensures.step;
}
