use Rattle.std.proofs.Common.{refl, arith, ◌∙◌}
use Rattle.std.proofs.lemmas.Result.{IfOk-weaker}
use Rattle.mg_runs.specs.Cursors.{HasMoved}
use Rattle.mg_runs.specs.declared.cursor.Cursor.{Cursor}
use Rattle.mg_runs.proofs.CursorLaws.{at_end, at_next, bit_undamaged}
use Rattle.mg_runs.proofs.StepLaws.{slot_none, slot_refuses}
use Rattle.mg_runs.proofs.Steps.{tells_none}
use Rattle.mg_runs.proofs.walk.advanced.Goals as goal

pub returns-then-cursor-eq1 : goal.returns-then-cursor-eq1
returns-then-cursor-eq1 g c = record {
  told = λ told x xs at. at_end c.args.cursor.now _ _ _ _ x xs at c.if-cursor-eq1.true refl;
  moved = record { left = omega arith; posting = λ h. absurd (omega arith) };
  step = slot_none c.args.slot c.args.pool.now _ _ _;
  bit = tt;
}

pub returns-in-Ok : goal.returns-in-Ok
returns-in-Ok g c =
    let read = c.read_behind in
    let kept = c.in-Ok.ensures.kept in
    record {
      told = λ told x xs at.
          at_next c.args.cursor.now c.in-Ok.near _ _ _ x xs read.result at c.if-cursor-eq1.false (c.in-Ok.ensures.at told x xs at) (λ y ys near. read.ensures.told _ x y ys near);
      moved = IfOk-weaker read.result (HasMoved c.in-Ok.near) (HasMoved c.args.cursor.now) (λ next moved. record { left = moved.left ∙ kept.left; posting = moved.posting }) read.ensures.moved;
      step = slot_refuses c.in-Ok.ensures.step read.ensures.refuses;
      bit = rw kept.place at read.ensures.refuses.bit;
    }

pub returns-in-Err : goal.returns-in-Err
returns-in-Err g c = record {
  told = λ told x xs at. tells_none Cursor Cursor _ c.in-Err.refusal c.in-Err.ensures.undamaged;
  moved = tt;
  step = c.in-Err.ensures.step;
  bit = bit_undamaged Cursor _ c.in-Err.refusal c.in-Err.ensures.undamaged;
}
