use Rattle.std.proofs.Common.{ℕ, arith, refl}
use Rattle.mg_runs.specs.declared.cursor.Cursor.{Cursor}
use Rattle.mg_runs.proofs.StepLaws.{slot_err, slot_none, slot_ok}
use Rattle.mg_runs.proofs.Steps.{undamaged_as}
use Rattle.mg_runs.proofs.walk.refreshed.Goals as goal

pub returns-then-byte-cursor-le32 : goal.returns-then-byte-cursor-le32
returns-then-byte-cursor-le32 g c = record {
  at = λ told x xs at. at;
  kept = record { near = record { low = omega arith; high = omega arith }; left = refl; place = refl };
  undamaged = tt;
  step = slot_none c.args.slot c.args.pool.now _ _ _;
}

pub returns-in-Ok : goal.returns-in-Ok
returns-in-Ok g c = record {
  at = λ told x xs at. record {
    posting = at.posting;
    left = at.left;
    more = at.more;
    bits = at.bits;
    below = at.below;
    short = at.short;
    near = omega arith;
    within = c.in-Ok.ensures.filled.within;
    window = c.in-Ok.ensures.filled.told told;
    after = at.after;
    run = at.run;
  };
  kept = record { near = record { low = omega arith; high = omega arith }; left = refl; place = refl };
  undamaged = tt;
  step = slot_ok c.in-Ok.ensures.step;
}

pub returns-in-Err : goal.returns-in-Err
returns-in-Err g c = record { at = λ told x xs at. tt; kept = tt; undamaged = undamaged_as ℕ Cursor c.in-Err.refusal c.in-Err.ensures.undamaged; step = slot_err c.in-Err.ensures.step }
