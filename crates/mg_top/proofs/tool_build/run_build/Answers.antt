use Rattle.std.proofs.Common.{Ok, Err, refl, ap}
use Rattle.mg_dev.specs.declared.status.Status.TheVariants.{Stopped}
use Rattle.mg_top.proofs.BuiltLaws.{made_by, refused_by}
use Rattle.mg_top.proofs.tool_build.run_build.Goals as goal

pub returns-in-Ok-put_summary : goal.returns-in-Ok-put_summary
returns-in-Ok-put_summary g c = record {
  does = λ input err err_now. made_by _ _ _ _ refl c.in-Ok.summary (Ok c.in-Ok-put_summary.field-0) refl c.in-Ok.ensures.made c.in-Ok.ensures.summary
      c.in-Ok-put_summary.ensures.content c.in-Ok-put_summary.ensures.cause c.in-Ok-put_summary.ensures.lack;
}

pub returns-in-Err-put_summary : goal.returns-in-Err-put_summary
returns-in-Err-put_summary g c = record {
  does = λ input err err_now. made_by _ _ _ _ refl c.in-Ok.summary (Err c.in-Err-put_summary.refusal) (ap Stopped c.of_output.ensures)
      c.in-Ok.ensures.made c.in-Ok.ensures.summary c.in-Err-put_summary.ensures.content c.in-Err-put_summary.ensures.cause c.in-Err-put_summary.ensures.lack;
}

pub returns-in-Err : goal.returns-in-Err
returns-in-Err g c = record {
  does = λ input err err_now. refused_by _ _ _ _ refl c.in-Err.fault refl refl c.in-Err.ensures.made;
}
