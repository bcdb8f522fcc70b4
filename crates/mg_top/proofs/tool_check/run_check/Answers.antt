use Rattle.std.proofs.Common.{Ok, Err, refl, ap}
use Rattle.mg_dev.specs.declared.status.Status.TheVariants.{Stopped}
use Rattle.mg_top.proofs.CheckedLaws.{finds, found_by, one_set, refused_by}
use Rattle.mg_top.proofs.tool_check.run_check.Goals as goal

pub returns-in-Ok-put_standing : goal.returns-in-Ok-put_standing
returns-in-Ok-put_standing g c = record {
  does = λ input err err_now. found_by _ _ refl c.in-Ok.found.documents c.in-Ok.found.bytes (Ok c.in-Ok-put_standing.field-0) refl
      (finds _ _ _ (Ok c.in-Ok.found) c.in-Ok.ensures.stands c.in-Ok.ensures.cause c.in-Ok.ensures.not_built c.in-Ok.ensures.complete c.in-Ok.ensures.files c.in-Ok.ensures.unread)
      (one_set _ _ c.one_collection.ensures.one) c.in-Ok.ensures.stands c.in-Ok-put_standing.ensures.content c.in-Ok-put_standing.ensures.cause c.in-Ok-put_standing.ensures.lack;
}

pub returns-in-Err-put_standing : goal.returns-in-Err-put_standing
returns-in-Err-put_standing g c = record {
  does = λ input err err_now. found_by _ _ refl c.in-Ok.found.documents c.in-Ok.found.bytes (Err c.in-Err-put_standing.refusal)
      (ap Stopped c.of_output.ensures)
      (finds _ _ _ (Ok c.in-Ok.found) c.in-Ok.ensures.stands c.in-Ok.ensures.cause c.in-Ok.ensures.not_built c.in-Ok.ensures.complete c.in-Ok.ensures.files c.in-Ok.ensures.unread)
      (one_set _ _ c.one_collection.ensures.one) c.in-Ok.ensures.stands c.in-Err-put_standing.ensures.content c.in-Err-put_standing.ensures.cause c.in-Err-put_standing.ensures.lack;
}

pub returns-in-Err : goal.returns-in-Err
returns-in-Err g c = record {
  does = λ input err err_now. refused_by _ _ refl c.in-Err.fault refl refl
      (finds _ _ _ (Err c.in-Err.fault) c.in-Err.ensures.stands c.in-Err.ensures.cause c.in-Err.ensures.not_built c.in-Err.ensures.complete c.in-Err.ensures.files c.in-Err.ensures.unread);
}
