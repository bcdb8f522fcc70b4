use Rattle.std.proofs.Common.{Ok, Err, refl, ap}
use Rattle.mg_dev.specs.declared.status.Status.TheVariants.{Stopped}
use Rattle.mg_top.proofs.MigratedLaws.{made_by, refused_by}
use Rattle.mg_top.proofs.tool_migrate.run_migrate.Goals as goal

pub returns-in-Ok-put_documents : goal.returns-in-Ok-put_documents
returns-in-Ok-put_documents g c = record {
  does = λ input err err_now. made_by _ _ _ refl c.in-Ok.documents (Ok c.in-Ok-put_documents.field-0) refl c.in-Ok.ensures.made_anew c.in-Ok.ensures.documents
      c.in-Ok-put_documents.ensures.content c.in-Ok-put_documents.ensures.cause c.in-Ok-put_documents.ensures.lack;
}

pub returns-in-Err-put_documents : goal.returns-in-Err-put_documents
returns-in-Err-put_documents g c = record {
  does = λ input err err_now. made_by _ _ _ refl c.in-Ok.documents (Err c.in-Err-put_documents.refusal) (ap Stopped c.of_output.ensures)
      c.in-Ok.ensures.made_anew c.in-Ok.ensures.documents c.in-Err-put_documents.ensures.content c.in-Err-put_documents.ensures.cause c.in-Err-put_documents.ensures.lack;
}

pub returns-in-Err : goal.returns-in-Err
returns-in-Err g c = record {
  does = λ input err err_now. refused_by _ _ _ refl c.in-Err.fault refl refl c.in-Err.ensures.made_anew;
}
