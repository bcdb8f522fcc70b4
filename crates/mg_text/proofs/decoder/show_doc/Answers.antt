use Rattle.std.proofs.Common.{refl}
use Rattle.mg_text.proofs.StepLaws.{whole_flushed, whole_refused, whole_unflushed}
use Rattle.mg_text.proofs.decoder.show_doc.Goals as goal

pub returns-in-Err : goal.returns-in-Err
returns-in-Err g c = whole_refused c.args.model.now c.in-Err.refusal c.requires.empty c.in-Err.ensures

pub returns-in-Ok-flush : goal.returns-in-Ok-flush
returns-in-Ok-flush g c = whole_flushed c.args.model.now c.requires.empty c.in-Ok.ensures c.in-Ok.ensures.fits refl refl refl c.in-Ok-flush.ensures.shown c.in-Ok-flush.ensures.added

pub returns-in-Err-flush : goal.returns-in-Err-flush
returns-in-Err-flush g c = rw c.refused_put.ensures (whole_unflushed c.args.model.now c.in-Err-flush.refusal c.requires.empty c.in-Ok.ensures c.in-Ok.ensures.fits refl refl
    c.in-Err-flush.ensures.shown c.in-Err-flush.ensures.added c.in-Err-flush.ensures.cause c.in-Err-flush.ensures.lack)
