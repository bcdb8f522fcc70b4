use Rattle.std.proofs.Common.{Ok, Err}
use Rattle.mg_dev.specs.StreamLaws.{grew_nothing}
use Rattle.mg_defs.specs.Generator.{made_collection, made_session}
use Rattle.mg_top.proofs.TriedLaws.{put_text, refused_too, work_silent}
use Rattle.mg_top.proofs.trials.trial.Goals as goal

pub returns-in-Ok-put_trial_summary-clause-text : goal.returns-in-Ok-put_trial_summary-clause-text
returns-in-Ok-put_trial_summary-clause-text g c =
    put_text {T = Unit {0}} _ _ c.args.docs (made_collection c.args.seed c.args.docs) (made_session c.args.seed) c.in-Ok.summary (Ok tt)
    c.in-Ok.ensures.ends.done c.in-Ok-put_trial_summary.ensures.content

pub returns-in-Err-put_trial_summary-clause-text : goal.returns-in-Err-put_trial_summary-clause-text
returns-in-Err-put_trial_summary-clause-text g c =
    put_text {T = Unit {0}} _ _ c.args.docs (made_collection c.args.seed c.args.docs) (made_session c.args.seed) c.in-Ok.summary
    (Err c.in-Err-put_trial_summary.refusal) c.in-Ok.ensures.ends.done c.in-Err-put_trial_summary.ensures.content

pub returns-in-Err-clause-text : goal.returns-in-Err-clause-text
returns-in-Err-clause-text g c = grew_nothing _ _

pub returns-in-Err-clause-pieces : goal.returns-in-Err-clause-pieces
returns-in-Err-clause-pieces g c = λ stream piece few passes. refused_too _ _ (c.in-Err.ensures.ends.pieces stream piece few passes)

pub returns-in-Err-clause-silent : goal.returns-in-Err-clause-silent
returns-in-Err-clause-silent g c = work_silent c.in-Err.fault _ (made_collection c.args.seed c.args.docs) _ _ _ c.in-Err.ensures.ends.cause
