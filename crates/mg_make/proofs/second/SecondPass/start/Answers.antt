use Rattle.std.proofs.Common.{refl, sym}
use Rattle.mg_make.proofs.Frames.{runs_wrote, text_kept, text_wrote}
use Rattle.mg_make.proofs.SecondSteps.{wrote_nothing}
use Rattle.mg_index.proofs.CallerLemmas.{put_err, put_more, put_ok}
use Rattle.mg_make.proofs.second.SecondPass.start.Goals as goal

pub returns-in-Err-clause-step : goal.returns-in-Err-clause-step
returns-in-Err-clause-step g c =
    let e = c.in-Err.ensures in
    put_err (record { wrote = text_wrote _ _ _ _ refl e.told e.others; reads = e.reads; cause = e.cause })

pub returns-in-Err-start-clause-step : goal.returns-in-Err-start-clause-step
returns-in-Err-start-clause-step g c =
    let e = c.in-Ok.ensures in
    let i = c.in-Err-start.ensures in
    put_more (record { wrote = text_wrote _ _ _ _ refl e.told e.others; reads = e.reads; cause = e.cause })
    (put_err (record { wrote = runs_wrote _ _ _ _ refl i.wrote; reads = i.reads; cause = i.cause }))

pub returns-clause-step : goal.returns-clause-step
returns-clause-step g c =
    let e = c.in-Ok.ensures in
    let i = c.in-Ok-start.ensures in
    put_more (record { wrote = text_wrote _ _ _ _ refl e.told e.others; reads = e.reads; cause = e.cause })
    (put_ok (record { wrote = runs_wrote _ _ _ _ refl i.wrote; reads = i.reads; cause = i.cause }))

pub returns-clause-written : goal.returns-clause-written
returns-clause-written g c =
    rw c.new.ensures
    (wrote_nothing _ _ c.in-Ok.ensures.base c.in-Ok-start.ensures.base c.requires.plan (text_kept _ _ _ _ _ _ (sym c.in-Ok.ensures.base) c.start-2.ensures.wrote c.in-Ok.ensures.took)
    (c.in-Ok-start.ensures.taken _ c.requires.counts) refl refl c.in-Ok.ensures.docs c.in-Ok.ensures.pairs c.in-Ok.ensures.closed)
