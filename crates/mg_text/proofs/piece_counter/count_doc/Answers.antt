use Rattle.std.proofs.Common.{ℕ}
use Rattle.mg_text.proofs.CountLaws.{doc_counted, doc_failed, doc_stopped, number_failed}
use Rattle.mg_text.proofs.piece_counter.count_doc.Goals as goal

pub returns-then-failed : goal.returns-then-failed
returns-then-failed g c =
    let read = c.in-Err.ensures.read in
    record { fits = read.fits; calm = read.calm; told = tt; cause = number_failed ℕ c.is_failure-failed.result c.in-Err.refusal _ _ c.if-failed.true c.is_failure-failed.ensures.failed read.cause }

pub returns-in-Err : goal.returns-in-Err
returns-in-Err g c = record { fits = c.in-Err.ensures.read.fits; calm = c.in-Err.ensures.read.calm; told = tt; cause = tt }

pub returns-in-Err-count_pairs : goal.returns-in-Err-count_pairs
returns-in-Err-count_pairs g c = doc_failed c.in-Err-count_pairs.failed c.in-Ok.ensures.read.calm c.in-Err-count_pairs.ensures

pub returns-then-not-done : goal.returns-then-not-done
returns-then-not-done g c = doc_stopped c.in-Ok.ensures.read.calm c.in-Ok-count_pairs.ensures

pub returns : goal.returns
returns g c = doc_counted c.args.model.now c.in-Ok.count c.in-Ok-count_pairs.done c.if-not-done.false c.begin.ensures c.in-Ok.ensures.read.calm c.in-Ok.ensures.told c.in-Ok-count_pairs.ensures
