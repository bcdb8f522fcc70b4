use Rattle.std.proofs.Common.{false, subst}
use Rattle.mg_text.specs.PieceCounts.{IsNoTally}
use Rattle.mg_text.proofs.TextCounts.{reads_none, reads_so_far, text_counted, text_failed, text_refused}
use Rattle.mg_text.proofs.text_counter.count_text.Goals as goal

pub returns-in-Err : goal.returns-in-Err
returns-in-Err g c = text_refused (reads_none false c.requires.fits)

pub returns-in-Err-tally_text : goal.returns-in-Err-tally_text
returns-in-Err-tally_text g c = text_failed c.in-Err-tally_text.failed c.in-Err-tally_text.ensures.reads

pub returns-then-not-done : goal.returns-then-not-done
returns-then-not-done g c = text_refused (reads_so_far false c.in-Ok-tally_text.ensures.reads)

pub returns : goal.returns
returns g c = text_counted c.put.result (subst (λ code. IsNoTally code c.in-Ok.tally) c.model.ensures c.in-Ok.ensures) c.if-not-done.false c.in-Ok-tally_text.ensures c.model-2.ensures c.put.ensures
