use Rattle.std.proofs.Common.{arith}
use Rattle.mg_text.proofs.TextCounts.{first_all, first_failed, first_more, first_none, first_stopped}
use Rattle.mg_text.proofs.text_counter.tally_text.Goals as goal

pub loop-index-init : goal.loop-index-init
loop-index-init g c = first_none c.requires.fits

pub tally_document-requires : goal.tally_document-requires
tally_document-requires g c = record {
  fits = c.loop-index.invariant.reads.fits;
  some = omega arith;
  within = omega (arith, c.loop-index-test.true, c.documents-all.ensures, c.loop-index.invariant.reads.same.documents);
}

pub loop-index-preserved : goal.loop-index-preserved
loop-index-preserved g c = first_more c.loop-index.index c.in-Ok.done (omega (arith, c.loop-index-test.true, c.documents-all.ensures)) c.if-not-done.false c.loop-index.invariant c.in-Ok.ensures

pub returns-in-Err : goal.returns-in-Err
returns-in-Err g c = first_failed c.loop-index.index c.in-Err.failed c.loop-index.invariant c.in-Err.ensures

pub returns-then-not-done : goal.returns-then-not-done
returns-then-not-done g c = first_stopped c.loop-index.index c.loop-index.invariant c.in-Ok.ensures

pub returns : goal.returns
returns g c = first_all c.loop-index.index (omega (arith, c.loop-index-test.false, c.documents-all.ensures)) (omega (arith, c.documents-all.ensures)) c.loop-index.invariant
