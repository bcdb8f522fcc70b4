use Rattle.std.proofs.Common.{arith, false}
use Rattle.mg_text.proofs.CountLaws.{all_counted, first_none, one_more, pair_failed, pair_stopped}
use Rattle.mg_text.proofs.piece_counter.count_pairs.Goals as goal

pub loop-i-init : goal.loop-i-init
loop-i-init g c = first_none c.args.model.now c.args.count c.requires.fits

pub returns-in-Err : goal.returns-in-Err
returns-in-Err g c = pair_failed c.in-Err.failed c.loop-i.invariant c.in-Err.ensures

pub returns-then-not-done : goal.returns-then-not-done
returns-then-not-done g c = pair_stopped false c.loop-i.invariant c.in-Ok.ensures

pub loop-i-preserved : goal.loop-i-preserved
loop-i-preserved g c = one_more c.args.model.now c.in-Ok.done (omega (arith, c.loop-i-test.true)) c.if-not-done.false c.loop-i.invariant c.in-Ok.ensures

pub returns : goal.returns
returns g c = all_counted c.args.model.now (omega (arith, c.loop-i-test.false)) c.loop-i.invariant
