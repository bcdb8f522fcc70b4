use Rattle.std.proofs.Common.{arith, ap}
use Rattle.mg_defs.specs.Fixed.{digits_of}
use Rattle.mg_fixed.proofs.Steps.{digits_on, few_more, lg_from}
use Rattle.mg_fixed.proofs.logarithm.lg.Goals as goal

pub loop-i-preserved : goal.loop-i-preserved
loop-i-preserved c = record {
  so_far = digits_on c.loop-i.i c.loop-i.digits c.loop-i.y c.step-digit.result.0 c.step-digit.result.1 _ c.loop-i-test.true c.step-digit.ensures.digit
      c.step-digit.ensures.next c.loop-i.invariant.so_far;
  small = c.step-digit.ensures.small;
  few = few_more c.loop-i.i c.loop-i.digits c.step-digit.result.0 c.loop-i.invariant.few c.step-digit.ensures.bit;
}

pub returns-clause-is : goal.returns-clause-is
returns-clause-is c =
    lg_from c.args.x c.ilog2-whole.result c.loop-i.i c.loop-i.digits c.loop-i.y _ (omega arith) c.ranges.x.fits c.ilog2-whole.ensures.power_le
    c.ilog2-whole.ensures.next_power_gt c.loop-i-test.false c.loop-i.invariant.so_far (ap (digits_of 8) c.brought-y.ensures.is)
