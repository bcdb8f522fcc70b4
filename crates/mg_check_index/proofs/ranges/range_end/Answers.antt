use Rattle.std.proofs.Common.{arith, ◌≡◌, ◌+◌, ◌-◌, take, drop, sum, slice_index, ap}
use Rattle.mg_check_index.proofs.RangedLaws.{sum_more}
use Rattle.mg_check_index.proofs.ranges.range_end.Goals as goal

pub returns-then-held-ge-RANGE_POSTINGS-clause-most : goal.returns-then-held-ge-RANGE_POSTINGS-clause-most
returns-then-held-ge-RANGE_POSTINGS-clause-most c =
    let inv = c.loop-number.invariant in
    let at : c.args.first + (c.loop-number.number - c.args.first) ≡ c.loop-number.number = omega (arith, inv.low) in
    let next : c.loop-number.number + 1 - c.args.first ≡ c.loop-number.number - c.args.first + 1 = omega (arith, inv.low) in
    let more = sum_more c.args.docs.now c.args.first (c.loop-number.number - c.args.first) (omega (arith, c.loop-number-test.true, inv.low)) in
    omega (
      arith,
      more,
      inv.held,
      inv.few,
      c.requires.each c.loop-number.number (omega (arith, c.loop-number-test.true)),
      ap (λ n. slice_index c.args.docs.now n) at,
      ap (λ n. sum (take n (drop c.args.first c.args.docs.now))) next,
    )

pub loop-number-preserved : goal.loop-number-preserved
loop-number-preserved c =
    let inv = c.loop-number.invariant in
    let at : c.args.first + (c.loop-number.number - c.args.first) ≡ c.loop-number.number = omega (arith, inv.low) in
    let next : c.loop-number.number + 1 - c.args.first ≡ c.loop-number.number - c.args.first + 1 = omega (arith, inv.low) in
    let more = sum_more c.args.docs.now c.args.first (c.loop-number.number - c.args.first) (omega (arith, c.loop-number-test.true, inv.low)) in
    record {
      low = omega arith;
      held = omega (arith, more, inv.held, ap (λ n. slice_index c.args.docs.now n) at, ap (λ n. sum (take n (drop c.args.first c.args.docs.now))) next);
      few = omega (arith, c.if-held-ge-RANGE_POSTINGS.false);
    }
