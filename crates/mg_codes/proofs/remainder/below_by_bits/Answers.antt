use Rattle.std.proofs.Common.{arith, ◌≤◌, ◌+◌, ◌*◌, ap}
use Rattle.mg_defs.specs.Bits.{digits}
use Rattle.mg_defs.proofs.BitLaws.{length_digits}
use Rattle.mg_codes.specs.Remainders.{least_of}
use Rattle.mg_bits.proofs.CallerLemmas.{a_code_is_cut, code_is_read, no_code_is_read, read_nothing}
use Rattle.mg_codes.proofs.ShortWalk.{IsShort, below_free, least_below, least_start, open_cut, read_a_digit, shape, walked_bit, walked_none, walked_start, whole_code, whole_least}
use Rattle.mg_codes.proofs.remainder.below_by_bits.Goals as goal

pub loop-value-init : goal.loop-value-init
unfolding digits
loop-value-init g c =
    let is : IsShort c.args.b c.code_size-size.result c.shorter_codes-few.result =
    shape _ _ _ (omega arith) c.requires.small c.code_size-size.ensures.size c.shorter_codes-few.ensures.few in
    record {
      shape = is;
      walked = walked_start c.args.b _ _ (omega arith) is;
      least = rw (least_start c.args.b c.code_size-size.result c.shorter_codes-few.result (omega arith) is) (omega arith);
      read = read_nothing c.requires.reader.fits;
    }

pub bit-requires-clause-place : goal.bit-requires-clause-place
bit-requires-clause-place g c =
    omega (arith, c.loop-value.invariant.read.place, length_digits c.loop-value.done c.loop-value.high, c.loop-value.invariant.walked.within)

pub returns-in-Some-clause-code : goal.returns-in-Some-clause-code
returns-in-Some-clause-code g c =
    code_is_read c.in-Some.value c.loop-value.invariant.read
    (rw (whole_least c.code_size-size.result c.shorter_codes-few.result c.loop-value.done c.loop-value.high c.in-Some.value c.in-Some.ensures)
    at c.loop-value.invariant.least)
    (whole_code _ _ _ _ _ _ c.loop-value.invariant.shape c.loop-value.invariant.walked c.in-Some.ensures)

pub returns-then-least-bound-clause-code : goal.returns-then-least-bound-clause-code
returns-then-least-bound-clause-code g c =
    rw c.place-start.ensures
    (no_code_is_read
    (read_a_digit c.loop-value.done c.loop-value.high (2 * c.loop-value.high + c.number_of-low.result) (g.met.F.Feed.whole_pages c.args.r.now.feed).some
    (ap (λ x. 2 * c.loop-value.high + x) c.number_of-low.ensures.value) c.loop-value.invariant.read c.in-Ok.ensures)
    (walked_none c.args.b _ _ (c.loop-value.done + 1) _ c.args.bound (omega arith) (omega arith) c.loop-value.invariant.shape
    (walked_bit _ _ _ _ _ c.number_of-low.ensures.small c.loop-value.invariant.walked c.in-None.ensures)
    (rw c.least.ensures at c.if-least-bound.true) c.requires.within)
    c.seek.ensures.feed (omega (arith, c.seek.ensures.place, c.place-start.ensures)))

pub returns-then-least-bound-clause-over : goal.returns-then-least-bound-clause-over
returns-then-least-bound-clause-over g c =
    let above : c.args.bound ≤ least_of c.code_size-size.result c.shorter_codes-few.result (c.loop-value.done + 1) (2 * c.loop-value.high + c.number_of-low.result) =
    rw c.least.ensures at c.if-least-bound.true in
    let below = least_below c.args.b _ _ _ _ (omega arith) c.loop-value.invariant.shape
    (walked_bit _ _ _ _ _ c.number_of-low.ensures.small c.loop-value.invariant.walked c.in-None.ensures) in
    omega (arith, below, above)

pub loop-value-preserved : goal.loop-value-preserved
loop-value-preserved g c = record {
  shape = c.loop-value.invariant.shape;
  walked = walked_bit _ _ _ _ _ c.number_of-low.ensures.small c.loop-value.invariant.walked c.in-None.ensures;
  least = rw c.least.ensures at c.if-least-bound.false;
  read =
      read_a_digit c.loop-value.done c.loop-value.high (2 * c.loop-value.high + c.number_of-low.result) (g.met.F.Feed.whole_pages c.args.r.now.feed).some
      (ap (λ x. 2 * c.loop-value.high + x) c.number_of-low.ensures.value) c.loop-value.invariant.read c.in-Ok.ensures;
}

pub returns-in-Err-clause-code : goal.returns-in-Err-clause-code
returns-in-Err-clause-code g c =
    rw (c.refused.ensures, c.place-start.ensures)
    (a_code_is_cut (g.met.F.Feed.whole_pages c.args.r.now.feed).some c.loop-value.invariant.read c.in-Err.ensures
    (open_cut c.args.b _ _ _ _ c.args.bound c.loop-value.invariant.shape c.loop-value.invariant.walked c.in-None.ensures c.loop-value.invariant.least)
    (below_free c.args.b c.args.bound c.requires.reader.some c.requires.within c.requires.small)
    c.seek-in-Err.ensures.feed (omega (arith, c.seek-in-Err.ensures.place, c.place-start.ensures)))
