use Rattle.std.proofs.Common.{arith, ◌≡◌, ◌+◌}
use Rattle.mg_defs.specs.Codes.{ones}
use Rattle.mg_defs.proofs.CodeLaws.{length_ones, ones_more, unary_free, unary_next}
use Rattle.mg_bits.proofs.CallerLemmas.{a_code_is_cut, code_is_read, no_code_is_read, read_a_bit, read_nothing}
use Rattle.mg_codes.proofs.UnaryWalk.{unary_none, unary_open}
use Rattle.mg_codes.proofs.unary.unary_by_bits.Goals as goal

pub loop-ones-init : goal.loop-ones-init
unfolding ones
loop-ones-init g c = record { most = omega arith; read = read_nothing c.requires.fits }

pub bit-requires-clause-place : goal.bit-requires-clause-place
bit-requires-clause-place g c = omega (arith, c.loop-ones.invariant.read.place, length_ones c.loop-ones.ones)

pub loop-ones-preserved : goal.loop-ones-preserved
loop-ones-preserved g c = record {
  most = omega arith;
  read =
      rw (← ones_more c.loop-ones.ones)
      (read_a_bit (g.met.F.Feed.whole_pages c.args.r.now.feed).some c.loop-ones.invariant.read (rw c.in-Ok-true.field-0-test at c.in-Ok-true.ensures));
}

pub returns-in-Ok-false : goal.returns-in-Ok-false
returns-in-Ok-false g c =
    code_is_read (c.loop-ones.ones + 1)
    (read_a_bit (g.met.F.Feed.whole_pages c.args.r.now.feed).some c.loop-ones.invariant.read (rw c.in-Ok-false.field-0-test at c.in-Ok-false.ensures))
    (omega arith, omega arith) (unary_next c.loop-ones.ones)

pub returns-in-Err : goal.returns-in-Err
returns-in-Err g c =
    rw (c.refused.ensures, c.place-start.ensures)
    (a_code_is_cut (g.met.F.Feed.whole_pages c.args.r.now.feed).some c.loop-ones.invariant.read c.in-Err.ensures
    (unary_open c.args.limit c.loop-ones.ones c.loop-ones-test.true) (unary_free c.args.limit)
    c.seek.ensures.feed (omega (arith, c.seek.ensures.place, c.place-start.ensures)))

pub returns : goal.returns
returns g c =
    let all : c.loop-ones.ones ≡ c.args.limit = omega arith in
    rw c.place-start.ensures
    (no_code_is_read c.loop-ones.invariant.read (rw all (unary_none c.args.limit))
    c.seek-2.ensures.feed (omega (arith, c.seek-2.ensures.place, c.place-start.ensures)))
