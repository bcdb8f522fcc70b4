use Rattle.std.proofs.Common.{arith, sym, ◌-◌}
use Rattle.mg_defs.proofs.CodeLaws.{length_ones}
use Rattle.mg_bits.proofs.CallerLemmas.{bits_more, bits_none, to_more, to_none}
use Rattle.mg_codes.proofs.PutLaws.{code_is_put, put_behind}
use Rattle.mg_codes.proofs.Written.{ones_none, ones_next, unary_written}
use Rattle.mg_codes.proofs.unary.put_unary.Goals as goal

pub loop-left-init : goal.loop-left-init
loop-left-init g c = record {
  left = omega arith;
  holds = c.requires.holds;
  bits = rw (ones_none (c.args.x - 1)) (bits_none _ _);
  wrote = to_none _ _ _;
  faults = omega arith;
}

pub put-requires-clause-place : goal.put-requires-clause-place
put-requires-clause-place g c = omega (arith, c.loop-left.invariant.bits.place, length_ones (c.args.x - 1 - c.loop-left.left))

pub loop-left-preserved : goal.loop-left-preserved
loop-left-preserved g c = record {
  left = omega arith;
  holds = c.in_ok-put.ensures.holds;
  bits = rw (← ones_next (c.args.x - 1) c.loop-left.left (omega arith) c.loop-left.invariant.left)
      (bits_more (g.S.Store.files c.args.store.now) (g.S.Store.files c.loop-left.store) _ _ c.loop-left.w _ _ _ c.loop-left.invariant.wrote.told c.loop-left.invariant.bits c.in_ok-put.ensures.bits);
  wrote = to_more _ _ _ _ _ _ _ c.loop-left.invariant.wrote (rw c.loop-left.invariant.bits.name at c.in_ok-put.ensures.wrote);
  faults = omega (arith, c.in_ok-put.ensures.cause.later);
}

pub put-requires-2-clause-place : goal.put-requires-2-clause-place
put-requires-2-clause-place g c = omega (arith, c.loop-left.invariant.bits.place, length_ones (c.args.x - 1 - c.loop-left.left))

pub returns : goal.returns
returns g c =
    code_is_put
    (put_behind {mid = c.loop-left.w} {between = c.loop-left.store}
    (record {
      holds = c.loop-left.invariant.holds;
      wrote_bits = c.loop-left.invariant.bits;
      wrote = c.loop-left.invariant.wrote;
      later = c.loop-left.invariant.faults;
    })
    (record {
      holds = c.in_ok-put-2.ensures.holds;
      wrote_bits = rw c.ones_and_zero.ensures at c.in_ok-put-2.ensures.bits;
      wrote = c.in_ok-put-2.ensures.wrote;
      later = c.in_ok-put-2.ensures.cause.later;
    }))
    (sym (unary_written c.args.x c.loop-left.left c.requires.some c.loop-left.invariant.left))
