use Rattle.std.proofs.Common.{arith, sym, ◌+◌}
use Rattle.mg_defs.proofs.BitLaws.{length_digits}
use Rattle.mg_codes.proofs.PutLaws.{code_is_put, put_behind}
use Rattle.mg_codes.proofs.Written.{gamma_written}
use Rattle.mg_codes.proofs.gamma.put_by_parts.Goals as goal

pub put-requires-2-clause-place : goal.put-requires-2-clause-place
put-requires-2-clause-place g c =
    omega (arith, c.in_ok-put.ensures.bits.place, length_digits (c.ilog2-size.result + 1) c.ones_and_zero.result, c.ilog2-size.type_inv)

pub returns : goal.returns
returns g c =
    code_is_put
    (put_behind {mid = c.put.new.self} {between = c.put.new.store}
    (record {
      holds = c.in_ok-put.ensures.holds;
      wrote_bits = rw c.ones_and_zero.ensures at c.in_ok-put.ensures.bits;
      wrote = c.in_ok-put.ensures.wrote;
      later = c.in_ok-put.ensures.cause.later;
    })
    (record {
      holds = c.in_ok-put-2.ensures.holds;
      wrote_bits = c.in_ok-put-2.ensures.bits;
      wrote = c.in_ok-put-2.ensures.wrote;
      later = c.in_ok-put-2.ensures.cause.later;
    }))
    (sym (gamma_written c.ilog2-size.result c.args.x c.ilog2-size.ensures.power_le c.ilog2-size.ensures.next_power_gt (omega arith)))
