use Rattle.std.proofs.Common.{arith}
use Rattle.mg_codes.proofs.PutLaws.{code_is_put}
use Rattle.mg_codes.proofs.ShortWalk.{IsShort, high_code, low_code, shape, some_bits}
use Rattle.mg_codes.proofs.short.put_short.Goals as goal

pub overflow_sub-size : goal.overflow_sub-size
overflow_sub-size g c =
    some_bits c.args.b _ _ (omega arith)
    (shape _ _ _ (omega arith) c.requires.parameter c.code_size-size.ensures.size c.shorter_codes-few.ensures.few) (omega arith)

pub returns-then-r-few : goal.returns-then-r-few
returns-then-r-few g c =
    let is : IsShort c.args.b c.code_size-size.result c.shorter_codes-few.result =
    shape _ _ _ (omega arith) c.requires.parameter c.code_size-size.ensures.size c.shorter_codes-few.ensures.few in
    code_is_put
    (record {
      holds = c.in_ok-put.ensures.holds;
      wrote_bits = c.in_ok-put.ensures.bits;
      wrote = c.in_ok-put.ensures.wrote;
      later = c.in_ok-put.ensures.cause.later;
    })
    (low_code c.args.b c.code_size-size.result c.shorter_codes-few.result c.args.r is c.if-r-few.true)

pub returns : goal.returns
returns g c =
    let is : IsShort c.args.b c.code_size-size.result c.shorter_codes-few.result =
    shape _ _ _ (omega arith) c.requires.parameter c.code_size-size.ensures.size c.shorter_codes-few.ensures.few in
    code_is_put
    (record {
      holds = c.in_ok-put-2.ensures.holds;
      wrote_bits = c.in_ok-put-2.ensures.bits;
      wrote = c.in_ok-put-2.ensures.wrote;
      later = c.in_ok-put-2.ensures.cause.later;
    })
    (high_code c.args.b c.code_size-size.result c.shorter_codes-few.result c.args.r is c.if-r-few.false)
