use Rattle.std.proofs.Common.{arith}
use Rattle.mg_defs.proofs.CodeLaws.{golomb_is, length_unary_after}
use Rattle.mg_codes.proofs.PutLaws.{code_is_put, put_behind, put_of}
use Rattle.mg_codes.proofs.golomb.put_golomb.Goals as goal

pub put_short-requires-clause-place : goal.put_short-requires-clause-place
put_short-requires-clause-place g c = omega (arith, c.in_ok-put_unary.ensures.bits.place, length_unary_after c.parted-quotient.result.0, c.parted-quotient.ensures.most)

pub returns : goal.returns
returns g c =
    code_is_put
    (put_behind {mid = c.put_unary.new.w} {between = c.put_unary.new.store} (put_of c.in_ok-put_unary.ensures) (put_of c.in_ok-put_short.ensures))
    (golomb_is c.args.b c.args.x c.parted-quotient.result.0 c.parted-quotient.result.1 c.requires.parameter
    (omega (arith, c.parted-quotient.ensures.whole, c.requires.some)) c.parted-quotient.ensures.below)
