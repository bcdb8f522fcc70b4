use Rattle.std.proofs.Common.{arith, ◌-◌}
use Rattle.mg_defs.specs.Bits.{Bits}
use Rattle.mg_defs.specs.Codes.{golomb}
use Rattle.mg_defs.specs.Lists.{posting_bits}
use Rattle.mg_bits.proofs.CallerLemmas.{bits_more}
use Rattle.mg_defs.proofs.StandLists.{golomb_short, gamma_short}
use Rattle.mg_post.proofs.put.put_posting.Goals as goal

pub put_gamma-requires-clause-place : goal.put_gamma-requires-clause-place
put_gamma-requires-clause-place g c =
    omega (arith, c.in_ok-put_golomb.ensures.bits.place, golomb_short c.args.parameter.value c.from.result c.args.parameter.some c.args.parameter.small (omega (arith, c.from.ensures)), c.from.ensures)

pub returns-clause-bits : goal.returns-clause-bits
unfolding posting_bits
returns-clause-bits g c =
    let gap : Bits = golomb c.args.parameter.value (c.args.posting.doc - c.args.before) in
    bits_more _ _ _ _ _ _ gap _ c.in_ok-put_golomb.ensures.wrote.told (rw c.from.ensures at c.in_ok-put_golomb.ensures.bits) (rw c.from-2.ensures at c.in_ok-put_gamma.ensures.bits)

pub returns-clause-short : goal.returns-clause-short
returns-clause-short g c =
    omega (
      arith,
      c.in_ok-put_golomb.ensures.bits.place,
      golomb_short c.args.parameter.value c.from.result c.args.parameter.some c.args.parameter.small (omega (arith, c.from.ensures)),
      c.from.ensures,
      c.in_ok-put_gamma.ensures.bits.place,
      gamma_short c.from-2.result (omega (arith, c.from-2.ensures)) (omega (arith, c.from-2.ensures)),
    )
