use Rattle.std.proofs.Common.{arith}
use Rattle.mg_defs.proofs.BitLaws.{length_digits}
use Rattle.mg_bench.proofs.bits.write.Goals as goal

pub loop-number-preserved : goal.loop-number-preserved
loop-number-preserved g c =
    record {
      holds = c.in_ok-put.ensures.holds;
      place = omega (arith, c.in_ok-put.ensures.bits.place, length_digits 13 c.loop-number.number);
    }
