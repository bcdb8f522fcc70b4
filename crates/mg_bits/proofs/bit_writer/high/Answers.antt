use Rattle.std.proofs.Common.{arith, ◌<◌, ◌/◌, ◌^◌}
use Rattle.std.proofs.lemmas.Nat.{shr_below}
use Rattle.mg_bits.proofs.bit_writer.high.Goals as goal

pub overflow_cast-result-2 : goal.overflow_cast-result-2
overflow_cast-result-2 c =
    let below : c.args.word / 2 ^ c.args.over < 2 ^ 8 = shr_below c.args.word 8 c.args.over c.requires.word in
    omega arith
