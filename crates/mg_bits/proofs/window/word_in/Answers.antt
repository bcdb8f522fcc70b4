use Rattle.std.proofs.Common.{arith, refl, ◌+◌}
use Rattle.mg_bits.proofs.EightBytes.{word_within}
use Rattle.mg_bits.proofs.window.word_in.Goals as goal

pub returns-in-Some-clause-told : goal.returns-in-Some-clause-told
returns-in-Some-clause-told c = word_within c.args.bytes.now c.in-Some.eight.now c.args.index (c.args.index + 8) c.word_of.result refl (omega arith) c.in-Some.ensures.cases.same c.word_of.ensures
