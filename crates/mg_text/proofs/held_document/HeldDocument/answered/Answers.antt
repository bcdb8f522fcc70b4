use Rattle.std.proofs.Common.{arith, ap, length}
use Rattle.mg_text.proofs.HeldLaws.{long_answer, short_answer}
use Rattle.mg_text.proofs.held_document.HeldDocument.answered.Goals as goal

pub returns-then-found-most : goal.returns-then-found-most
returns-then-found-most c = long_answer c.args.shown c.too_long.result (omega (arith, c.if-found-most.true, ap length c.bytes.ensures)) c.too_long.ensures

pub returns : goal.returns
returns c = rw c.held_answer.ensures (short_answer c.args.shown (omega (arith, c.if-found-most.false, ap length c.bytes.ensures)))
