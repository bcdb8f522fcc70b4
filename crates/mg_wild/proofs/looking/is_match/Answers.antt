use Rattle.std.proofs.Common.{arith}
use Rattle.mg_wild.specs.Patterns.{sides_of}
use Rattle.mg_wild.proofs.LookLaws.{no-last}
use Rattle.mg_wild.proofs.looking.is_match.Goals as goal

pub returns-then-term-right : goal.returns-then-term-right
returns-then-term-right c = no-last (sides_of c.args.pattern.now) c.args.term.now c.as_bytes-right.result.now c.as_bytes-right.ensures (omega arith)
    (omega (arith, c.if-term-left.false)) c.if-term-right.true
