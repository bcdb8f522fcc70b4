use Rattle.std.proofs.Common.{length, arith}
use Rattle.mg_canon.specs.Refusals.{HaveLengths}
use Rattle.mg_canon.proofs.Refused.{good_from}
use Rattle.mg_canon.proofs.check.check.Goals as goal

pub returns-clause-good : goal.returns-clause-good
returns-clause-good c =
    let all : HaveLengths (length c.args.lengths.now) c.args.lengths.now = λ s h. c.loop-symbol.invariant s (omega arith) in
    good_from c.args.lengths.now all (λ many. omega arith)
