use Rattle.std.proofs.Common.{sym, arith, rules}
use Rattle.mg_args.proofs.PlainNumbers.{not_parsed, not_written, is_written}
use Rattle.mg_args.proofs.plain.plain_number.Goals as goal
use Rattle.mg_args.proofs.plain.plain_number.Goals.{then-number-low-via-then-number-low, then-number-low-via-else-number-low+then-number-high}

pub returns-in_default-clause-is : goal.returns-in_default-clause-is
returns-in_default-clause-is c = sym (not_parsed c.args.low c.args.high c.args.word.now c.in_default.field-0 c.ranges.high.fits (search rules))

pub returns-then-ne-clause-is : goal.returns-then-ne-clause-is
returns-then-ne-clause-is c = sym (not_written c.args.low c.args.high c.in-Ok.number c.args.word.now c.parse.result c.in-Ok.is c.ranges.high.fits (search rules)
    (λ writes low high. search (rules, writes)))

pub returns-then-number-low-clause-is : goal.returns-then-number-low-clause-is
returns-then-number-low-clause-is c = sym (not_written c.args.low c.args.high c.in-Ok.number c.args.word.now c.parse.result c.in-Ok.is c.ranges.high.fits (search rules) (λ writes low high.
    elim c.then-number-low.branch [
      | then-number-low-via-then-number-low w ↦ omega (arith, w.if-number-low.true, low)
      | then-number-low-via-else-number-low+then-number-high w ↦ omega (arith, w.if-number-high.true, high)
    ]))

pub returns-clause-is : goal.returns-clause-is
returns-clause-is c = sym (is_written c.args.low c.args.high c.in-Ok.number c.args.word.now (search rules) (search rules) (omega (arith, c.if-number-low.false))
    (omega (arith, c.if-number-high.false)))
