use Rattle.std.proofs.Common.{arith, refl, ◌+◌, ◌-◌, ◌/◌, ◌^◌}
use Rattle.mg_post.proofs.AheadLaws.{high_below, high_takes, low_below, low_takes, none_takes}
use Rattle.mg_post.proofs.ahead.short_ahead.Goals as goal

pub returns-then-code-eq0-clause-takes : goal.returns-then-code-eq0-clause-takes
returns-then-code-eq0-clause-takes c =
    none_takes c.args.code.parameter.value c.args.code.size c.args.code.few c.args.ahead.bits c.args.ahead.count c.args.code.code
    c.if-code-eq0.true c.args.ahead.below

pub returns-then-high-code-clause-takes : goal.returns-then-high-code-clause-takes
returns-then-high-code-clause-takes c =
    rw c.power.ensures
    (low_takes c.args.code.parameter.value c.args.code.size c.args.code.few c.args.ahead.bits c.args.ahead.count (c.args.ahead.count - c.args.code.size + 1)
    c.args.code.code (omega arith) c.if-ahead-code.false refl c.if-high-code.true)

pub returns-then-high-code-clause-low : goal.returns-then-high-code-clause-low
returns-then-high-code-clause-low c = low_below c.args.code.parameter.value c.args.code.size c.args.code.few
    (c.args.ahead.bits / 2 ^ (c.args.ahead.count - c.args.code.size + 1)) c.args.code.code (omega arith) c.if-high-code.true

pub returns-clause-takes : goal.returns-clause-takes
returns-clause-takes c =
    rw c.power-2.ensures
    (high_takes c.args.code.parameter.value c.args.code.size c.args.code.few c.args.ahead.bits c.args.ahead.count (c.args.ahead.count - c.args.code.size) c.args.code.code
    c.if-ahead-code.false refl c.if-high-code.false)

pub returns-clause-low : goal.returns-clause-low
returns-clause-low c = high_below c.args.code.parameter.value c.args.code.size c.args.code.few c.args.ahead.bits c.args.ahead.count (c.args.ahead.count - c.args.code.size)
    c.args.code.code c.if-ahead-code.false refl c.args.ahead.below
