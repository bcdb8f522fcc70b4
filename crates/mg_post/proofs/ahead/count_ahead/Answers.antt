use Rattle.std.proofs.Common.{arith, refl, ◌-◌, ◌<◌, ◌^◌}
use Rattle.std.proofs.lemmas.Nat.{pow_pos}
use Rattle.mg_post.proofs.AheadLaws.{gamma_takes, one_takes}
use Rattle.mg_post.proofs.ahead.count_ahead.Goals as goal

pub returns-then-ahead-eq0-clause-takes : goal.returns-then-ahead-eq0-clause-takes
returns-then-ahead-eq0-clause-takes c = one_takes c.args.ahead.bits c.args.ahead.count (c.args.ahead.count - 1) (omega arith) refl c.if-ahead-eq0.true

pub returns-clause-takes : goal.returns-clause-takes
returns-clause-takes c =
    rw c.power-2.ensures
    ((gamma_takes c.args.ahead.bits c.args.ahead.count c.in-Some.lead.left.bits c.in-Some.lead.left.count c.in-Some.lead.value
    (c.in-Some.lead.left.count - c.in-Some.lead.value) c.power.result c.args.ahead.few c.if-lead-more.false refl c.power.ensures c.in-Some.ensures.takes).0)

pub returns-clause-range : goal.returns-clause-range
returns-clause-range c =
    let some : 0 < 2 ^ c.in-Some.lead.value = pow_pos c.in-Some.lead.value in (
      omega (arith, c.power.ensures, some),
      (gamma_takes c.args.ahead.bits c.args.ahead.count c.in-Some.lead.left.bits c.in-Some.lead.left.count c.in-Some.lead.value
          (c.in-Some.lead.left.count - c.in-Some.lead.value) c.power.result c.args.ahead.few c.if-lead-more.false refl c.power.ensures c.in-Some.ensures.takes).1,
    )
