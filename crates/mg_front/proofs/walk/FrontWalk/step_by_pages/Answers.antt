use Rattle.std.proofs.Common.{arith, ◌<◌, ◌∙◌, refl, sym}
use Rattle.mg_front.proofs.WalkLaws.{stepped_failed, stepped_low, stepped_more, stepped_none}
use Rattle.mg_front.proofs.walk.FrontWalk.step_by_pages.Goals as goal

pub returns-then-self : goal.returns-then-self
returns-then-self g c = c.end.ensures c.args.out.now

pub returns-then-not-may_follow : goal.returns-then-not-may_follow
returns-then-not-may_follow g c =
    rw (← c.self.view_is)
    (stepped_low c.in-Ok-Some.size _ (rw c.in-Ok-Some.field-0-is at c.in-Ok-Some.ensures) (sym c.may_follow.ensures ∙ c.if-not-may_follow.true) refl refl)

pub returns-else-not-may_follow : goal.returns-else-not-may_follow
returns-else-not-may_follow g c =
    let below : c.self.inside.done < c.self.inside.count = omega arith in
    rw (← c.self.view_is)
    (stepped_more c.in-Ok-Some.size below (rw c.in-Ok-Some.field-0-is at c.in-Ok-Some.ensures) refl refl refl refl c.keep_string.ensures
    (sym c.may_follow.ensures ∙ c.if-not-may_follow.false))

pub returns-in-Ok-None : goal.returns-in-Ok-None
returns-in-Ok-None g c =
    let below : c.self.inside.done < c.self.inside.count = omega arith in
    let bad = c.bad_at-in-Ok-None.ensures in
    rw (← c.self.view_is)
    (stepped_none _ below (rw c.in-Ok-None.field-0-is at c.in-Ok-None.ensures)
    (record { part_is = bad.part_is ∙ sym c.self.invariant.4; at_is = bad.at_is; low_is = bad.low_is; high_is = bad.high_is; found_is = bad.found_is }) refl refl)

pub returns-in-Err : goal.returns-in-Err
returns-in-Err g c = rw (← c.self.view_is) (stepped_failed c.in-Err.ensures refl refl)
