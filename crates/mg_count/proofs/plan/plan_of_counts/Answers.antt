use Rattle.mg_count.specs.Plans.{IsPlan, IsPlanOf}
use Rattle.mg_count.proofs.Planned.{room_paired, still_planned}
use Rattle.mg_count.proofs.plan.plan_of_counts.Goals as goal

pub returns-clause-plan : goal.returns-clause-plan
returns-clause-plan c = rw c.pair.ensures (still_planned (λ plan. IsPlan plan) c.new-room.result c.in-Ok.ensures.plan)

pub returns-clause-of : goal.returns-clause-of
returns-clause-of c = λ collection counted. rw c.pair.ensures (still_planned (λ plan. IsPlanOf plan collection) c.new-room.result (c.in-Ok.ensures.of collection counted))

pub returns-clause-room : goal.returns-clause-room
returns-clause-room c = rw c.pair.ensures (room_paired c.in-Ok.plan c.args.budget c.new-room.result c.new-room.ensures)
