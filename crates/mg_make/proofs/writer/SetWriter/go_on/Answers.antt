use Rattle.std.proofs.Common.{arith, length-take-le}
use Rattle.mg_make.proofs.PutSteps.{writing}
use Rattle.mg_make.proofs.SliceSteps.{went_on}
use Rattle.mg_make.proofs.writer.SetWriter.go_on.Goals as goal

pub overflow_add-self : goal.overflow_add-self
overflow_add-self c =
    let own = rw (← c.self.view_is) at c.requires.put.2 in
    omega (arith, own.size_is, c.requires.put.3, c.go_on-count.ensures.within)

pub returns-clause-went : goal.returns-clause-went
returns-clause-went c =
    let i = c.self.inside in
    rw (← c.self.view_is)
    (went_on {w = writing i.base.now i.plan.now i.limit i.sums.items i.size i.scanner i.pass} (length-take-le c.go_on-count.result c.args.bytes.now c.go_on-count.ensures.within)
    c.go_on-count.ensures.met)
