use Rattle.mg_post.proofs.ListReadingLaws.{read_inside}
use Rattle.mg_post.proofs.SoundLaws.{step_rises}
use Rattle.mg_post.proofs.list_reader.ListReader.next.Goals as goal

pub invariant_of-self : goal.invariant_of-self
invariant_of-self g c =
    let i = c.self.invariant in
    (i.0, i.1, i.2, step_rises c.self.inside.all c.self.inside.last c.step.result c.self.inside.block c.step.new.self c.step.ensures i.3)

pub returns-in-Some : goal.returns-in-Some
returns-in-Some g c =
    let fits = rw (← c.self.view_is) at c.requires.fits in
    let step = c.in-Some.ensures in
    rw (← c.self.view_is) (read_inside _ c.step.new.self c.in-Some.posting _ _ _ fits c.self.invariant.3 step.0 step.1 step.2)
