use Rattle.std.proofs.Common.{sym, ◌∙◌}
use Rattle.mg_post.specs.Cursor.{after}
use Rattle.std.proofs.lemmas.Bool.{false≢true}
use Rattle.mg_post.proofs.SoundLaws.{step_none, step_rises}
use Rattle.mg_post.proofs.StepLaws.{after_nothing, step_beyond, step_ended, step_next}
use Rattle.mg_post.proofs.cursor.Cursor.next.Goals as goal

pub returns-then-self-clause-step : goal.returns-then-self-clause-step
returns-then-self-clause-step g c =
    let i = c.self.invariant in
    let fits = rw (← c.self.view_is) at c.requires.fits in
    rw (← c.self.view_is) (step_ended _ _ _ (after c.self.inside.post.block) _ _ _ fits i.7 i.1 c.if-self.true (i.5 c.if-self.true) i.8 (after_nothing c.self.inside.post.block))

pub returns-in-Some-clause-step : goal.returns-in-Some-clause-step
returns-in-Some-clause-step g c =
    let i = c.self.invariant in
    let fits = rw (← c.self.view_is) at c.requires.fits in
    let step = c.in-Some.ensures in
    rw (← c.self.view_is) (step_next _ c.step.new.self c.in-Some.posting _ _ _ fits i.7 i.1 i.6 c.if-self.false step.0 step.1 step.2)

pub returns-in-None-clause-step : goal.returns-in-None-clause-step
returns-in-None-clause-step g c =
    let step = c.in-None.ensures in
    let ahead = rw (step.1, c.number_behind.ensures) at c.enter_next.ensures in
    rw (← c.self.view_is) (step_beyond _ _ c.enter_next.result _ _ _ _ _ _ c.if-self.false c.self.invariant.6 c.self.invariant.8 step.0 ahead)

pub invariant_of-self : goal.invariant_of-self
invariant_of-self g c =
    let i = c.self.invariant in (
      i.0,
      i.1,
      i.2,
      i.3,
      i.4,
      λ e. absurd (false≢true (sym c.if-self.false ∙ e)),
      step_rises c.self.inside.list.all c.self.inside.progress.last c.step.result c.self.inside.post.block c.step.new.self c.step.ensures i.6,
      i.7,
      step_none c.self.inside.list.docs c.self.inside.progress.reached c.self.inside.progress.last c.step.result c.self.inside.post.block c.step.new.self
          c.self.inside.progress.ended c.step.ensures i.8,
      i.9,
    )
