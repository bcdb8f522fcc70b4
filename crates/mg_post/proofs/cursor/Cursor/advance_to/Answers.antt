use Rattle.std.proofs.Common.{arith, refl, sym, ◌∙◌, ap, Ok}
use Rattle.mg_defs.specs.Lists.{from_doc}
use Rattle.std.proofs.lemmas.Bool.{false≢true}
use Rattle.mg_post.proofs.ForwardLaws.{from_nothing}
use Rattle.mg_post.proofs.SoundLaws.{current_low, forward_held, forward_none, stays_here}
use Rattle.mg_post.proofs.StepLaws.{step_ended, step_within}
use Rattle.mg_post.proofs.cursor.Cursor.advance_to.Goals as goal

pub returns-then-self-clause-step : goal.returns-then-self-clause-step
returns-then-self-clause-step g c =
    let i = c.self.invariant in
    let fits = rw (← c.self.view_is) at c.requires.fits in
    rw (← c.self.view_is) (step_ended _ c.args.doc c.args.doc (from_doc c.args.doc) _ _ _ fits i.7 i.1 c.if-self.true (i.5 c.if-self.true) i.8 (from_nothing c.args.doc))

pub returns-then-doc-self-clause-step : goal.returns-then-doc-self-clause-step
returns-then-doc-self-clause-step g c =
    let i = c.self.invariant in
    let fits = rw (← c.self.view_is) at c.requires.fits in
    rw (← c.self.view_is)
    (step_within _ c.forward.new.self c.args.doc c.current.result _ _ _ fits i.7 i.1 i.6 i.8 c.if-self.false c.requires.some c.if-doc-self.true c.forward.ensures c.current.ensures)

pub invariant_of-self : goal.invariant_of-self
invariant_of-self g c =
    let i = c.self.invariant in (
      i.0,
      i.1,
      i.2,
      i.3,
      i.4,
      λ e. absurd (false≢true (sym c.if-self.false ∙ e)),
      forward_held c.self.inside.list.all c.self.inside.progress.last c.args.doc c.self.inside.post.block c.forward.new.self i.6 c.forward.ensures,
      i.7,
      forward_none c.self.inside.list.all c.self.inside.progress.last c.args.doc c.self.inside.list.docs c.self.inside.progress.reached c.self.inside.post.block c.forward.new.self
          c.self.inside.progress.ended i.6 i.8 c.if-self.false
          c.requires.some c.if-doc-self.true c.forward.ensures,
      i.9,
    )

pub returns-then-doc-self-clause-stays : goal.returns-then-doc-self-clause-stays
returns-then-doc-self-clause-stays g c =
    rw (← c.self.view_is)
    (λ p is le.
    let s = stays_here c.args.doc c.self.inside.post.block c.forward.new.self c.current.result p is le c.forward.ensures c.current.ensures in
    (ap Ok s.0, record { reached = refl; last = refl; held = s.1; ended = refl }))

pub returns-clause-stays : goal.returns-clause-stays
returns-clause-stays g c =
    rw (← c.self.view_is) (λ p is le. absurd (omega (arith, current_low c.self.inside.list.all c.self.inside.progress.last c.self.inside.post.block p c.self.invariant.6 is, le, c.if-doc-self.false)))
