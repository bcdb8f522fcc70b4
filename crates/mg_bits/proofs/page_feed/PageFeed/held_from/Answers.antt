use Rattle.std.proofs.Common.{arith, ◌-◌, drop, length-take, length-drop}
use Rattle.mg_bits.proofs.Fills.{page_lent}
use Rattle.mg_bits.proofs.Kept.{kept_at, must_have}
use Rattle.mg_bits.proofs.page_feed.PageFeed.held_from.Goals as goal

pub returns-then-not-has-clause-all : goal.returns-then-not-has-clause-all
returns-then-not-has-clause-all g c =
    let w = c.self.inside.window in
    rw (← c.self.view_is)
    (λ files count agrees some has.
    let kept = must_have count 4096 w.held w.first c.args.at w.reads _ _ _ files some (omega arith) c.self.invariant.2.1 agrees.held has in
    absurd (omega (arith, some, c.if-not-has.ensures.no kept.0, kept.1, length-take w.count c.self.inside.page.items)))

pub returns-clause-told : goal.returns-clause-told
returns-clause-told g c =
    let w = c.self.inside.window in
    let kept = kept_at 4096 w.held w.first w.count c.args.at c.self.invariant.2 c.self.invariant.1 c.if-not-has.ensures.low c.if-not-has.ensures.high in
    rw (← c.self.view_is, c.deref.ensures.value)
    (λ files agrees told.
    page_lent 4096 w.held c.self.inside.page.items _ w.count c.args.at (c.args.at - w.first) (omega arith) kept.0 kept.1 (agrees.held told) c.self.invariant.1 c.if-not-has.ensures.high)

pub returns-clause-all : goal.returns-clause-all
returns-clause-all g c =
    let w = c.self.inside.window in
    rw (← c.self.view_is, c.deref.ensures.value)
    (λ files count agrees some has.
    let kept = must_have count 4096 w.held w.first c.args.at w.reads _ _ _ files some (omega arith) c.self.invariant.2.1 agrees.held has in
    omega (
      arith,
      kept.1,
      length-take w.count c.self.inside.page.items,
      length-take (w.count - (c.args.at - w.first)) (drop (c.args.at - w.first) c.self.inside.page.items),
      length-drop (c.args.at - w.first) c.self.inside.page.items,
    ))
