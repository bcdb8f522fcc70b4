use Rattle.std.proofs.Common.{arith, length-take}
use Rattle.mg_bits.proofs.Kept.{kept_at, must_have_byte, some_here, told_here}
use Rattle.mg_bits.proofs.page_feed.PageFeed.held_byte.Goals as goal

pub returns-then-not-has-clause-some : goal.returns-then-not-has-clause-some
returns-then-not-has-clause-some g c =
    let w = c.self.inside.window in
    rw (← c.self.view_is)
    (λ files agrees has.
    let kept = must_have_byte 4096 w.held w.first w.count c.args.at w.reads _ _ _ files (omega arith) c.self.invariant.2 agrees.held has in
    absurd (omega (arith, c.if-not-has.ensures.no kept.0, kept.1, length-take w.count c.self.inside.page.items)))

pub returns-clause-told : goal.returns-clause-told
returns-clause-told g c =
    let w = c.self.inside.window in
    let kept = kept_at 4096 w.held w.first w.count c.args.at c.self.invariant.2 c.self.invariant.1 c.if-not-has.ensures.low c.if-not-has.ensures.high in
    rw (← c.self.view_is)
    (λ files agrees. told_here 4096 w.held _ _ c.args.at _ c.byte_in.result files (omega arith) kept.0 kept.1 (rw c.deref.ensures.value at c.byte_in.ensures) agrees.held)

pub returns-clause-some : goal.returns-clause-some
returns-clause-some g c =
    let w = c.self.inside.window in
    rw (← c.self.view_is)
    (λ files agrees has.
    some_here _ _ c.byte_in.result (rw c.deref.ensures.value at c.byte_in.ensures)
    (must_have_byte 4096 w.held w.first w.count c.args.at w.reads _ _ _ files (omega arith) c.self.invariant.2 agrees.held has).1)
