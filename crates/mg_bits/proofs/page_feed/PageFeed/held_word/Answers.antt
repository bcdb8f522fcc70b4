use Rattle.std.proofs.Common.{arith, length-take}
use Rattle.mg_bits.proofs.EightBytes.{told_word}
use Rattle.mg_bits.proofs.Kept.{kept_at, must_have_word}
use Rattle.mg_bits.proofs.page_feed.PageFeed.held_word.Goals as goal

pub returns-then-not-has-clause-some : goal.returns-then-not-has-clause-some
returns-then-not-has-clause-some g c =
    let w = c.self.inside.window in
    rw (← c.self.view_is)
    (λ files agrees has.
    let kept = must_have_word 4096 w.held w.first w.count c.args.at w.reads _ _ _ files (omega arith) c.self.invariant.2 agrees.held has in
    absurd (omega (arith, c.if-not-has.ensures.no kept.0, kept.1, length-take w.count c.self.inside.page.items)))

pub returns-clause-told : goal.returns-clause-told
returns-clause-told g c =
    let w = c.self.inside.window in
    let kept = kept_at 4096 w.held w.first w.count c.args.at c.self.invariant.2 c.self.invariant.1 c.if-not-has.ensures.low c.if-not-has.ensures.high in
    rw (← c.self.view_is)
    (λ files agrees. told_word 4096 _ _ _ c.args.at _ _ files (omega arith) kept.0 kept.1 (rw c.deref.ensures.value at c.word_in.ensures.told) agrees.held)

pub returns-clause-some : goal.returns-clause-some
returns-clause-some g c =
    let w = c.self.inside.window in
    rw (← c.self.view_is)
    (λ files agrees has.
    (rw c.deref.ensures.value at c.word_in.ensures.some) (must_have_word 4096 w.held w.first w.count c.args.at w.reads _ _ _ files (omega arith) c.self.invariant.2 agrees.held has).1)
