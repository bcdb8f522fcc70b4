use Rattle.std.proofs.Common.{arith, ◌-◌}
use Rattle.mg_bits.proofs.Fills.{page_copied}
use Rattle.mg_bits.proofs.Kept.{kept_at}
use Rattle.mg_bits.proofs.page_feed.PageFeed.copy_held.Goals as goal

pub returns-clause-told : goal.returns-clause-told
returns-clause-told g c =
    let w = c.self.inside.window in
    let kept = kept_at 4096 w.held w.first w.count c.args.at c.self.invariant.2 c.self.invariant.1 c.if-not-has.ensures.low c.if-not-has.ensures.high in
    rw (← c.self.view_is)
    (λ files agrees told.
    page_copied 4096 w.held c.self.inside.page.items _ _ _ w.count c.args.at (c.args.at - w.first) c.args.from c.min-count.result (omega arith) kept.0 kept.1 (agrees.held told)
    c.self.invariant.1 (omega arith) (omega (arith, c.if-not-has.ensures.high, c.min-count.ensures)) (omega (arith, c.requires.from, c.min-count.ensures))
    (rw c.deref.ensures.value at c.copy_from_slice.ensures.after))
