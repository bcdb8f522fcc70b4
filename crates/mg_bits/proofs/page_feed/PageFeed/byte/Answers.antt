use Rattle.mg_bits.proofs.Kept.{kept_at}
use Rattle.mg_bits.proofs.WindowLaws.{asks_held}
use Rattle.mg_bits.proofs.page_feed.PageFeed.byte.Goals as goal

pub returns-then-has : goal.returns-then-has
returns-then-has g c =
    let w = c.self.inside.window in
    let kept = kept_at 4096 w.held w.first w.count c.args.at c.self.invariant.2 c.self.invariant.1 c.if-has.ensures.low c.if-has.ensures.high in
    rw (← c.self.view_is) (asks_held (rw (← c.self.view_is) at c.requires.fits) kept.0 (rw (c.deref.ensures.value, kept.1) at c.byte_in-byte.ensures))

pub returns : goal.returns
returns g c = c.turn.ensures
