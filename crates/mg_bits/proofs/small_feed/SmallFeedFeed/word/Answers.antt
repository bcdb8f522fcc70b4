use Rattle.std.proofs.Common.{arith, length-take}
use Rattle.mg_bits.proofs.EightBytes.{told_word}
use Rattle.mg_bits.proofs.Kept.{kept_at, must_have_word}
use Rattle.mg_bits.proofs.small_feed.SmallFeedFeed.word.Goals as goal

pub returns-then-not-has-clause-some : goal.returns-then-not-has-clause-some
returns-then-not-has-clause-some g c = λ files agrees has.
    let w = c.args.self.now.window in
    let kept = must_have_word 64 w.held w.first w.count c.args.at w.reads _ _ _ files (omega arith) c.args.self.now.first agrees has in
    absurd (omega (arith, c.if-not-has.ensures.no kept.0, kept.1, length-take w.count c.args.self.now.slot.now))

pub returns-clause-told : goal.returns-clause-told
returns-clause-told g c = λ files agrees.
    let w = c.args.self.now.window in
    let kept = kept_at 64 w.held w.first w.count c.args.at c.args.self.now.first c.args.self.now.within c.if-not-has.ensures.low c.if-not-has.ensures.high in
    told_word 64 _ _ _ c.args.at _ _ files (omega arith) kept.0 kept.1 c.word_in.ensures.told agrees

pub returns-clause-some : goal.returns-clause-some
returns-clause-some g c = λ files agrees has.
    let w = c.args.self.now.window in
    c.word_in.ensures.some (must_have_word 64 w.held w.first w.count c.args.at w.reads _ _ _ files (omega arith) c.args.self.now.first agrees has).1
