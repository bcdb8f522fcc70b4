use Rattle.mg_bits.proofs.small_feed.SmallFeedFeed.byte.Goals as goal

pub returns-clause-cause : goal.returns-clause-cause
returns-clause-cause g c = c.window_byte-answer.ensures.byte.cause
