use Rattle.mg_bits.proofs.EightBytes.{told_in_memory}
use Rattle.mg_bits.proofs.slice_feed.SliceFeedFeed.word.Goals as goal

pub returns-clause-told : goal.returns-clause-told
returns-clause-told c = λ files agrees. told_in_memory _ c.args.at _ c.word_in.ensures.told
