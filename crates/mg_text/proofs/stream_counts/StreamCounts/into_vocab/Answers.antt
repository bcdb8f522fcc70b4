use Rattle.std.proofs.Common.{subst}
use Rattle.mg_text.specs.CountedText.{AllCame}
use Rattle.mg_text.proofs.stream_counts.StreamCounts.into_vocab.Goals as goal

pub returns-clause-came : goal.returns-clause-came
returns-clause-came c = subst AllCame c.self.view_is c.len.ensures.keeps.counted
