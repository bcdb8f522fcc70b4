use Rattle.std.proofs.Common.{◌∙◌, ap}
use Rattle.mg_phrase.specs.Marks.{Counting}
use Rattle.mg_phrase.proofs.MarkLaws.{nothing_more}
use Rattle.mg_phrase.proofs.count.PhraseCount.places.Goals as goal

pub returns-clause-all : goal.returns-clause-all
returns-clause-all c = ap (λ (k : Counting). k.places) c.self.view_is ∙ nothing_more c.args.self.now
