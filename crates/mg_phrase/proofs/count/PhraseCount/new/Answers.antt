use Rattle.mg_phrase.proofs.MarkLaws.{none_counted}
use Rattle.mg_phrase.proofs.PlaceLaws.{none_set}
use Rattle.mg_phrase.proofs.count.PhraseCount.new.Goals as goal

pub returns-clause-count : goal.returns-clause-count
returns-clause-count c = λ doc. none_counted c.args.phrase.now c.as_slice.result.now doc c.as_slice.ensures

pub returns-clause-begun : goal.returns-clause-begun
returns-clause-begun c = none_set c.as_slice.result.now 64
