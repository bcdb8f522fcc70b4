use Rattle.std.proofs.Common.{◌≡◌, take}
use Rattle.mg_model.specs.Vocabularies.{entry_counts}
use Rattle.mg_model.proofs.vocab.Vocab.counts.Given as goal

abbrev pub invariant-loop-place : goal.invariant-loop-place
invariant-loop-place l = l.counts.items ≡ take l.place (entry_counts l.self)
