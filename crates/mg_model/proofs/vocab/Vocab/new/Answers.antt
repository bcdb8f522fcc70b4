use Rattle.std.proofs.Common.{subst, sym}
use Rattle.mg_model.specs.Vocabularies.{IsKept}
use Rattle.mg_model.proofs.Counting.{none-kept}
use Rattle.mg_model.proofs.vocab.Vocab.new.Goals as goal

pub invariant_of-result : goal.invariant_of-result
invariant_of-result c = subst (IsKept _) (sym c.new.ensures.empty) (none-kept _)
