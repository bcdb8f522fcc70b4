use Rattle.mg_make.proofs.plan_pieces.PlanPieces.new.Goals as goal

pub invariant_of-result : goal.invariant_of-result
invariant_of-result c = (c.new.ensures _, c.new-2.ensures _)
