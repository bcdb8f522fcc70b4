use Rattle.mg_defs.proofs.front.longest_shared.Goals as goal
use Rattle.mg_defs.proofs.EntryLaws.{shared_same, shared_within, shared_differs}

pub returns-clause-same : goal.returns-clause-same
returns-clause-same c = shared_same

pub returns-clause-first : goal.returns-clause-first
returns-clause-first c = λ xs ys. (shared_within xs ys).0

pub returns-clause-second : goal.returns-clause-second
returns-clause-second c = λ xs ys. (shared_within xs ys).1

pub returns-clause-differ : goal.returns-clause-differ
returns-clause-differ c = shared_differs
