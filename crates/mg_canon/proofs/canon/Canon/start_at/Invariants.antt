use Rattle.mg_canon.specs.Tables.{IsStart}
use Rattle.mg_canon.proofs.canon.Canon.start_at.Given as goal

abbrev pub invariant-loop-read : goal.invariant-loop-read
invariant-loop-read l = IsStart l.self-inside.lengths.items l.most l.start
