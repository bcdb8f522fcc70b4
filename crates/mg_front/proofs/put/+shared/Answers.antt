use Rattle.std.proofs.Common.{arith}
use Rattle.mg_defs.proofs.EntryLaws.{shared_within}
use Rattle.mg_front.proofs.put.+shared.Goals as goal

pub returns-in-empty-clause-value : goal.returns-in-empty-clause-value
returns-in-empty-clause-value t c = let h = shared_within c.args.before.now c.args.string.now in omega (arith, h.1, c.in-empty.len_below)
