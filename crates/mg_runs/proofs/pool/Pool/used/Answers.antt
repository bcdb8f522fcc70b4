use Rattle.std.proofs.Common.{arith}
use Rattle.mg_runs.proofs.Chunks.{length_entries, length-chunks}
use Rattle.mg_runs.proofs.pool.Pool.used.Goals as goal

pub returns-clause-value : goal.returns-clause-value
returns-clause-value c = rw (← c.self.view_is) (omega (arith, length_entries c.self.inside.entries c.self.inside.bytes.items, length-chunks 64 c.self.inside.slots c.self.inside.bytes.items))
