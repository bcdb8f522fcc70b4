use Rattle.std.proofs.Common.{rules}
use Rattle.mg_runs.proofs.Chunks.{length_entries}
use Rattle.mg_runs.proofs.pool.Pool.is_full.Goals as goal

pub returns : goal.returns
returns c = rw (← c.self.view_is, length_entries, c.len.ensures) (search rules)
