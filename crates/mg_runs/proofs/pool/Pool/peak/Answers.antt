use Rattle.std.proofs.Common.{arith}
use Rattle.mg_runs.proofs.Chunks.{length_entries, length-chunks}
use Rattle.mg_runs.proofs.pool.Pool.peak.Goals as goal

pub returns-clause-above : goal.returns-clause-above
returns-clause-above c =
    rw (← c.self.view_is) (omega (arith, length_entries c.self.inside.entries c.self.inside.bytes.items, length-chunks 64 c.self.inside.slots c.self.inside.bytes.items, c.self.invariant.in_peak))
