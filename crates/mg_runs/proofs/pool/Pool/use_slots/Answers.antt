use Rattle.std.proofs.Common.{arith, refl}
use Rattle.mg_runs.proofs.Chunks.{length-chunks}
use Rattle.mg_runs.proofs.pool.Pool.use_slots.Goals as goal

pub returns-clause-slots : goal.returns-clause-slots
returns-clause-slots c = length-chunks 64 c.args.count c.self.inside.bytes.items

pub returns-clause-back : goal.returns-clause-back
returns-clause-back c =
    let none = rw (← c.self.view_is) at c.requires.entries in
    rw (← c.self.view_is) (record { entries = none; limit = refl; peak = omega (arith, c.max-self-inside.ensures) })
