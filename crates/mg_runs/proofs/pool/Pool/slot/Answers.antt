use Rattle.std.proofs.Common.{arith}
use Rattle.mg_runs.proofs.Chunks.{length-chunks}
use Rattle.mg_runs.proofs.pool.Pool.slot.Goals as goal

pub slot_of-requires : goal.slot_of-requires
slot_of-requires c =
    let h = rw (← c.self.view_is, length-chunks) at c.requires in
    omega (arith, h, c.self.invariant.in_peak, c.self.invariant.in_limit)

pub returns : goal.returns
returns c =
    let h = rw (← c.self.view_is, length-chunks) at c.requires in
    rw (← c.self.view_is) (c.slot_of.ensures c.self.inside.slots h (omega (arith, c.self.invariant.in_peak, c.self.invariant.in_limit)))
