use Rattle.std.proofs.Common.{arith, refl}
use Rattle.mg_runs.proofs.Chunks.{length-chunks, still_none}
use Rattle.mg_runs.proofs.pool.Pool.fill.Goals as goal

pub fill_slot-requires : goal.fill_slot-requires
fill_slot-requires g c =
    let h = rw (← c.self.view_is, length-chunks) at c.requires in
    record { room = omega (arith, h, c.self.invariant.in_peak, c.self.invariant.in_limit) }

pub returns-clause-slots : goal.returns-clause-slots
returns-clause-slots g c =
    let h = rw (← c.self.view_is, length-chunks) at c.requires in
    rw (← c.self.view_is) (c.fill_slot.ensures.slots c.self.inside.slots h (omega (arith, c.self.invariant.in_peak, c.self.invariant.in_limit)))

pub returns-clause-same : goal.returns-clause-same
returns-clause-same g c = rw (← c.self.view_is) (record {
  entries = λ e. still_none c.self.inside.entries c.self.inside.bytes.items c.fill_slot.new.bytes.items e;
  peak = refl;
  limit = c.fill_slot.ensures.len;
})

pub returns-clause-filled : goal.returns-clause-filled
returns-clause-filled g c =
    let h = rw (← c.self.view_is, length-chunks) at c.requires in
    c.fill_slot.ensures.filled c.self.inside.slots h (omega (arith, c.self.invariant.in_peak, c.self.invariant.in_limit))
