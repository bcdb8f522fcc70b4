use Rattle.std.proofs.Common.{arith, ap, refl, take, length-take}
use Rattle.mg_bits.proofs.PutLaws.{held_refused, held_sent}
use Rattle.mg_bits.proofs.page_writer.PageWriter.finish.Goals as goal

pub returns-in-Ok : goal.returns-in-Ok
returns-in-Ok g c = rw (← c.self.view_is) (held_sent refl (ap (take c.self.inside.used) c.deref.ensures.value) refl c.in-Ok.ensures)

pub returns-in-Err : goal.returns-in-Err
returns-in-Err g c =
    rw (← c.self.view_is)
    (held_refused refl (ap (take c.self.inside.used) c.deref.ensures.value) (omega (arith, length-take c.self.inside.used c.self.inside.page.items, c.self.invariant.1))
    c.in-Err.ensures)
