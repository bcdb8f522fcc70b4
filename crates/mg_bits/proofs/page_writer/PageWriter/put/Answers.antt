use Rattle.std.proofs.Common.{arith, refl, set, length-take, ◌+◌, ◌∙◌}
use Rattle.std.proofs.lemmas.List.{take_more_set}
use Rattle.mg_bits.proofs.PutLaws.{bytes_held, bytes_paged, bytes_refused}
use Rattle.mg_bits.proofs.WriterLaws.{whole_page}
use Rattle.mg_bits.proofs.page_writer.PageWriter.put.Goals as goal

pub returns-then-used-lt-PAGE : goal.returns-then-used-lt-PAGE
returns-then-used-lt-PAGE g c =
    rw (← c.self.view_is)
    (bytes_held (take_more_set c.self.inside.page.items c.self.inside.used c.args.byte (omega (arith, c.self.invariant.0, c.self.invariant.1))) refl
    (omega (arith, length-take (c.self.inside.used + 1) (set c.self.inside.page.items c.self.inside.used c.args.byte))))

pub returns-in-Ok : goal.returns-in-Ok
returns-in-Ok g c =
    rw (← c.self.view_is)
    (bytes_paged refl
    (c.deref.ensures.value ∙ whole_page c.self.inside.page.items c.self.inside.used c.args.byte (omega (arith, c.self.invariant.0, c.self.invariant.1))
    (omega (arith, c.self.invariant.0)))
    refl c.in-Ok.ensures)

pub returns-in-Err : goal.returns-in-Err
returns-in-Err g c =
    rw (← c.self.view_is)
    (bytes_refused refl
    (c.deref.ensures.value ∙ whole_page c.self.inside.page.items c.self.inside.used c.args.byte (omega (arith, c.self.invariant.0, c.self.invariant.1))
    (omega (arith, c.self.invariant.0)))
    (omega (arith, length-take c.self.inside.used (set c.self.inside.page.items c.self.inside.used c.args.byte), c.self.invariant.1)) c.in-Err.ensures)
