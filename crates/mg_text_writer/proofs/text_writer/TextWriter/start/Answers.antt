use Rattle.std.proofs.Common.{refl}
use Rattle.mg_text_writer.proofs.WriterLaws.{took_none}
use Rattle.mg_text_writer.proofs.text_writer.TextWriter.start.Goals as goal

pub returns-clause-took : goal.returns-clause-took
returns-clause-took g c =
    took_none _ (g.S.Store.files c.args.store.now) (g.S.Store.files c.start.new.store) (g.S.Store.files c.start-2.new.store) (g.S.Store.reads c.args.store.now)
    (g.S.Store.reads c.start.new.store) (g.S.Store.reads c.start-2.new.store) refl refl refl refl c.in-Ok.ensures.place c.in-Ok.ensures.name
    c.in-Ok-start.ensures.name
    c.in-Ok.ensures.empty c.in-Ok.ensures.wrote.told c.in-Ok.ensures.holds c.in-Ok-start.ensures.empty (rw (← c.in-Ok-start.ensures.name) at c.in-Ok-start.ensures.wrote)
