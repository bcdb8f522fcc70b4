use Rattle.std.proofs.Common.{refl, ◌∙◌}
use Rattle.mg_front.proofs.WriterLaws.{took_none}
use Rattle.mg_front.proofs.writer.FrontWriter.start.Goals as goal

pub returns-clause-took : goal.returns-clause-took
returns-clause-took g c =
    took_none _ _ (g.S.Store.files c.args.store.now) (g.S.Store.files c.start.new.store) (g.S.Store.files c.start_places.new.store)
    (g.S.Store.reads c.start.new.store) (g.S.Store.reads c.start_places.new.store) refl refl refl c.in-Ok.ensures.empty c.in-Ok.ensures.wrote.told
    c.in-Ok-start_places.ensures.started c.in-Ok-start_places.ensures.wrote
    (λ name is same. c.requires.apart name is (same ∙ c.in-Ok.ensures.name))
