use Rattle.std.proofs.Common.{arith, refl, sym, ◌∙◌, ◌≡◌}
use Rattle.mg_dev.specs.declared.part.Part.TheVariants.{Post, Skip}
use Rattle.mg_dev.specs.Laws.{same_part_of_name}
use Rattle.mg_post.proofs.WriterLaws.{took_none}
use Rattle.mg_post.proofs.writer.ListWriter.start.Goals as goal

two_parts : Post ≡ Skip → ⊥
two_parts e = cc

pub returns-clause-took : goal.returns-clause-took
returns-clause-took g c =
    took_none _ (g.S.Store.files c.args.store.now) (g.S.Store.files c.start.new.store) (g.S.Store.files c.start-2.new.store) (g.S.Store.reads c.args.store.now)
    (g.S.Store.reads c.start.new.store) (g.S.Store.reads c.start-2.new.store) refl refl refl refl refl refl refl c.in-Ok.ensures.place c.requires.all
    (omega arith) c.parameter_of.ensures
    (λ same. two_parts (same_part_of_name c.args.base.now Post Skip (sym c.in-Ok.ensures.name ∙ same ∙ c.in-Ok-start.ensures.name))) c.in-Ok.ensures.empty
    c.in-Ok.ensures.wrote.told c.in-Ok.ensures.holds c.in-Ok-start.ensures.empty (rw (← c.in-Ok-start.ensures.name) at c.in-Ok-start.ensures.wrote)
