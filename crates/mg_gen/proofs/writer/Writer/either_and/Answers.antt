use Rattle.mg_defs.specs.Generator.{either_and}
use Rattle.mg_gen.proofs.Making.{grew_all, grew_none}
use Rattle.mg_gen.proofs.writer.Writer.either_and.Goals as goal

pub returns-clause-made : goal.returns-clause-made
unfolding either_and
returns-clause-made c =
    (grew_all c.put.ensures.made (grew_all c.pick.ensures.made
    (grew_all c.put-2.ensures.made (grew_all c.pick-2.ensures.made
    (grew_all c.put-3.ensures.made (grew_all c.pick-3.ensures.made (grew_all c.put-4.ensures.made (grew_none _)))))))).made
