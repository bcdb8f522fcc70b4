use Rattle.mg_defs.specs.Generator.{one_without}
use Rattle.mg_gen.proofs.Making.{grew_all, grew_none}
use Rattle.mg_gen.proofs.writer.Writer.one_without.Goals as goal

pub returns-clause-made : goal.returns-clause-made
unfolding one_without
returns-clause-made c = (grew_all c.pick.ensures.made (grew_all c.put.ensures.made (grew_all c.pick-2.ensures.made (grew_all c.put-2.ensures.made (grew_none _))))).made
