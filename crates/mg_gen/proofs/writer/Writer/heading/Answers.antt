use Rattle.mg_defs.specs.Generator.{heading}
use Rattle.mg_gen.proofs.Making.{grew_all, grew_none}
use Rattle.mg_gen.proofs.writer.Writer.heading.Goals as goal

pub returns-clause-made : goal.returns-clause-made
unfolding heading
returns-clause-made c =
    (grew_all c.put.ensures.made (grew_all c.pick.ensures.made
    (grew_all c.put-2.ensures.made (grew_all c.pick-2.ensures.made
    (grew_all c.put-3.ensures.made (grew_all c.put-4.ensures.made
    (grew_all c.pick-3.ensures.made (grew_all c.put-5.ensures.made
    (grew_all c.pick-4.ensures.made (grew_all c.put-6.ensures.made (grew_all c.pick-5.ensures.made (grew_all c.put-7.ensures.made (grew_none _))))))))))))).made
