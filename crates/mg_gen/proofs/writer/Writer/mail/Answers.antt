use Rattle.mg_defs.specs.Generator.{mail}
use Rattle.mg_gen.proofs.Making.{grew_all, grew_none}
use Rattle.mg_gen.proofs.writer.Writer.mail.Goals as goal

pub returns-clause-made : goal.returns-clause-made
unfolding mail
returns-clause-made c = (grew_all c.heading.ensures.made (grew_all c.sentences.ensures.made (grew_all c.put.ensures.made (grew_none _)))).made
