use Rattle.mg_defs.specs.Generator.{one_word}
use Rattle.mg_gen.proofs.Making.{grew_all, grew_none}
use Rattle.mg_gen.proofs.writer.Writer.one_word.Goals as goal

pub returns-clause-made : goal.returns-clause-made
unfolding one_word
returns-clause-made c = (grew_all c.pick.ensures.made (grew_all c.put.ensures.made (grew_none _))).made
