use Rattle.mg_defs.specs.Generator.{four_queries}
use Rattle.mg_gen.proofs.Making.{grew_all, grew_none}
use Rattle.mg_gen.proofs.writer.Writer.four_queries.Goals as goal

pub returns-clause-made : goal.returns-clause-made
unfolding four_queries
returns-clause-made c = (grew_all c.one_word.ensures.made (grew_all c.one_without.ensures.made (grew_all c.either_and.ensures.made (grew_all c.ranked.ensures.made (grew_none _))))).made
