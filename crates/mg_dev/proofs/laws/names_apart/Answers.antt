use Rattle.mg_dev.specs.Laws.{same_part_of_name}
use Rattle.mg_dev.proofs.NameLaws.{one_base}
use Rattle.mg_dev.proofs.laws.names_apart.Goals as goal

pub returns-clause-parts : goal.returns-clause-parts
returns-clause-parts c = same_part_of_name

pub returns-clause-bases : goal.returns-clause-bases
returns-clause-bases c = one_base
