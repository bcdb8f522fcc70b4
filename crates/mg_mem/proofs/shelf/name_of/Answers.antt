use Rattle.std.proofs.Common.{rules}
use Rattle.mg_dev.specs.Names.{full_name}
use Rattle.mg_mem.proofs.shelf.name_of.Goals as goal

pub returns : goal.returns
unfolding full_name
returns c = search rules
