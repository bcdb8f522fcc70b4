use Rattle.mg_defs.specs.Numbers.{four_at}
use Rattle.mg_runs.specs.Bytes.{number_in}
use Rattle.mg_runs.proofs.entry.number_at.Goals as goal

pub returns : goal.returns
unfolding number_in four_at
returns c = c.four_at.ensures
