use Rattle.std.proofs.Common.{◌∙◌}
use Rattle.mg_runs.proofs.Sorting.{key_is}
use Rattle.mg_runs.proofs.groups.key_of.Goals as goal

pub returns : goal.returns
returns c = c.eight_at.ensures ∙ key_is c.args.entry.now
