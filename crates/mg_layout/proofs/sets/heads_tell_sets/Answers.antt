use Rattle.mg_layout.proofs.CallerLemmas.{loaded_set, told_set}
use Rattle.mg_layout.proofs.sets.heads_tell_sets.Goals as goal

pub returns-clause-loaded : goal.returns-clause-loaded
returns-clause-loaded c = loaded_set

pub returns-clause-told : goal.returns-clause-told
returns-clause-told c = told_set
