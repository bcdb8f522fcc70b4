use Rattle.mg_top.proofs.NothingDone.{nothing_done}
use Rattle.mg_top.proofs.laws.lacking_runs_do_all.Goals as goal

pub returns : goal.returns
returns c = λ task run stops store input out. nothing_done run stops store input out task
