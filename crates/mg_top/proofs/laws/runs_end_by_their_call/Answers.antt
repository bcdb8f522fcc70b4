use Rattle.mg_top.proofs.EndLaws.{ends_complete, ends_done, ends_silent, ends_stopped, ends_unless}
use Rattle.mg_top.proofs.laws.runs_end_by_their_call.Goals as goal

pub returns-clause-done : goal.returns-clause-done
returns-clause-done c = ends_done

pub returns-clause-stopped : goal.returns-clause-stopped
returns-clause-stopped c = ends_stopped

pub returns-clause-refused : goal.returns-clause-refused
returns-clause-refused c = ends_unless

pub returns-clause-complete : goal.returns-clause-complete
returns-clause-complete c = ends_complete

pub returns-clause-silent : goal.returns-clause-silent
returns-clause-silent c = ends_silent
