use Rattle.mg_laws.proofs.FirstMarks as laws
use Rattle.mg_laws.proofs.marks.limits_of_marks.Goals as goal

pub returns-clause-within : goal.returns-clause-within
returns-clause-within c = laws.within_from

pub returns-clause-back : goal.returns-clause-back
returns-clause-back c = laws.within_to
