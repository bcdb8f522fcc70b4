use Rattle.mg_laws.proofs.FirstMarks as laws
use Rattle.mg_laws.proofs.marks.one_first_mark.Goals as goal

pub returns-clause-front : goal.returns-clause-front
returns-clause-front c = laws.within_front

pub returns-clause-only : goal.returns-clause-only
returns-clause-only c = laws.one_first

pub returns-clause-beyond : goal.returns-clause-beyond
returns-clause-beyond c = laws.first_is_beyond

pub returns-clause-some : goal.returns-clause-some
returns-clause-some c = laws.some_first

pub returns-clause-never : goal.returns-clause-never
returns-clause-never c = laws.never_stop

pub returns-clause-documents : goal.returns-clause-documents
returns-clause-documents c = laws.start_passes

pub returns-clause-pieces : goal.returns-clause-pieces
returns-clause-pieces c = laws.piece_passes
