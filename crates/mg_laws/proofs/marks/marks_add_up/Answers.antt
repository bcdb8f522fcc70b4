use Rattle.mg_laws.proofs.MarkLaws as laws
use Rattle.mg_laws.proofs.marks.marks_add_up.Goals as goal

pub returns-clause-documents : goal.returns-clause-documents
returns-clause-documents c = laws.starts_append

pub returns-clause-pieces : goal.returns-clause-pieces
returns-clause-pieces c = laws.pieces_append

pub returns-clause-pairs : goal.returns-clause-pairs
returns-clause-pairs c = laws.pairs_append

pub returns-clause-last : goal.returns-clause-last
returns-clause-last c = laws.pieces_from_append

pub returns-clause-is_open : goal.returns-clause-is_open
returns-clause-is_open c = laws.open_at_append

pub returns-clause-text : goal.returns-clause-text
returns-clause-text c = laws.coded_append

pub returns-clause-bits : goal.returns-clause-bits
returns-clause-bits c = laws.open_append

pub returns-clause-occurrences : goal.returns-clause-occurrences
returns-clause-occurrences c = laws.terms_append
