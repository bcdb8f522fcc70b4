use Rattle.mg_laws.proofs.MarkLaws as laws
use Rattle.mg_laws.proofs.marks.marks_have_all.Goals as goal

pub returns-clause-documents : goal.returns-clause-documents
returns-clause-documents c = laws.marks_have_documents

pub returns-clause-pieces : goal.returns-clause-pieces
returns-clause-pieces c = laws.marks_have_pieces

pub returns-clause-pairs : goal.returns-clause-pairs
returns-clause-pairs c = laws.marks_have_pairs

pub returns-clause-text : goal.returns-clause-text
returns-clause-text c = laws.marks_have_text

pub returns-clause-occurrences : goal.returns-clause-occurrences
returns-clause-occurrences c = laws.marks_have_occurrences

pub returns-clause-closed : goal.returns-clause-closed
returns-clause-closed c = laws.marks_are_closed

pub returns-clause-nothing : goal.returns-clause-nothing
returns-clause-nothing c = laws.nothing_is_open
