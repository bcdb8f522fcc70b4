use Rattle.mg_laws.proofs.JoinLaws as laws
use Rattle.mg_laws.proofs.joins.documents_of_both.Goals as goal

pub returns-clause-documents : goal.returns-clause-documents
returns-clause-documents c = laws.documents_joined

pub returns-clause-end : goal.returns-clause-end
returns-clause-end c = laws.end_joined

pub returns-clause-size : goal.returns-clause-size
returns-clause-size c = laws.size_joined

pub returns-clause-first : goal.returns-clause-first
returns-clause-first c = laws.first_document

pub returns-clause-second : goal.returns-clause-second
returns-clause-second c = laws.second_document
