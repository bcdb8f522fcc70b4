use Rattle.mg_defs.proofs.stands.lists_grow.Goals as goal
use Rattle.mg_defs.proofs.StandGrow.{docs-are, grown, grows-by}
use Rattle.mg_defs.proofs.StandTerms.{document-terms}

pub returns-clause-count : goal.returns-clause-count
returns-clause-count c = docs-are

pub returns-clause-grows : goal.returns-clause-grows
returns-clause-grows c = grows-by

pub returns-clause-grown : goal.returns-clause-grown
returns-clause-grown c = grown

pub returns-clause-document : goal.returns-clause-document
returns-clause-document c = document-terms
