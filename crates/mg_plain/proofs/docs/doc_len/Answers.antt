use Rattle.mg_plain.proofs.DocumentLaws.{first_close, no_close}
use Rattle.mg_plain.proofs.docs.doc_len.Goals as goal

pub returns-in-Some-clause-is : goal.returns-in-Some-clause-is
returns-in-Some-clause-is c = first_close _ _ c.in-Some.ensures.0.high c.in-Some.ensures.0.before c.in-Some.ensures.1

pub returns-in-None-clause-is : goal.returns-in-None-clause-is
returns-in-None-clause-is c = no_close _ c.in-None.ensures
