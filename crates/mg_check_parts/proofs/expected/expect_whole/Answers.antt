use Rattle.mg_check_parts.proofs.LookLaws.{looks_err, looks_then}
use Rattle.mg_check_parts.proofs.UnreadLaws.{looks_size}
use Rattle.mg_check_parts.proofs.expected.expect_whole.Goals as goal

pub returns-in-Err-clause-looks : goal.returns-in-Err-clause-looks
returns-in-Err-clause-looks g c = looks_err c.in-Err.ensures.looks

pub returns-clause-looks : goal.returns-clause-looks
returns-clause-looks g c = looks_then c.in-Ok.ensures.looks (looks_size c.expect_size.ensures.files c.expect_size.ensures.reads c.expect_size.ensures.cause)
