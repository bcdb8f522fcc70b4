use Rattle.mg_check_parts.proofs.LookLaws.{looks_err, looks_ok}
use Rattle.mg_check_parts.proofs.UnreadLaws.{looks_bytes}
use Rattle.mg_check_parts.proofs.expected.expect_more.Goals as goal

pub returns-in-Ok-clause-looks : goal.returns-in-Ok-clause-looks
returns-in-Ok-clause-looks g c = looks_ok (looks_bytes c.args.file.part c.requires.of_set c.expect_bytes.ensures.files c.expect_bytes.ensures.reads c.in-Ok.ensures.cause)

pub returns-in-Err-clause-looks : goal.returns-in-Err-clause-looks
returns-in-Err-clause-looks g c = looks_err (looks_bytes c.args.file.part c.requires.of_set c.expect_bytes.ensures.files c.expect_bytes.ensures.reads c.in-Err.ensures.cause)
