use Rattle.mg_check_parts.proofs.CallerLemmas.{looks_size, looks_then}
use Rattle.mg_check_index.proofs.ends.expect_ends.Goals as goal

pub returns-in-Err-clause-looks : goal.returns-in-Err-clause-looks
returns-in-Err-clause-looks g c = looks_size c.expect_size.ensures.files c.expect_size.ensures.reads c.in-Err.ensures.cause

pub returns-clause-looks : goal.returns-clause-looks
returns-clause-looks g c =
    looks_then (looks_size c.expect_size.ensures.files c.expect_size.ensures.reads c.in-Ok.ensures.cause)
    (looks_size c.expect_size-2.ensures.files c.expect_size-2.ensures.reads c.expect_size-2.ensures.cause)
