use Rattle.std.proofs.Common.{Ok}
use Rattle.mg_dev.proofs.CallerLemmas.{cause_ok}
use Rattle.mg_check_parts.proofs.CallerLemmas.{looks_then}
use Rattle.mg_check_text.proofs.KeptLaws.{looks_one}
use Rattle.mg_check_text.proofs.held.expect_kept.Goals as goal

pub returns-in-Ok-true-clause-looks : goal.returns-in-Ok-true-clause-looks
returns-in-Ok-true-clause-looks g c =
    looks_one c.args.feed.now.part c.args.file.part c.requires.page.part_is c.requires.of_set c.shows.ensures.looked (cause_ok c.shows.ensures.cause.later)

pub returns-in-Ok-false-clause-looks : goal.returns-in-Ok-false-clause-looks
returns-in-Ok-false-clause-looks g c =
    looks_then (looks_one {T = Unit {0}} {result = Ok tt} c.args.feed.now.part c.args.file.part c.requires.page.part_is c.requires.of_set
    c.shows.ensures.looked (cause_ok c.shows.ensures.cause.later)) c.expect_more.ensures.looks

pub returns-in-Err-clause-looks : goal.returns-in-Err-clause-looks
returns-in-Err-clause-looks g c =
    looks_one c.args.feed.now.part c.args.file.part c.requires.page.part_is c.requires.of_set c.shows.ensures.looked
    (record { later = c.shows.ensures.cause.later; device = c.in-Err.ensures.cause.failed })
