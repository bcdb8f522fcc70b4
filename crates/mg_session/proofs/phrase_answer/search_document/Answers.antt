use Rattle.std.proofs.Common.{arith}
use Rattle.mg_session.specs.Calls.{at_sink}
use Rattle.mg_session.proofs.CallLaws.{part_cause, part_lack, put_refused}
use Rattle.mg_session.proofs.PhraseReplyLaws.{decoded_sound}
use Rattle.mg_session.proofs.PhraseWalkLaws.{one_searched, one_unread}
use Rattle.mg_session.proofs.ReplyLaws.{put_sound}
use Rattle.mg_session.proofs.StepLaws.{cause_after}
use Rattle.mg_session.proofs.phrase_answer.search_document.Goals as goal

pub returns-in-Err-clause-searched : goal.returns-in-Err-clause-searched
returns-in-Err-clause-searched g c = λ code collection is.
    one_unread (decoded_sound c.in-Err.refusal _ c.from.ensures (c.in-Err.ensures.never_bad code collection is)) (c.in-Err.ensures.pages code collection is)

pub returns-in-Ok-pass_places-clause-searched : goal.returns-in-Ok-pass_places-clause-searched
returns-in-Ok-pass_places-clause-searched g c = λ code collection is.
    one_searched c.in-Ok.places (c.in-Ok.ensures.content code collection is) c.in-Ok-pass_places.ensures.passed.content c.in-Ok-pass_places.ensures.counted tt (c.in-Ok.ensures.pages code collection is)

pub returns-in-Err-pass_places-clause-searched : goal.returns-in-Err-pass_places-clause-searched
returns-in-Err-pass_places-clause-searched g c = λ code collection is.
    one_searched c.in-Ok.places (c.in-Ok.ensures.content code collection is) c.in-Err-pass_places.ensures.passed.content tt
    (put_sound c.in-Err-pass_places.refusal _ c.from-in-Err-pass_places.ensures) (c.in-Ok.ensures.pages code collection is)

pub returns-in-Err-clause-passed : goal.returns-in-Err-clause-passed
returns-in-Err-clause-passed g c = tt

pub returns-in-Ok-pass_places-clause-passed : goal.returns-in-Ok-pass_places-clause-passed
returns-in-Ok-pass_places-clause-passed g c = (c.in-Ok.places, c.in-Ok.ensures.stood, c.in-Ok-pass_places.ensures.passed.content, c.in-Ok-pass_places.ensures.counted)

pub returns-in-Err-pass_places-clause-passed : goal.returns-in-Err-pass_places-clause-passed
returns-in-Err-pass_places-clause-passed g c = tt

pub returns-in-Err-clause-stepped : goal.returns-in-Err-clause-stepped
returns-in-Err-clause-stepped g c =
    let e = c.in-Err.ensures in
    record { fits = e.fits; same = e.same; step = e.looked; cause = part_cause c.in-Err.refusal c.from.ensures e.cause; lack = part_lack c.in-Err.refusal c.from.ensures }

pub returns-in-Ok-pass_places-clause-stepped : goal.returns-in-Ok-pass_places-clause-stepped
returns-in-Ok-pass_places-clause-stepped g c =
    let found = c.in-Ok.ensures in
    let e = c.in-Ok-pass_places.ensures.passed in
    record {
      fits = found.fits;
      same = found.same;
      step = found.looked;
      cause = record { store = found.cause.later; output = e.cause.later; caused = tt };
      lack = record { later = e.lack.later; lacked = tt };
    }

pub returns-in-Err-pass_places-clause-stepped : goal.returns-in-Err-pass_places-clause-stepped
returns-in-Err-pass_places-clause-stepped g c =
    let found = c.in-Ok.ensures in
    let e = c.in-Err-pass_places.ensures.passed in
    let refused = put_refused {out = at_sink g.O.Sink c.args.out.now} {now = at_sink g.O.Sink c.pass_places.new.out}
    c.in-Err-pass_places.refusal c.from-in-Err-pass_places.ensures e.cause e.lack (omega arith) (omega arith) in
    record {
      fits = found.fits;
      same = found.same;
      step = found.looked;
      cause = cause_after _ _ _ _ _ _ _ found.cause.later (omega arith) (refused.cause _);
      lack = refused.lack;
    }
