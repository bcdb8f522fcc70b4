use Rattle.std.proofs.Common.{arith, []}
use Rattle.mg_reply.proofs.CallerLemmas.{pass_nothing}
use Rattle.mg_session.proofs.CallLaws.{put_done, put_refused, shown_unread}
use Rattle.mg_session.proofs.hit.show_doc.Goals as goal

pub returns-in-Ok : goal.returns-in-Ok
returns-in-Ok g c =
    let e = c.in-Ok.ensures in
    rw c.in-Docnums.is (record {
      shown = shown_unread c.requires.fits (put_done e.cause.later e.lack.later) (λ code collection is. e.content);
      passed = ([], tt, e.content);
    })

pub returns-in-Err : goal.returns-in-Err
returns-in-Err g c =
    let e = c.in-Err.ensures in
    rw c.in-Docnums.is (record {
      shown = shown_unread c.requires.fits (put_refused c.in-Err.refusal c.from.ensures e.cause e.lack (omega arith) (omega arith)) (λ code collection is. e.content);
      passed = tt;
    })

pub returns-in-Text : goal.returns-in-Text
returns-in-Text g c = rw c.in-Text.is c.show_text.ensures

pub returns-in-Count : goal.returns-in-Count
returns-in-Count g c = rw c.in-Count.is (record {
  shown = shown_unread c.requires.fits (put_done (omega arith) (omega arith)) (λ code collection is. pass_nothing _ _);
  passed = ([], tt, pass_nothing _ _);
})
