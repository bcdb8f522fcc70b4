use Rattle.std.proofs.Common.{arith, [], None, ◌∙◌, sym}
use Rattle.mg_reply.specs.Printed.{at_score}
use Rattle.mg_session.specs.DocStands.{IfText, IsDocOf}
use Rattle.mg_session.proofs.CallLaws.{put_done, shown_unread}
use Rattle.mg_session.proofs.DocStandsLaws.{not_true}
use Rattle.mg_session.proofs.HitLaws.{hidden, hit_passed, hit_shown}
use Rattle.mg_session.proofs.hit.show_hit.Goals as goal

pub returns-then-not-shows-clause-hit : goal.returns-then-not-shows-clause-hit
returns-then-not-shows-clause-hit g c =
    let full = sym c.shows.ensures ∙ c.if-not-shows.true in
    record {
      shown = shown_unread c.requires.fits (put_done (omega arith) (omega arith)) (λ code collection is. hidden _ _ _ _ _ _ _ full);
      passed = ([], not_true _ _ full, hidden _ _ [] _ _ _ _ full);
    }

pub returns-clause-hit : goal.returns-clause-hit
returns-clause-hit g c =
    let room = sym c.shows.ensures ∙ c.if-not-shows.false in
    record {
      shown = hit_shown _ _ _ _ c.args.now.now c.args.rows.now.total c.args.number room c.show_doc.ensures.shown;
      passed = hit_passed _ _ _ _ c.args.now.now.mode c.args.now.now.most c.args.rows.now.total (at_score c.args.number None) c.show_doc.result
          (λ doc. IfText c.args.now.now.mode (IsDocOf (g.D.Documents.texts c.args.texts.now) (g.S.Store.files c.args.store.now) c.args.number doc)) room
          c.show_doc.ensures.passed;
    }
