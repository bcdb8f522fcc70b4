use Rattle.std.proofs.Common.{arith}
use Rattle.mg_defs.specs.Terms.{document}
use Rattle.mg_defs.specs.Texts.{close, header}
use Rattle.mg_session.proofs.CallLaws.{put_done, put_refused, shown_around, shown_behind, shown_unread}
use Rattle.mg_session.proofs.ShowLaws.{close_cut, doc_closed, doc_cut, flush_cut, header_cut, pass_flushed}
use Rattle.mg_session.proofs.hit.show_text.Goals as goal

pub returns-in-Err : goal.returns-in-Err
returns-in-Err g c =
    let e = c.in-Err.ensures in
    record {
      shown = shown_unread c.requires.fits (put_refused c.in-Err.refusal c.from.ensures e.cause e.lack (omega arith) (omega arith))
          (λ code collection is. header_cut _ _ c.args.pending.now (header c.args.shown.number c.args.shown.score) (document collection c.args.shown.number) close e.content);
      passed = tt;
    }

pub returns-in-Err-flush : goal.returns-in-Err-flush
returns-in-Err-flush g c =
    let h = c.in-Ok.ensures in
    let e = c.in-Err-flush.ensures.put in
    record {
      shown = shown_unread c.requires.fits (put_refused c.in-Err-flush.refusal c.from-in-Err-flush.ensures e.cause e.lack h.cause.later h.lack.later)
          (λ code collection is. header_cut _ _ c.args.pending.now (header c.args.shown.number c.args.shown.score) (document collection c.args.shown.number) close
          (flush_cut _ _ _ _ _ _ h.content e.content));
      passed = tt;
    }

pub returns-in-Err-doc : goal.returns-in-Err-doc
returns-in-Err-doc g c =
    let h = c.in-Ok.ensures in
    let f = c.in-Ok-flush.ensures.put in
    record {
      shown = shown_behind c.in-Err-doc.ensures.shown (omega (arith, h.cause.later, f.cause.later)) (omega (arith, h.lack.later, f.lack.later))
          (λ code collection is put. doc_cut close (pass_flushed h.content f.content c.in-Ok-flush.ensures.empty) c.in-Ok-flush.ensures.empty put);
      passed = tt;
    }

pub returns-in-Ok-close : goal.returns-in-Ok-close
returns-in-Ok-close g c =
    let h = c.in-Ok.ensures in
    let f = c.in-Ok-flush.ensures.put in
    let e = c.in-Ok-close.ensures in
    let put = c.in-Ok-doc.ensures.told in
    record {
      shown = shown_around c.in-Ok-doc.ensures.shown (put_done e.cause.later e.lack.later) (omega (arith, h.cause.later, f.cause.later)) (omega (arith, h.lack.later, f.lack.later))
          (λ code collection is put. doc_closed _ (pass_flushed h.content f.content c.in-Ok-flush.ensures.empty) c.in-Ok-flush.ensures.empty put e.content);
      passed = (put.0, put.1, doc_closed put.0 (pass_flushed h.content f.content c.in-Ok-flush.ensures.empty) c.in-Ok-flush.ensures.empty put.2 e.content);
    }

pub returns-in-Err-close : goal.returns-in-Err-close
returns-in-Err-close g c =
    let h = c.in-Ok.ensures in
    let f = c.in-Ok-flush.ensures.put in
    let e = c.in-Err-close.ensures in
    record {
      shown = shown_around c.in-Ok-doc.ensures.shown (put_refused c.in-Err-close.refusal c.from-in-Err-close.ensures e.cause e.lack (omega arith) (omega arith))
          (omega (arith, h.cause.later, f.cause.later)) (omega (arith, h.lack.later, f.lack.later))
          (λ code collection is put. close_cut _ close (pass_flushed h.content f.content c.in-Ok-flush.ensures.empty) c.in-Ok-flush.ensures.empty put e.content);
      passed = tt;
    }
