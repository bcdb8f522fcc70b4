use Rattle.std.proofs.Common.{arith, ◌≡◌, [], ap, length, refl, subst}
use Rattle.mg_defs.specs.Parse.{text}
use Rattle.mg_layout.specs.declared.head.Head.{Head}
use Rattle.mg_reply.proofs.CallerLemmas.{pass_nothing}
use Rattle.mg_session.specs.Answering.{RowsShown}
use Rattle.mg_session.specs.DocStands.{IsDocOf}
use Rattle.mg_session.specs.SearchLaws.{same_texts, texts_later, texts_then}
use Rattle.mg_session.proofs.DocStandsLaws.{pairs_back, rows_then, rows_whole}
use Rattle.mg_session.proofs.StepLaws.{cause_after, shown_none, shown_then}
use Rattle.mg_session.proofs.TotalLaws.{lack_after}
use Rattle.mg_session.proofs.RankedLaws.{numbered, pages_cut, rows_cut, rows_more, rows_passed, rows_read, rows_start}
use Rattle.mg_session.proofs.ranked_answer.show_rows.Goals as goal

pub loop-place-init : goal.loop-place-init
loop-place-init g c = record {
  fits = c.requires.fits;
  same = same_texts _;
  looked = shown_none _ _ _ _;
  output = omega arith;
  lacks = omega arith;
  passed = ([], refl, pass_nothing _ _);
  shown = λ code collection is. rows_start _ _ _ _ _ _ _;
}

pub show_doc-requires : goal.show_doc-requires
show_doc-requires g c =
    let numbered_row = numbered (g.D.Documents.texts c.args.texts.now).head.documents c.args.rows.now c.loop-place.place c.row-row.result.number
    c.requires.range (omega arith) c.row-row.ensures.number in
    record {
      fits = c.loop-place.invariant.fits;
      some = numbered_row.0;
      within = omega (arith, numbered_row.1, ap (λ (h : Head). h.documents) c.loop-place.invariant.same.head);
    }

pub loop-place-preserved : goal.loop-place-preserved
loop-place-preserved g c =
    let inv = c.loop-place.invariant in
    record {
      fits = c.in-Ok.ensures.shown.fits;
      same = texts_then _ _ _ inv.same c.in-Ok.ensures.shown.same;
      looked = shown_then inv.looked c.in-Ok.ensures.shown.looked;
      output = omega (arith, inv.output, c.in-Ok.ensures.shown.cause.output);
      lacks = omega (arith, inv.lacks, c.in-Ok.ensures.shown.lack.later);
      passed = rows_then (IsDocOf (g.D.Documents.texts c.args.texts.now) (g.S.Store.files c.args.store.now))
          c.args.mode c.args.rows.now c.loop-place.place c.row-row.result.number c.row-row.result.score (omega arith) c.row-row.ensures.number c.row-row.ensures.score
          (λ doc. pairs_back (λ pairs. text pairs ≡ doc) inv.same inv.looked.files) inv.passed c.in-Ok.ensures.passed;
      shown = λ code collection is.
          let text = texts_later _ _ _ _ code collection inv.same inv.looked.files is in
          rows_more code collection c.args.mode c.args.rows.now c.loop-place.place c.row-row.result.number c.row-row.result.score _ _ _ _ _ _ _
          (g.S.Store.reads c.loop-place.store) _ (omega arith) c.row-row.ensures.number c.row-row.ensures.score (inv.shown code collection is)
          (c.in-Ok.ensures.shown.content code collection text)
          (c.in-Ok.ensures.shown.pages code collection text);
    }

pub returns-in-Err : goal.returns-in-Err
returns-in-Err g c =
    let so_far = c.loop-place.invariant in
    let e = c.in-Err.ensures.shown in
    record {
      shown = record {
        fits = e.fits;
        same = texts_then _ _ _ so_far.same e.same;
        content = λ code collection is.
            let inv = c.loop-place.invariant in
            let text = texts_later _ _ _ _ code collection inv.same inv.looked.files is in
            rows_cut code collection c.args.mode c.args.rows.now c.loop-place.place c.row-row.result.number c.row-row.result.score _ _ _ _ _ _
            (g.S.Store.reads c.loop-place.store) (omega arith) c.row-row.ensures.number c.row-row.ensures.score (inv.shown code collection is)
            (c.in-Err.ensures.shown.content code collection text);
        pages = λ code collection is.
            let inv = c.loop-place.invariant in
            let text = texts_later _ _ _ _ code collection inv.same inv.looked.files is in
            pages_cut code collection c.args.mode c.args.rows.now c.loop-place.place c.row-row.result.number c.row-row.result.score _ _ _ _ _
            (g.S.Store.reads c.loop-place.store) (g.S.Store.reads c.show_doc.new.store) (omega arith) c.row-row.ensures.number c.row-row.ensures.score
            (inv.shown code collection is)
            (c.in-Err.ensures.shown.pages code collection text);
        sound = λ code collection is.
            let inv = c.loop-place.invariant in
            c.in-Err.ensures.shown.sound code collection (texts_later _ _ _ _ code collection inv.same inv.looked.files is);
        looked = shown_then so_far.looked e.looked;
        cause = cause_after _ _ _ _ _ _ _ so_far.looked.faults so_far.output e.cause;
        lack = lack_after _ _ _ _ so_far.lacks e.lack;
      };
      passed = tt;
    }

pub returns : goal.returns
returns g c =
    let so_far = c.loop-place.invariant in
    record {
      shown = record {
        fits = so_far.fits;
        same = so_far.same;
        content = λ code collection is.
            let all : c.loop-place.place ≡ length c.args.rows.now = omega arith in
            rows_passed code collection c.args.mode c.args.rows.now _ _ _ _ (g.S.Store.reads c.args.store.now) (g.S.Store.reads c.loop-place.store)
            (subst (λ k. RowsShown code collection c.args.mode c.args.rows.now k (g.O.Sink.written c.args.out.now) (g.O.Sink.written c.loop-place.out)
            c.args.pending.now c.loop-place.pending (g.S.Store.reads c.args.store.now) (g.S.Store.reads c.loop-place.store)) all
            (c.loop-place.invariant.shown code collection is));
        pages = λ code collection is.
            let all : c.loop-place.place ≡ length c.args.rows.now = omega arith in
            rows_read code collection c.args.mode c.args.rows.now (g.O.Sink.written c.args.out.now) (g.O.Sink.written c.loop-place.out) c.args.pending.now
            c.loop-place.pending _ _ (subst (λ k. RowsShown code collection c.args.mode c.args.rows.now k (g.O.Sink.written c.args.out.now)
            (g.O.Sink.written c.loop-place.out) c.args.pending.now c.loop-place.pending (g.S.Store.reads c.args.store.now) (g.S.Store.reads c.loop-place.store)) all
            (c.loop-place.invariant.shown code collection is));
        sound = λ code collection is. tt;
        looked = so_far.looked;
        cause = record { store = so_far.looked.faults; output = so_far.output; caused = tt };
        lack = record { later = so_far.lacks; lacked = tt };
      };
      passed = rows_whole (IsDocOf (g.D.Documents.texts c.args.texts.now) (g.S.Store.files c.args.store.now))
          c.args.mode c.args.rows.now c.loop-place.place (omega arith) c.loop-place.invariant.passed;
    }
