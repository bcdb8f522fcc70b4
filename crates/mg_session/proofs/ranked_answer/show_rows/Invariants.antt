use Rattle.std.proofs.Common.{◌≤◌, ℕ, List, take}
use Rattle.mg_defs.specs.CodedText.{TextCode}
use Rattle.mg_reply.specs.Pending.{Passed}
use Rattle.mg_session.specs.Answering.{RowsShown}
use Rattle.mg_session.specs.DocStands.{AreRowsOf, IsDocOf}
use Rattle.mg_session.specs.Parts.{ShownIn}
use Rattle.mg_session.specs.Texts.{SameTexts, TextsFit, TextsStand}
use Rattle.mg_session.proofs.ranked_answer.show_rows.Given as goal

abbrev pub invariant-loop-place : goal.invariant-loop-place
invariant-loop-place g l = record {
  fits : TextsFit (g.S.Store.files l.store) (g.D.Documents.texts l.texts);
  same : SameTexts (g.D.Documents.texts l.fn.texts) (g.D.Documents.texts l.texts);
  looked : ShownIn l.mode (g.S.Store.files l.fn.store) (g.S.Store.files l.store) (g.S.Store.reads l.fn.store) (g.S.Store.reads l.store) (g.S.Store.faults l.fn.store) (g.S.Store.faults l.store);
  output : g.O.Sink.faults l.fn.out ≤ g.O.Sink.faults l.out;
  lacks : g.O.Sink.lacks l.fn.out ≤ g.O.Sink.lacks l.out;
  passed : (rows : List ℕ) × AreRowsOf (IsDocOf (g.D.Documents.texts l.fn.texts) (g.S.Store.files l.fn.store)) l.mode (take l.place l.rows) rows
      × Passed (g.O.Sink.written l.fn.out) (g.O.Sink.written l.out) l.fn.pending l.pending rows;
  shown : (code : TextCode) (collection : List ℕ) → TextsStand (g.D.Documents.texts l.fn.texts) (g.S.Store.files l.fn.store) code collection →
      RowsShown code collection l.mode l.rows l.place (g.O.Sink.written l.fn.out) (g.O.Sink.written l.out) l.fn.pending l.pending (g.S.Store.reads l.fn.store) (g.S.Store.reads l.store);
}
