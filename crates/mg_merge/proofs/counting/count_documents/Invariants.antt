use Rattle.std.proofs.Common.{ℕ, List}
use Rattle.mg_make.specs.Counting.{HasCounted}
use Rattle.mg_merge.specs.Looks.{LooksAtTexts}
use Rattle.mg_merge.specs.Passes.{AreGiven}
use Rattle.mg_merge.specs.Texts.{SameTexts, TextsFit}
use Rattle.mg_merge.proofs.counting.count_documents.Given as goal

abbrev pub invariant-loop-index : goal.invariant-loop-index
invariant-loop-index g l = record {
  fits : TextsFit (g.D.Documents.texts l.texts) (g.S.Store.files l.store);
  same : SameTexts (g.D.Documents.texts l.fn.texts) (g.D.Documents.texts l.texts);
  looks : LooksAtTexts (g.S.Store.files l.fn.store) (g.S.Store.files l.store) (g.S.Store.reads l.fn.store) (g.S.Store.reads l.store) (g.S.Store.faults l.fn.store) (g.S.Store.faults l.store);
  counted : (fed : List ℕ) × AreGiven (g.D.Documents.texts l.fn.texts) (g.S.Store.files l.fn.store) l.index l.left fed × HasCounted l.count fed;
}
