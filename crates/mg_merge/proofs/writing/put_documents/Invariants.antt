use Rattle.std.proofs.Common.{◌≡◌, ◌≤◌, ℕ, List, [], Some, IsSome}
use Rattle.mg_dev.specs.Files.{file_at}
use Rattle.mg_dev.specs.Names.{full_name}
use Rattle.mg_dev.specs.declared.part.Part.TheVariants.{Head}
use Rattle.mg_make.specs.Putting.{HasPut, OthersSame}
use Rattle.mg_merge.specs.Looks.{reads_index}
use Rattle.mg_merge.specs.Passes.{AreGiven}
use Rattle.mg_merge.specs.Texts.{SameTexts, TextsFit}
use Rattle.mg_merge.proofs.writing.put_documents.Given as goal

abbrev pub invariant-loop-index : goal.invariant-loop-index
invariant-loop-index g l = record {
  fits : TextsFit (g.D.Documents.texts l.texts) (g.S.Store.files l.store);
  same : SameTexts (g.D.Documents.texts l.fn.texts) (g.D.Documents.texts l.texts);
  base : l.writer.base ≡ l.fn.writer.base;
  plan : l.writer.plan ≡ l.fn.writer.plan;
  limit : l.writer.limit ≡ l.fn.writer.limit;
  head : IsSome (g.S.Store.files l.fn.store) → file_at (g.S.Store.files l.store) (full_name l.fn.writer.base Head) ≡ Some [];
  others : OthersSame l.fn.writer.base (g.S.Store.files l.fn.store) (g.S.Store.files l.store);
  index : reads_index (g.S.Store.reads l.store) ≡ reads_index (g.S.Store.reads l.fn.store);
  later : g.S.Store.faults l.fn.store ≤ g.S.Store.faults l.store;
  put : (fed : List ℕ) × AreGiven (g.D.Documents.texts l.fn.texts) (g.S.Store.files l.fn.store) l.index l.left fed × HasPut l.writer (g.S.Store.files l.store) fed;
}
