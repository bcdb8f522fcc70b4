use Rattle.std.proofs.Common.{◌≡◌, ℕ, List, length}
use Rattle.mg_dev.specs.declared.part.Part.TheVariants as part
use Rattle.mg_defs.specs.Split.{has_open_end}
use Rattle.mg_front.specs.Reading.{LookedAt}
use Rattle.mg_text.specs.Decoding.{AddsOf, bytes_to_come}
use Rattle.mg_text.specs.Reading.{SameText, TextFits, TextStands}
use Rattle.mg_decode.specs.Documents.{ShownFirst}
use Rattle.mg_decode.proofs.documents.show_documents.Given as goal

abbrev pub invariant-loop-index : goal.invariant-loop-index
invariant-loop-index g l = record {
  fits : TextFits (g.T.LoadedText.reading l.text) (g.S.Store.files l.store);
  same : SameText (g.T.LoadedText.reading l.fn.text) (g.T.LoadedText.reading l.text);
  looked : LookedAt part.Text part.Places (g.S.Store.files l.fn.store) (g.S.Store.files l.store) (g.S.Store.reads l.fn.store) (g.S.Store.reads l.store)
      (g.S.Store.faults l.fn.store) (g.S.Store.faults l.store);
  added : AddsOf g.O.Sink.written g.O.Sink.faults g.O.Sink.lacks l.fn.out l.out l.fn.buffer.left (bytes_to_come l.buffer);
  told : (collection : List ℕ) → TextStands (g.T.LoadedText.reading l.fn.text) (g.S.Store.files l.fn.store) collection → has_open_end collection ≡ l.open_end → length collection ≡ l.fn.buffer.left →
      ShownFirst l.index (g.O.Sink.written l.fn.out) (g.O.Sink.written l.out) l.buffer collection l.fn.buffer.left;
}
