use Rattle.std.proofs.Common.{ℕ, List}
use Rattle.mg_dev.specs.Moments.{Between}
use Rattle.mg_text.specs.Reading.{TextStands}
use Rattle.mg_check_index.specs.Listing.{IsLaidOut, SameRooms}
use Rattle.mg_check.specs.IndexedText.{HasWholeRoom}
use Rattle.mg_check.proofs.BesideLaws.{HasReadLists}
use Rattle.mg_check_text.specs.Reads.{HasReadText}
use Rattle.mg_check.proofs.postings.read_documents.Given as goal

abbrev pub invariant-loop-before : goal.invariant-loop-before
invariant-loop-before g l = record {
  text : Between g.S.Store.files g.S.Store.reads g.S.Store.faults l.initial.store l.store (HasReadText l.initial.reader l.reader);
  laid : IsLaidOut l.lists;
  rooms : SameRooms l.initial.lists l.lists;
  held : (collection : List ℕ) → TextStands l.initial.reader (g.S.Store.files l.initial.store) collection → HasWholeRoom l.initial.lists collection →
      HasReadLists l.initial.lists l.lists l.before collection;
}
