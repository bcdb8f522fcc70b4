-- A cursor that goes over the whole list of a term.
use Rattle.std.proofs.Common.{arith, ◌+◌, ◌≤◌, ℕ, List, length}
use Rattle.std.specs.declared.option.Option.{Option}
use Rattle.mg_dev.specs.Files.{Files}
use Rattle.mg_defs.specs.Lists.{block_count, postings}
use Rattle.mg_defs.specs.PageBounds.{list_bit, list_pages, numbers_in, pages_for, parameter_of}
use Rattle.mg_defs.specs.Split.{documents}
use Rattle.mg_defs.proofs.ListLaws.{list_rises}
use Rattle.mg_laws.proofs.BoundLaws.{met_whole}
use Rattle.mg_laws.proofs.MetBlocks.{own_met}
use Rattle.mg_post.specs.Cursor.{Cursoring}
use Rattle.mg_post.specs.TermLists.{ListsStand, MayAsk}
use Rattle.mg_post.specs.WholeLists.{ListFor}
use Rattle.mg_post.proofs.TermLaws.{cursor_later}

-- the pages that may be read for some documents are within those of the list
pub pages_in_list : (collection asked t : List ℕ) → pages_for collection asked t ≤ list_pages collection t
unfolding pages_for list_pages
pages_in_list collection asked t = met_whole asked (parameter_of collection t) (list_bit collection t) (block_count (length (postings collection t))) (postings collection t)

-- a list may be asked for the document after its last one
pub list_may_ask : (base collection t : List ℕ) (last : ℕ) (files : Option Files) (c : Cursoring) → ListsStand base files collection →
    ListFor base collection t last c → MayAsk base collection (numbers_in (postings collection t)) t (last + 1) files c
list_may_ask base collection t last files c stand f = record {
  stand = stand;
  cursor = cursor_later base collection (numbers_in (postings collection t)) t last (last + 1) c (omega arith) f;
  among = λ k range. own_met (length (documents collection)) k (last + 1) (postings collection t) (list_rises collection t stand.short) range;
}
