-- What the proofs of crates above cite of this crate's.

-- what the first posting of a list behind a document tells of the documents before it
pub use Rattle.mg_post.proofs.ListHeads.{has_at, later, none_at}
-- a cursor that was asked for no document past one was asked for none past a later one
pub use Rattle.mg_post.proofs.TermLaws.{cursor_later}
-- the pages of all blocks of a cursor's list are those on which the list of its term lies, and no more than those of each block
pub use Rattle.mg_post.proofs.TermLaws.{span_in_list, span_is}
-- the pages that may be read for some documents are within those of the list
pub use Rattle.mg_post.proofs.WholeListLaws.{pages_in_list}
-- the pages of the first blocks of a list are within those of the list
pub use Rattle.mg_post.proofs.ListReadingLaws.{pages_read}
-- and the pages on which these blocks lie are no more than those on which the list does
pub use Rattle.mg_post.proofs.WalkPages.{span_within}
-- what the parts show of a list: it is not before the document, and it is the same for each cursor over the list
pub use Rattle.mg_post.proofs.ShownLaws.{first_low, first_same, stands_later}
