-- What the proofs of crates above cite of this crate's. No other module of them can be named from there.

-- reads of a file from its begin: none, one after another, and how many pages they take
pub use Rattle.mg_front.proofs.ReadPages.{on_same, on_more, read_first, read_first_to}
-- how long the front coding of entries can be
pub use Rattle.mg_front.proofs.ReaderLaws.{front_small}
-- what stands for a string that was looked up, over the same parts
pub use Rattle.mg_front.proofs.StoodLaws.{absent_as, stands_as}
-- what a writer took stays where its files stay
pub use Rattle.mg_front.proofs.Stays.{took_stays}
