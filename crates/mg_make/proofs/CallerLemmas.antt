-- What the proofs of crates above cite of this crate's. No other module of them can be named from there.

-- failures that rose later rose
pub use Rattle.mg_index.proofs.CallerLemmas.{rose_behind}
-- why a reader stops, where more or less is known
pub use Rattle.mg_index.proofs.CallerLemmas.{read_for}
-- files that no call of a set may touch
pub use Rattle.mg_make.proofs.OthersLaws.{others_more, others_none}
-- a set that is written of something that is read: the ways out
pub use Rattle.mg_make.proofs.SetLaws.{HasAll, set_before, set_ended, set_not_written, set_since}
