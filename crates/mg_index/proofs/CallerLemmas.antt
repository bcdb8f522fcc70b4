-- What the proofs of crates above cite of this crate's. No other module of them can be named from there.

-- failures that rose later rose
pub use Rattle.mg_index.proofs.Causes.{rose_behind}
-- why lists are not written: of a store, and where more or less is known; and so of a reader
pub use Rattle.mg_index.proofs.ListFrames.{read_for, stops_for, store_stops}
-- what a change tells: of a store, and where more is known
pub use Rattle.mg_index.proofs.ListFrames.{store_tells, tells_for}
-- files that were written twice
pub use Rattle.mg_index.proofs.ListFrames.{wrote_more}
-- a want of the store, behind another call and where nothing is refused
pub use Rattle.mg_index.proofs.StepLaws.{cause_done, cause_then, put_cause}
-- steps that write: a refusal or an answer that is made of another, two of them, and what is among more parts
pub use Rattle.mg_index.proofs.StepLaws.{put_err, put_more, put_ok, put_wider}
-- steps that take postings: two of them, what writes alone, and what is among more parts
pub use Rattle.mg_index.proofs.StepLaws.{step_more, step_put, step_wider}
-- a file that stays has the same bytes
pub use Rattle.mg_index.proofs.WeightFrames.{bytes_stay}
