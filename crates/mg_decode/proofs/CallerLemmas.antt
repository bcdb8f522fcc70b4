-- What the proofs of crates above cite of this crate's. No other module of them can be named from there.

-- a head that was refused or loaded, and the reads of other parts meanwhile
pub use Rattle.mg_decode.proofs.StopLaws.{bad_head, some_head, stands_loaded}
-- where nothing was written, no more was than the head tells
pub use Rattle.mg_decode.proofs.BoundLaws.{nothing_within}
