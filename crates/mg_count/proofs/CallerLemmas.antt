-- What the proofs of crates above cite of this crate's. No other module of them can be named from there.

-- what is met with a byte that goes on a piece
pub use Rattle.mg_count.proofs.Scans.{marks-go_on}
-- the bytes of a slice that were taken: all of them, one more, and those that are left
pub use Rattle.mg_count.proofs.Slices.{all_given, given_length, one_more, rest_is, rest_within}
-- those between two places
pub use Rattle.mg_count.proofs.WholePieces.{between-joins, between-length, between-none}
pub use Rattle.mg_count.proofs.Behind.{rest-behind}
