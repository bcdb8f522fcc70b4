-- What the proofs of crates above cite of this crate's. No other module of them can be named from there.

-- numbers below 2 ^ 48 have logarithms of at most 48, rounded down and up
pub use Rattle.mg_codes.proofs.Instances.{log_small}
pub use Rattle.mg_codes.proofs.ShortWalk.{small_ceil}
-- ones before a zero-bit as a number: its bits, and what is left of it where the ones end
pub use Rattle.mg_codes.proofs.Written.{one_zero, unary_digits}
pub use Rattle.mg_codes.proofs.HeldCodes.{quotient, less_one}
-- the short code with the parameter 1, and a number without its highest bit
pub use Rattle.mg_codes.proofs.FirstCodes.{no_bits}
pub use Rattle.mg_codes.proofs.Instances.{with_highest}
