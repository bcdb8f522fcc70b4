pub mod Remainders
pub mod Refusals
pub mod Held
pub mod RoundTrips
pub mod Readers
pub mod Writers
