pub mod Seen
pub mod Lent
pub mod Offered
pub mod Told
