pub mod Reads
pub mod Checking
