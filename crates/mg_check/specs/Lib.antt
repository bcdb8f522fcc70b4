pub mod CountedText
pub mod IndexedText
pub mod Rest
pub mod Reads
pub mod Found
pub mod Checks
