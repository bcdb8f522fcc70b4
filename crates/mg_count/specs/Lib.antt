pub mod Meeting
pub mod DocCounting
pub mod Plans
pub mod Pairs
pub mod Entries
pub mod Scanning
pub mod Counting
pub mod Whole
