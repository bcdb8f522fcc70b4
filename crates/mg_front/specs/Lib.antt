pub mod Entries
pub mod Walk
pub mod Fronting
pub mod Looks
pub mod Reading
pub mod Stood
