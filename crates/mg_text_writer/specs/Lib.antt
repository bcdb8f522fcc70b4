pub mod Documents
pub mod Writing
