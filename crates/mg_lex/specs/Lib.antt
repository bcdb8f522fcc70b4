pub mod Terms
pub mod Writing
pub mod Reading
pub mod Stood
