pub mod Plain
pub mod Commands
pub mod Tasks
