pub mod Sources
pub mod Building
pub mod Made
pub mod Steps
