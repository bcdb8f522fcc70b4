pub mod Forest
pub mod Rising
pub mod Ranking
