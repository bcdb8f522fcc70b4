pub mod Looks
pub mod Texts
pub mod Stops
pub mod Merging
pub mod Passes
pub mod Counted
pub mod Written
pub mod Joined
