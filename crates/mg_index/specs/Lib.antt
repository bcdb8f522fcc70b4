pub mod Written
pub mod Listing
pub mod Each
pub mod Roots
pub mod Steps
pub mod Listed
pub mod ListEnds
