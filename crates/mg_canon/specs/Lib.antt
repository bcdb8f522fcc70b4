pub mod Refusals
pub mod Tables
pub mod Symbols
pub mod Pairs
